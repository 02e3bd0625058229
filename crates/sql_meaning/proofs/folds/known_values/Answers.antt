use Rattle.std.proofs.Common.{rules, ap, filter, ◌∙◌}
use Rattle.std.proofs.lemmas.Fn.{filter_same}
use Rattle.sql_meaning.specs.Known.{is_known}
use Rattle.sql_meaning.proofs.folds.known_values.Goals as goal

pub returns : goal.returns
returns c = filter_same _ is_known _ (λ x b f' k. search rules) _ _ c.retain.ensures.filtered ∙ ap (filter is_known) c.into_vec-known.ensures
