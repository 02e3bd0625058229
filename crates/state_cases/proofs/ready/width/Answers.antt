use Rattle.std.proofs.Common.{List, length, sym, ap, ◌∙◌}
use Rattle.std.proofs.lemmas.List.{length-map}
use Rattle.osq_value.specs.Described.{column}
use Rattle.osq_value.specs.Catalogue.{Column, width_of}
use Rattle.state_cases.proofs.ready.width.Goals as goal

pub returns : goal.returns
unfolding width_of
returns c = sym (length-map c.columns.result.now column) ∙ ap (λ (columns : List Column). length columns) c.columns.ensures
