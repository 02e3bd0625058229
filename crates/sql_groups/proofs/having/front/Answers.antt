use Rattle.std.proofs.Common.{◌∙◌, ap, sym, take}
use Rattle.std.specs.List.{take-map}
use Rattle.sql_meaning.specs.Worths.{worth_of, worths}
use Rattle.sql_groups.proofs.having.front.Goals as goal

pub returns : goal.returns
returns c = ap worths (c.from_vec.ensures ∙ c.truncate.ensures.items ∙ ap (take c.args.count) c.into_vec-kept.ensures) ∙ sym (take-map worth_of c.args.count c.args.row)
