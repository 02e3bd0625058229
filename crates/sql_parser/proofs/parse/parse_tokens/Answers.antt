use Rattle.std.proofs.Common.{sym, ◌∙◌}
use Rattle.sql_faults.specs.Reading.{faults, whole}
use Rattle.sql_parser.proofs.Whole.{no_least}
use Rattle.sql_parser.proofs.parse.parse_tokens.Goals as goal

pub unreachable-requires : goal.unreachable-requires
unreachable-requires c =
    let none = no_least (faults whole c.args.tokens.now) (sym c.in_ok-fault-in-Err-Refused.ensures ∙ c.in-None.is) in
    let h = rw c.in-Err-Refused.field-0-is at c.in-Err-Refused.ensures in
    h none
