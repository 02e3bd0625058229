use Rattle.sql_parser.proofs.Arms.{kind_at, kind_not}
use Rattle.sql_parser.proofs.SelectArms.{comma_form, no_form}
use Rattle.sql_parser.proofs.clauses.join_form.Goals as goal

pub returns-in-Comma : goal.returns-in-Comma
returns-in-Comma c =
    comma_form c.args.reader.now c.advance.new.self (kind_at c.args.reader.now c.peek.ensures c.in-Comma.is) c.advance.ensures

pub returns-in_default : goal.returns-in_default
returns-in_default c =
    no_form c.args.reader.now (kind_not c.args.reader.now c.peek.ensures c.in_default.not-Comma) (λ v. kind_not c.args.reader.now c.peek.ensures (c.in_default.not-Clause v))
