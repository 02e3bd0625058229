use Rattle.sql_parser.proofs.SelectArms.{finds_expression}
use Rattle.sql_parser.proofs.clauses.expression.Goals as goal

pub returns : goal.returns
returns c =
    finds_expression c.args.reader.now c.chain.new.reader c.chain.result c.chain.ensures
