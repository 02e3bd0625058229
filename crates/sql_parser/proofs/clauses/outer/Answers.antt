use Rattle.sql_parser.proofs.SelectArms.{finds_outer}
use Rattle.sql_parser.proofs.clauses.outer.Goals as goal

pub returns : goal.returns
returns c =
    finds_outer c.args.reader.now c.take.new.reader c.join.new.reader c.take.result c.join.result c.take.ensures c.join.ensures
