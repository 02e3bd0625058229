use Rattle.sql_parser.proofs.SelectTold.{judged}
use Rattle.sql_parser.proofs.parse.judged_select.Goals as goal

pub returns : goal.returns
returns c = judged
