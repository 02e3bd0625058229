use Rattle.sql_parser.proofs.OneSelect.{one_tree}
use Rattle.sql_parser.proofs.parse.one_tree.Goals as goal

pub returns : goal.returns
returns c = one_tree
