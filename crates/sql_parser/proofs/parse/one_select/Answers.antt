use Rattle.sql_parser.proofs.OneSelect.{one_select}
use Rattle.sql_parser.proofs.parse.one_select.Goals as goal

pub returns : goal.returns
returns c = one_select
