use Rattle.std.proofs.Common.{ltb, length}
use Rattle.sql_tokens.specs.Lexing.{tokens_of}
use Rattle.sql_parser.specs.Text.{too_long}
use Rattle.sql_faults.specs.Reading.{faults, whole}
use Rattle.sql_parser.proofs.Whole.{no_fault}
use Rattle.sql_parser.proofs.WholeTold.{faultless_expression}
use Rattle.sql_parser.proofs.parse.faultless_expression.Goals as goal

pub returns : goal.returns
returns c = λ text e. faultless_expression (tokens_of text) (no_fault (ltb 65536 (length text)) too_long (faults whole (tokens_of text)) e)
