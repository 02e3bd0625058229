use Rattle.std.proofs.Common.{◌≡◌, drop}
use Rattle.sql_tokens.specs.Lexing.{decimal_from}
use Rattle.sql_tokens.proofs.lexer.number.Given as goal

abbrev pub invariant-loop-digit : goal.invariant-loop-digit
invariant-loop-digit l = decimal_from 0 l.digits ≡ decimal_from l.value (drop l.digit-index l.digits)
