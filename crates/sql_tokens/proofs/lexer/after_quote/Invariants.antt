use Rattle.std.proofs.Common.{◌≡◌, length}
use Rattle.sql_tokens.specs.Lexing.{after_quote}
use Rattle.sql_tokens.proofs.lexer.after_quote.Given as goal

abbrev pub invariant-loop-rest : goal.invariant-loop-rest
invariant-loop-rest l = after_quote l.quote l.fn.text ≡ after_quote l.quote l.rest

abbrev pub decreases-loop-rest : goal.decreases-loop-rest
decreases-loop-rest l = length l.rest
