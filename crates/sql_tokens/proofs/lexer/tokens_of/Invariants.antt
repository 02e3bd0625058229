use Rattle.std.proofs.Common.{length}
use Rattle.sql_tokens.specs.Lexing.{tokens_of}
use Rattle.sql_tokens.proofs.Lexed.{IsLexed}
use Rattle.sql_tokens.proofs.lexer.tokens_of.Given as goal

abbrev pub invariant-loop-from : goal.invariant-loop-from
invariant-loop-from l = IsLexed (tokens_of l.text) l.tokens.items (length l.text) l.place l.rest

abbrev pub decreases-loop-from : goal.decreases-loop-from
decreases-loop-from l = length l.rest
