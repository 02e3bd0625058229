-- The tree of a text, as a function of the text.
use Rattle.std.specs.Prelude.{ℕ, List, Option}
use Rattle.sql_tokens.specs.declared.token.Token.{Token}
use Rattle.sql_tokens.specs.Lexing.{tokens_of}
use Rattle.sql_tree.specs.Select.{SelectTree}
use Rattle.sql_parser.specs.Judged.{tree_of_judged}
use Rattle.sql_parser.proofs.SelectTold.{judged}

-- The tree that the grammar derives, of tokens without a fault. They have one at most, so that nothing rests on how `judged` finds it: what it
-- answers is said by `Judged` alone.
unfoldable pub select_of_tokens : List Token → Option SelectTree
select_of_tokens tokens = tree_of_judged (judged tokens)

-- the tree of a select
abbrev pub select_of_text : List ℕ → Option SelectTree
select_of_text text = select_of_tokens (tokens_of text)
