use Rattle.std.proofs.Common.{List, IfOk, ap, subst, ◌∙◌}
use Rattle.sql_tokens.specs.declared.token.Token.{Token}
use Rattle.sql_tokens.specs.Lexing.{tokens_of}
use Rattle.sql_tree.specs.View.{tree_of}
use Rattle.sql_parser.specs.Whole.{IsTree}
use Rattle.sql_parser.proofs.parse.parse_expression.Goals as goal

pub returns-clause-tree : goal.returns-clause-tree
returns-clause-tree c =
    subst (λ (x : List Token). IfOk c.parse_tokens.result (λ node. IsTree x (tree_of node))) (c.deref.ensures.value ∙ c.in_ok-tokens.ensures ∙ ap tokens_of c.as_bytes.ensures.value) c.parse_tokens.ensures.tree
