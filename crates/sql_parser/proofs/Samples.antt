-- The tree of `SELECT a FROM t WHERE b`, derived by hand.
use Rattle.std.proofs.Common.{◌≡◌, ◌≢◌, ℕ, List, [], ◌∷◌, Some, None, false, refl}
use Rattle.sql_tokens.specs.declared.token.Token.{Token}
use Rattle.sql_tokens.specs.declared.token.Kind.TheVariants as kind
use Rattle.sql_tokens.specs.declared.token.Clause.TheVariants as clause
use Rattle.sql_tokens.specs.declared.token.Word.{Word}
use Rattle.sql_tokens.specs.declared.token.Word.TheVariants as word
use Rattle.sql_tokens.specs.declared.level.Level.{Level}
use Rattle.sql_tokens.specs.declared.level.Level.TheVariants as level
use Rattle.sql_tree.specs.declared.tree.Name.{Name}
use Rattle.sql_tokens.specs.Lexing.{token_at}
use Rattle.sql_tokens.specs.Tokens.{next, after}
use Rattle.sql_tokens.specs.Levels.{sign_at}
use Rattle.sql_faults.specs.Calls.{IsNamed, name_of}
use Rattle.sql_tree.specs.Tree.{column}
use Rattle.sql_tree.specs.Select.{SelectTree, one}
use Rattle.sql_parser.specs.Grammar.{signed, a_chain, no_more, no_not, no_sign, a_column, Spells}
use Rattle.sql_parser.specs.SelectGrammar as grammar
use Rattle.sql_parser.specs.SelectGrammar.{SpellsExpression, IsSelect}

-- a column by its name alone, where no operator follows
column_alone : (ts : List Token) (w : Word) → IsNamed (next ts).kind w → (next ts).kind ≢ kind.Not → (next ts).kind ≢ kind.Minus → (next ts).kind ≢ kind.Plus → ((l : Level) → sign_at l (next (after ts)).kind ≡ None)
    → (next (after ts)).kind ≢ kind.Dot → (next (after ts)).kind ≢ kind.Open → SpellsExpression ts (column None (name_of (next ts))) (after ts)
column_alone ts w n not minus plus none dot parenthesis =
    let atom : Spells signed ts (column None (name_of (next ts))) (after ts) = no_sign minus plus (a_column w n dot parenthesis) in
    a_chain (a_chain (no_not not (a_chain (a_chain (a_chain (a_chain (a_chain atom (no_more (none level.Joined))) (no_more (none level.Product))) (no_more (none level.Sum))) (no_more (none level.Less))) (no_more (none level.Equal)))) (no_more (none level.And))) (no_more (none level.Or))

abbrev pub column_tokens : List Token
column_tokens =
    token_at (kind.Clause clause.Select) 0 6 0 ∷ token_at (kind.Name word.Plain) 7 8 6 ∷ token_at (kind.Clause clause.From) 9 13 8 ∷ token_at (kind.Name word.Plain) 14 15 13
    ∷ token_at (kind.Clause clause.Where) 16 21 15 ∷ token_at (kind.Name word.Plain) 22 23 21 ∷ token_at kind.End 23 23 23 ∷ []

abbrev pub named_at : ℕ → ℕ → Name
named_at start end = record { span = record { start = start; end = end }; is_quoted = false }

abbrev pub column_select : SelectTree
column_select = record {
  is_distinct = false;
  items = one (column None (named_at 7 8)) (record { start = 7; end = 8 }) None ∷ [];
  sources = record { table = named_at 14 15; alias = None; is_outer = false; on = None; using = [] } ∷ [];
  filter = Some (column None (named_at 22 23));
  keys = [];
  having = None;
  terms = [];
  limit = None;
  skip = None;
}

no_sign_at : (l : Level) → sign_at l (kind.Clause clause.From) ≡ None
no_sign_at level.Or = refl
no_sign_at level.And = refl
no_sign_at level.Equal = refl
no_sign_at level.Less = refl
no_sign_at level.Sum = refl
no_sign_at level.Product = refl
no_sign_at level.Joined = refl

no_sign_at_end : (l : Level) → sign_at l kind.End ≡ None
no_sign_at_end level.Or = refl
no_sign_at_end level.And = refl
no_sign_at_end level.Equal = refl
no_sign_at_end level.Less = refl
no_sign_at_end level.Sum = refl
no_sign_at_end level.Product = refl
no_sign_at_end level.Joined = refl

pub column_derived : IsSelect column_tokens column_select
column_derived = record {
  rest = token_at kind.End 23 23 23 ∷ [];
  spelled = record {
    behind_opening = after column_tokens;
    behind_items = after (after column_tokens);
    behind_from = after (after (after (after column_tokens)));
    behind_where = token_at kind.End 23 23 23 ∷ [];
    behind_group = token_at kind.End 23 23 23 ∷ [];
    behind_having = token_at kind.End 23 23 23 ∷ [];
    behind_order = token_at kind.End 23 23 23 ∷ [];
    opening = grammar.an_opening refl (grammar.no_distinct (λ e. cc));
    items = grammar.listed (grammar.an_item refl (λ e. cc) (grammar.an_expression (column_alone (after column_tokens) word.Plain refl (λ e. cc) (λ e. cc) (λ e. cc) no_sign_at (λ e. cc) (λ e. cc)) (grammar.no_alias refl (λ e. cc)))) (grammar.no_further (grammar.no_comma (λ e. cc)));
    from = grammar.a_from refl (grammar.listed (grammar.a_table (grammar.a_name refl) (grammar.no_alias refl (λ e. cc)) (refl, refl)) (grammar.no_further (grammar.no_further_table (grammar.no_table (λ e. cc) (λ e. cc) (λ e. cc) (λ e. cc) (λ e. cc)))));
    filter = grammar.a_where refl (column_alone (after (after (after (after (after column_tokens))))) word.Plain refl (λ e. cc) (λ e. cc) (λ e. cc) no_sign_at_end (λ e. cc) (λ e. cc));
    group = grammar.no_group (λ e. cc);
    having = grammar.no_having (λ e. cc);
    order = grammar.no_order (λ e. cc);
    limit = grammar.no_limit (λ e. cc);
  };
  ended = grammar.at_end refl;
}
