-- The grammar of expressions: which tokens, from where to where, spell which tree.
use Rattle.std.specs.Prelude.{◌≡◌, ◌≢◌, List, Some, None, Bool, true, false}
use Rattle.sql_tokens.specs.declared.token.Token.{Token}
use Rattle.sql_tokens.specs.declared.token.Kind.TheVariants as kind
use Rattle.sql_tokens.specs.declared.level.Level.{Level}
use Rattle.sql_tokens.specs.declared.level.Level.TheVariants as level
use Rattle.sql_tokens.specs.declared.level.Sign.TheVariants as sign
use Rattle.sql_tree.specs.declared.tree.Operator.TheVariants as op
use Rattle.sql_tokens.specs.Tokens.{next, after}
use Rattle.sql_tokens.specs.declared.token.Word.{Word}
use Rattle.sql_tokens.specs.Levels.{sign_at}
use Rattle.sql_faults.specs.declared.arguments.Shape.{Shape}
use Rattle.sql_faults.specs.declared.arguments.Shape.TheVariants as shape
use Rattle.sql_faults.specs.Calls.{IsNamed, name_of, call_of, type_of}
use Rattle.sql_faults.specs.Reading.{one_longer}
use Rattle.sql_tree.specs.Tree.{Tree, OneStep, binary, among, between, Steps, no_steps, then, Trees, no_trees, and_tree, chained}
use Rattle.sql_tree.specs.Tree as tree

-- what an expression is at each strength of its operators
pub data Class : Type 0 where
  chain : Level → Class
  negated : Class
  signed : Class
  atom : Class

-- what stands between the operators of a level
abbrev pub operand : Level → Class
operand level.Or = chain level.And
operand level.And = negated
operand level.Equal = chain level.Less
operand level.Less = chain level.Sum
operand level.Sum = chain level.Product
operand level.Product = chain level.Joined
operand level.Joined = signed

-- AS name ")", the name being that of a type
pub record SpellsType (ts : List Token) (is_text : Bool) (rest : List Token) : Type 0 where
  pub word : Word
  pub begins : (next ts).kind ≡ kind.As
  pub named : IsNamed (next (after ts)).kind word
  pub typed : type_of word ≡ Some is_text
  pub closed : (next (after (after ts))).kind ≡ kind.Close
  pub ends : rest ≡ after (after (after ts))

-- Spells c ts tree rest: what stands from ts to before rest is a c, and this is its tree
mutual
  pub data Spells : Class → List Token → Tree → List Token → Type 0 where
    -- as long as an operator of the level follows
    a_chain : {l : Level} {ts : List Token} {first : Tree} {middle : List Token} {steps : Steps} {rest : List Token}
        → Spells (operand l) ts first middle → Further l middle no_steps steps rest → Spells (chain l) ts (chained first steps) rest
    a_not : {ts : List Token} {inner : Tree} {rest : List Token}
        → (next ts).kind ≡ kind.Not → Spells negated (after ts) inner rest → Spells negated ts (tree.negation inner) rest
    no_not : {ts : List Token} {inner : Tree} {rest : List Token}
        → (next ts).kind ≢ kind.Not → Spells (chain level.Equal) ts inner rest → Spells negated ts inner rest
    a_minus : {ts : List Token} {inner : Tree} {rest : List Token}
        → (next ts).kind ≡ kind.Minus → Spells signed (after ts) inner rest → Spells signed ts (tree.minus inner) rest
    a_plus : {ts : List Token} {inner : Tree} {rest : List Token}
        → (next ts).kind ≡ kind.Plus → Spells signed (after ts) inner rest → Spells signed ts (tree.plus inner) rest
    no_sign : {ts : List Token} {inner : Tree} {rest : List Token}
        → (next ts).kind ≢ kind.Minus → (next ts).kind ≢ kind.Plus → Spells atom ts inner rest → Spells signed ts inner rest
    a_number : {ts : List Token} {value : _}
        → (next ts).kind ≡ kind.Number (Some value) → Spells atom ts (tree.number (next ts).span.start value) (after ts)
    a_text : {ts : List Token}
        → (next ts).kind ≡ kind.Text → Spells atom ts (tree.text (next ts).span) (after ts)
    a_null : {ts : List Token}
        → (next ts).kind ≡ kind.Null → Spells atom ts tree.null (after ts)
    a_column : {ts : List Token} (w : Word)
        → IsNamed (next ts).kind w → (next (after ts)).kind ≢ kind.Dot → (next (after ts)).kind ≢ kind.Open → Spells atom ts (tree.column None (name_of (next ts))) (after ts)
    a_table_column : {ts : List Token} (w v : Word)
        → IsNamed (next ts).kind w → (next (after ts)).kind ≡ kind.Dot → IsNamed (next (after (after ts))).kind v
        → Spells atom ts (tree.column (Some (name_of (next ts))) (name_of (next (after (after ts))))) (after (after (after ts)))
    a_call : {ts : List Token} {s : Shape} {items : Trees} {whole : Tree} {rest : List Token} (w : Word)
        → IsNamed (next ts).kind w → SpellsArguments (after ts) s items rest → call_of (next ts).span.start w s items ≡ Some whole → Spells atom ts whole rest
    a_cast : {ts : List Token} {inner : Tree} {middle : List Token} {is_text : Bool} {rest : List Token}
        → (next ts).kind ≡ kind.Cast → (next (after ts)).kind ≡ kind.Open → Spells (chain level.Or) (after (after ts)) inner middle → SpellsType middle is_text rest → Spells atom ts (tree.cast inner is_text) rest
    in_parentheses : {ts : List Token} {inner : Tree} {rest : List Token}
        → (next ts).kind ≡ kind.Open → Spells (chain level.Or) (after ts) inner rest → (next rest).kind ≡ kind.Close → Spells atom ts inner (after rest)

  -- "(" ("*" | [DISTINCT] e {"," e}) ")", with their shape. No function is called without an argument.
  pub data SpellsArguments : List Token → Shape → Trees → List Token → Type 0 where
    all_rows : {ts : List Token}
        → (next ts).kind ≡ kind.Open → (next (after ts)).kind ≡ kind.Star → (next (after (after ts))).kind ≡ kind.Close → SpellsArguments ts shape.All no_trees (after (after (after ts)))
    distinct_arguments : {ts : List Token} {s : Shape} {items : Trees} {rest : List Token}
        → (next ts).kind ≡ kind.Open → (next (after ts)).kind ≡ kind.Distinct → SpellsCounted (after (after ts)) (shape.Distinct 1) s items rest → SpellsArguments ts s items rest
    plain_arguments : {ts : List Token} {s : Shape} {items : Trees} {rest : List Token}
        → (next ts).kind ≡ kind.Open → (next (after ts)).kind ≢ kind.Close → (next (after ts)).kind ≢ kind.Star → (next (after ts)).kind ≢ kind.Distinct → SpellsCounted (after ts) (shape.Plain 1) s items rest → SpellsArguments ts s items rest

  -- e {"," e} ")", from the shape with the first one to that with all
  pub data SpellsCounted : List Token → Shape → Shape → Trees → List Token → Type 0 where
    first_argument : {ts : List Token} {one : Shape} {first : Tree} {middle : List Token} {all : Shape} {items : Trees} {rest : List Token}
        → Spells (chain level.Or) ts first middle → FurtherArguments middle one (and_tree no_trees first) all items rest → SpellsCounted ts one all items rest

  pub data FurtherArguments : List Token → Shape → Trees → Shape → Trees → List Token → Type 0 where
    last_argument : {ts : List Token} {s : Shape} {items : Trees}
        → (next ts).kind ≡ kind.Close → FurtherArguments ts s items s items (after ts)
    one_argument : {ts : List Token} {item : Tree} {middle : List Token} {s total : Shape} {before all : Trees} {rest : List Token}
        → (next ts).kind ≡ kind.Comma → Spells (chain level.Or) (after ts) item middle → FurtherArguments middle (one_longer s) (and_tree before item) total all rest → FurtherArguments ts s before total all rest

  -- operators with their right sides, as long as one of the level follows: from the steps before to all of them
  pub data Further : Level → List Token → Steps → Steps → List Token → Type 0 where
    no_more : {l : Level} {ts : List Token} {steps : Steps}
        → sign_at l (next ts).kind ≡ None → Further l ts steps steps ts
    more : {l : Level} {ts : List Token} {step : OneStep} {middle : List Token} {before all : Steps} {rest : List Token}
        → SpellsStep l ts step middle → Further l middle (then before step) all rest → Further l ts before all rest

  pub data SpellsStep : Level → List Token → OneStep → List Token → Type 0 where
    a_binary : {l : Level} {ts : List Token} {o : _} {right : Tree} {rest : List Token}
        → sign_at l (next ts).kind ≡ Some (sign.Binary o) → Spells (operand l) (after ts) right rest → SpellsStep l ts (binary o right) rest
    an_is : {l : Level} {ts : List Token} {right : Tree} {rest : List Token}
        → sign_at l (next ts).kind ≡ Some sign.Is → (next (after ts)).kind ≢ kind.Not → Spells (operand l) (after ts) right rest → SpellsStep l ts (binary op.Is right) rest
    an_is_not : {l : Level} {ts : List Token} {right : Tree} {rest : List Token}
        → sign_at l (next ts).kind ≡ Some sign.Is → (next (after ts)).kind ≡ kind.Not → Spells (operand l) (after (after ts)) right rest → SpellsStep l ts (binary op.IsNot right) rest
    an_in : {l : Level} {ts : List Token} {items : Trees} {rest : List Token}
        → sign_at l (next ts).kind ≡ Some sign.In → SpellsList (after ts) items rest → SpellsStep l ts (among false items) rest
    a_between : {l : Level} {ts : List Token} {step : OneStep} {rest : List Token}
        → sign_at l (next ts).kind ≡ Some sign.Between → SpellsBetween l false (after ts) step rest → SpellsStep l ts step rest
    a_negated : {l : Level} {ts : List Token} {step : OneStep} {rest : List Token}
        → sign_at l (next ts).kind ≡ Some sign.Not → SpellsNegated l (after ts) step rest → SpellsStep l ts step rest

  -- behind NOT
  pub data SpellsNegated : Level → List Token → OneStep → List Token → Type 0 where
    a_not_like : {l : Level} {ts : List Token} {right : Tree} {rest : List Token}
        → (next ts).kind ≡ kind.Like → Spells (operand l) (after ts) right rest → SpellsNegated l ts (binary op.NotLike right) rest
    a_not_in : {l : Level} {ts : List Token} {items : Trees} {rest : List Token}
        → (next ts).kind ≡ kind.In → SpellsList (after ts) items rest → SpellsNegated l ts (among true items) rest
    a_not_between : {l : Level} {ts : List Token} {step : OneStep} {rest : List Token}
        → (next ts).kind ≡ kind.Between → SpellsBetween l true (after ts) step rest → SpellsNegated l ts step rest

  -- behind BETWEEN: two operands with AND between them
  pub data SpellsBetween : Level → Bool → List Token → OneStep → List Token → Type 0 where
    two_ends : {l : Level} {is_negated : Bool} {ts : List Token} {low high : Tree} {middle rest : List Token}
        → Spells (operand l) ts low middle → (next middle).kind ≡ kind.And → Spells (operand l) (after middle) high rest → SpellsBetween l is_negated ts (between is_negated low high) rest

  -- "(" [e {"," e}] ")"
  pub data SpellsList : List Token → Trees → List Token → Type 0 where
    no_items : {ts : List Token}
        → (next ts).kind ≡ kind.Open → (next (after ts)).kind ≡ kind.Close → SpellsList ts no_trees (after (after ts))
    some_items : {ts : List Token} {first : Tree} {middle : List Token} {items : Trees} {rest : List Token}
        → (next ts).kind ≡ kind.Open → (next (after ts)).kind ≢ kind.Close → Spells (chain level.Or) (after ts) first middle → FurtherItems middle (and_tree no_trees first) items rest → SpellsList ts items rest

  -- {"," e} ")"
  pub data FurtherItems : List Token → Trees → Trees → List Token → Type 0 where
    last : {ts : List Token} {items : Trees}
        → (next ts).kind ≡ kind.Close → FurtherItems ts items items (after ts)
    one_more : {ts : List Token} {item : Tree} {middle : List Token} {before all : Trees} {rest : List Token}
        → (next ts).kind ≡ kind.Comma → Spells (chain level.Or) (after ts) item middle → FurtherItems middle (and_tree before item) all rest → FurtherItems ts before all rest
