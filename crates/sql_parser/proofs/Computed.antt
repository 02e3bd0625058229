-- The tree of an expression's tokens, computed. Whatever the grammar derives, this finds, so that there is one tree at most.
use Rattle.std.specs.Prelude.{ℕ, ℤ, suc, zero, List, length, Option, Some, None, Bool, true, false}
use Rattle.sql_tokens.specs.declared.token.Token.{Token}
use Rattle.sql_tokens.specs.declared.token.Kind.{Kind}
use Rattle.sql_tokens.specs.declared.token.Kind.TheVariants as kind
use Rattle.sql_tokens.specs.declared.token.Word.{Word}
use Rattle.sql_faults.specs.declared.arguments.Shape.{Shape}
use Rattle.sql_faults.specs.declared.arguments.Shape.TheVariants as shape
use Rattle.sql_tokens.specs.declared.level.Level.{Level}
use Rattle.sql_tokens.specs.declared.level.Level.TheVariants as level
use Rattle.sql_tokens.specs.declared.level.Sign.{Sign}
use Rattle.sql_tokens.specs.declared.level.Sign.TheVariants as sign
use Rattle.sql_tree.specs.declared.tree.Operator.TheVariants as op
use Rattle.sql_tokens.specs.Tokens.{next, after}
use Rattle.sql_tokens.specs.Levels.{sign_at}
use Rattle.sql_faults.specs.Calls.{name_of, call_of, type_of}
use Rattle.sql_faults.specs.Reading.{one_longer}
use Rattle.sql_parser.specs.Grammar.{Class, chain, negated, signed, atom, operand}
use Rattle.sql_tree.specs.Tree.{Tree, OneStep, binary, among, between, Steps, no_steps, then, Trees, no_trees, and_tree, chained}
use Rattle.sql_tree.specs.Tree as tree

abbrev pub Found : Type 0 → Type 0
Found X = Option (X × List Token)

abbrev pub Reads : Type 0
Reads = Class → List Token → Found Tree

abbrev pub and_then : {X Y : Type 0} → Found X → (X → List Token → Found Y) → Found Y
and_then None f = None
and_then (Some x) f = f x.0 x.1

-- {"," e} ")"
abbrev pub more_by : Reads → (Trees → Shape → List Token → Found (Trees × Shape)) → Trees → Shape → List Token → Kind → Found (Trees × Shape)
more_by r others before s ts kind.Close = Some ((before, s), after ts)
more_by r others before s ts kind.Comma = and_then (r (chain level.Or) (after ts)) (λ item rest. others (and_tree before item) (one_longer s) rest)
more_by r others before s ts other = None

abbrev pub more_items : Reads → ℕ → Trees → Shape → List Token → Found (Trees × Shape)
more_items r zero before s ts = None
more_items r (suc n) before s ts = more_by r (more_items r n) before s ts (next ts).kind

abbrev pub counted : Reads → Shape → List Token → Found (Trees × Shape)
counted r s ts = and_then (r (chain level.Or) ts) (λ first rest. more_items r (suc (length rest)) (and_tree no_trees first) s rest)

-- the items of IN, behind their parenthesis
abbrev pub list_by : Reads → List Token → Kind → Found (Trees × Shape)
list_by r ts kind.Close = Some ((no_trees, shape.Plain 0), after ts)
list_by r ts other = counted r (shape.Plain 1) ts

abbrev pub opened_by : Reads → List Token → Kind → Found (Trees × Shape)
opened_by r ts kind.Open = list_by r (after ts) (next (after ts)).kind
opened_by r ts other = None

abbrev pub opened : Reads → List Token → Found (Trees × Shape)
opened r ts = opened_by r ts (next ts).kind

abbrev pub all_by : List Token → Kind → Found (Trees × Shape)
all_by ts kind.Close = Some ((no_trees, shape.All), after ts)
all_by ts other = None

-- the arguments of a call, behind its parenthesis
abbrev pub arguments_by : Reads → List Token → Kind → Found (Trees × Shape)
arguments_by r ts kind.Close = None
arguments_by r ts kind.Star = all_by (after ts) (next (after ts)).kind
arguments_by r ts kind.Distinct = counted r (shape.Distinct 1) (after ts)
arguments_by r ts other = counted r (shape.Plain 1) ts

abbrev pub high_by : Reads → Level → Bool → Tree → List Token → Kind → Found OneStep
high_by r l is_negated low ts kind.And = and_then (r (operand l) (after ts)) (λ high rest. Some (between is_negated low high, rest))
high_by r l is_negated low ts other = None

abbrev pub ends_of : Reads → Level → Bool → List Token → Found OneStep
ends_of r l is_negated ts = and_then (r (operand l) ts) (λ low rest. high_by r l is_negated low rest (next rest).kind)

abbrev pub negated_step : Reads → Level → List Token → Kind → Found OneStep
negated_step r l ts kind.Like = and_then (r (operand l) (after ts)) (λ right rest. Some (binary op.NotLike right, rest))
negated_step r l ts kind.In = and_then (opened r (after ts)) (λ items rest. Some (among true items.0, rest))
negated_step r l ts kind.Between = ends_of r l true (after ts)
negated_step r l ts other = None

abbrev pub is_step : Reads → Level → List Token → Kind → Found OneStep
is_step r l ts kind.Not = and_then (r (operand l) (after ts)) (λ right rest. Some (binary op.IsNot right, rest))
is_step r l ts other = and_then (r (operand l) ts) (λ right rest. Some (binary op.Is right, rest))

-- behind its first token
abbrev pub step : Reads → Level → Sign → List Token → Found OneStep
step r l (sign.Binary o) ts = and_then (r (operand l) ts) (λ right rest. Some (binary o right, rest))
step r l sign.Is ts = is_step r l ts (next ts).kind
step r l sign.Not ts = negated_step r l ts (next ts).kind
step r l sign.In ts = and_then (opened r ts) (λ items rest. Some (among false items.0, rest))
step r l sign.Between ts = ends_of r l false ts

abbrev pub steps_by : Reads → (Steps → List Token → Found Steps) → Level → Steps → List Token → Option Sign → Found Steps
steps_by r others l before ts None = Some (before, ts)
steps_by r others l before ts (Some s) = and_then (step r l s (after ts)) (λ one rest. others (then before one) rest)

abbrev pub more_steps : Reads → ℕ → Level → Steps → List Token → Found Steps
more_steps r zero l before ts = None
more_steps r (suc n) l before ts = steps_by r (more_steps r n l) l before ts (sign_at l (next ts).kind)

abbrev pub negated_by : Reads → List Token → Kind → Found Tree
negated_by r ts kind.Not = and_then (r negated (after ts)) (λ inner rest. Some (tree.negation inner, rest))
negated_by r ts other = r (chain level.Equal) ts

abbrev pub signed_by : Reads → List Token → Kind → Found Tree
signed_by r ts kind.Minus = and_then (r signed (after ts)) (λ inner rest. Some (tree.minus inner, rest))
signed_by r ts kind.Plus = and_then (r signed (after ts)) (λ inner rest. Some (tree.plus inner, rest))
signed_by r ts other = r atom ts

abbrev pub made : Option Tree → List Token → Found Tree
made None ts = None
made (Some whole) ts = Some (whole, ts)

abbrev pub member_by : Token → List Token → Kind → Found Tree
member_by table ts (kind.Name w) = Some (tree.column (Some (name_of table)) (name_of (next ts)), after ts)
member_by table ts (kind.QuotedName w) = Some (tree.column (Some (name_of table)) (name_of (next ts)), after ts)
member_by table ts other = None

abbrev pub named_by : Reads → Word → Token → List Token → Kind → Found Tree
named_by r w t ts kind.Dot = member_by t (after ts) (next (after ts)).kind
named_by r w t ts kind.Open = and_then (arguments_by r (after ts) (next (after ts)).kind) (λ items rest. made (call_of t.span.start w items.1 items.0) rest)
named_by r w t ts other = Some (tree.column None (name_of t), ts)

abbrev pub closed_by : Tree → List Token → Kind → Found Tree
closed_by inner ts kind.Close = Some (inner, after ts)
closed_by inner ts other = None

-- AS name ")"
abbrev pub type_end : List Token → Option Bool → Kind → Found Bool
type_end ts (Some is_text) kind.Close = Some (is_text, after ts)
type_end ts (Some is_text) other = None
type_end ts None k = None

abbrev pub type_named : List Token → Kind → Found Bool
type_named ts (kind.Name w) = type_end (after ts) (type_of w) (next (after ts)).kind
type_named ts (kind.QuotedName w) = type_end (after ts) (type_of w) (next (after ts)).kind
type_named ts other = None

abbrev pub type_by : List Token → Kind → Found Bool
type_by ts kind.As = type_named (after ts) (next (after ts)).kind
type_by ts other = None

-- behind CAST
abbrev pub cast_by : Reads → List Token → Kind → Found Tree
cast_by r ts kind.Open = and_then (r (chain level.Or) (after ts)) (λ inner rest. and_then (type_by rest (next rest).kind) (λ is_text end. Some (tree.cast inner is_text, end)))
cast_by r ts other = None

abbrev pub number_by : Token → List Token → Option ℤ → Found Tree
number_by t ts None = None
number_by t ts (Some value) = Some (tree.number t.span.start value, ts)

abbrev pub atom_by : Reads → List Token → Kind → Found Tree
atom_by r ts (kind.Number value) = number_by (next ts) (after ts) value
atom_by r ts kind.Text = Some (tree.text (next ts).span, after ts)
atom_by r ts kind.Null = Some (tree.null, after ts)
atom_by r ts (kind.Name w) = named_by r w (next ts) (after ts) (next (after ts)).kind
atom_by r ts (kind.QuotedName w) = named_by r w (next ts) (after ts) (next (after ts)).kind
atom_by r ts kind.Cast = cast_by r (after ts) (next (after ts)).kind
atom_by r ts kind.Open = and_then (r (chain level.Or) (after ts)) (λ inner rest. closed_by inner rest (next rest).kind)
atom_by r ts other = None

-- one class, where what stands inside is read by r
abbrev pub one : Reads → Reads
one r (chain l) ts = and_then (r (operand l) ts) (λ first rest. and_then (more_steps r (suc (length rest)) l no_steps rest) (λ steps end. Some (chained first steps, end)))
one r negated ts = negated_by r ts (next ts).kind
one r signed ts = signed_by r ts (next ts).kind
one r atom ts = atom_by r ts (next ts).kind

-- The number bounds the turns. A bound of twelve for each token and the end is always enough.
abbrev pub read : ℕ → Reads
read zero c ts = None
read (suc n) c ts = one (read n) c ts
