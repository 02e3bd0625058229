-- Which calls the grammar allows, and what a name names.
use Rattle.std.specs.Prelude.{◌≡◌, ℕ, ◌==◌, nat_le, ◌||◌, ◌&&◌, if◌then◌else◌, Bool, true, false, Option, Some, None}
use Rattle.sql_tokens.specs.declared.token.Kind.{Kind}
use Rattle.sql_tokens.specs.declared.token.Kind.TheVariants as kind
use Rattle.sql_tokens.specs.declared.token.Token.{Token}
use Rattle.sql_tokens.specs.declared.token.Word.{Word}
use Rattle.sql_tokens.specs.declared.token.Word.TheVariants as word
use Rattle.sql_tree.specs.declared.functions.Function.{Function}
use Rattle.sql_tree.specs.declared.functions.Function.TheVariants as function
use Rattle.sql_tree.specs.declared.functions.Fold.{Fold}
use Rattle.sql_tree.specs.declared.functions.Fold.TheVariants as fold
use Rattle.sql_faults.specs.declared.arguments.Shape.{Shape}
use Rattle.sql_faults.specs.declared.arguments.Shape.TheVariants as shape
use Rattle.sql_tree.specs.declared.tree.Name.{Name}
use Rattle.sql_tree.specs.Tree.{Tree, Trees, no_trees, and_tree, call, null, folded, count_all}

-- how many arguments a function takes
abbrev pub takes : Function → ℕ → Bool
takes function.Length n = n == 1
takes function.Lower n = n == 1
takes function.Upper n = n == 1
takes function.Trim n = n == 1
takes function.Substr n = (n == 2) || (n == 3)
takes function.Instr n = n == 2
takes function.Replace n = n == 3
takes function.Abs n = n == 1
takes function.Typeof n = n == 1
takes function.Coalesce n = nat_le 2 n
takes function.Ifnull n = n == 2
takes function.Nullif n = n == 2

abbrev pub is_count : Fold → Bool
is_count fold.Count = true
is_count fold.Sum = false
is_count fold.Min = false
is_count fold.Max = false

-- an aggregate has one argument; `*` and DISTINCT stand in COUNT alone
abbrev pub folds : Fold → Shape → Bool
folds f shape.All = is_count f
folds f (shape.Distinct n) = is_count f && (n == 1)
folds f (shape.Plain n) = n == 1

-- a scalar function has neither `*` nor DISTINCT
abbrev pub takes_shape : Function → Shape → Bool
takes_shape f shape.All = false
takes_shape f (shape.Distinct n) = false
takes_shape f (shape.Plain n) = takes f n

abbrev pub is_known : Word → Bool
is_known word.Plain = false
is_known (word.Scalar f) = true
is_known (word.Aggregate f) = true
is_known word.IntegerType = false
is_known word.TextType = false

abbrev pub is_allowed : Word → Shape → Bool
is_allowed word.Plain s = false
is_allowed (word.Scalar f) s = takes_shape f s
is_allowed (word.Aggregate f) s = folds f s
is_allowed word.IntegerType s = false
is_allowed word.TextType s = false

-- the argument of an aggregate, which has one
abbrev pub only : Trees → Tree
only no_trees = null
only (and_tree before t) = t

abbrev pub folded_of : ℕ → Fold → Shape → Trees → Tree
folded_of p f shape.All arguments = count_all p f false
folded_of p f (shape.Distinct n) arguments = folded p f true (only arguments)
folded_of p f (shape.Plain n) arguments = folded p f false (only arguments)

-- the tree of a call of the name at a place, where it is allowed
abbrev pub call_of : ℕ → Word → Shape → Trees → Option Tree
call_of p word.Plain s arguments = None
call_of p (word.Scalar f) s arguments = if takes_shape f s then Some (call f arguments) else None
call_of p (word.Aggregate f) s arguments = if folds f s then Some (folded_of p f s arguments) else None
call_of p word.IntegerType s arguments = None
call_of p word.TextType s arguments = None

-- whether a type's name is that of the texts, where it is a type
abbrev pub type_of : Word → Option Bool
type_of word.Plain = None
type_of (word.Scalar f) = None
type_of (word.Aggregate f) = None
type_of word.IntegerType = Some false
type_of word.TextType = Some true

-- the token is a name, and this is what it names
abbrev pub IsNamed : Kind → Word → Type 0
IsNamed (kind.Name w) v = w ≡ v
IsNamed (kind.QuotedName w) v = w ≡ v
IsNamed other v = ⊥

abbrev pub is_quoted : Kind → Bool
is_quoted (kind.QuotedName w) = true
is_quoted other = false

abbrev pub name_of : Token → Name
name_of t = record { span = t.span; is_quoted = is_quoted t.kind }
