-- Keywords, and what names name. Both ignore ASCII case.
use Rattle.std.specs.Prelude.{ℕ, if◌then◌else◌, List, [], ◌∷◌, Option, Some, None, codes}
use Rattle.std.specs.Str.{str_eq_ignore_ascii_case}
use Rattle.sql_tokens.specs.declared.token.Kind.{Kind}
use Rattle.sql_tokens.specs.declared.token.Kind.TheVariants as kind
use Rattle.sql_tokens.specs.declared.token.Clause.{Clause}
use Rattle.sql_tokens.specs.declared.token.Clause.TheVariants as clause
use Rattle.sql_tokens.specs.declared.token.Word.{Word}
use Rattle.sql_tokens.specs.declared.token.Word.TheVariants as word
use Rattle.sql_tree.specs.declared.functions.Function.{Function}
use Rattle.sql_tree.specs.declared.functions.Function.TheVariants as function
use Rattle.sql_tree.specs.declared.functions.Fold.TheVariants as fold

-- what stands in a table beside a word
abbrev pub found_in : {A : Type 0} → List (List ℕ × A) → List ℕ → Option A
found_in [] w = None
found_in (entry ∷ table) w = if str_eq_ignore_ascii_case w entry.0 then Some entry.1 else found_in table w

abbrev pub clauses : List (List ℕ × Clause)
clauses =
    (codes "select", clause.Select) ∷ (codes "from", clause.From) ∷ (codes "where", clause.Where) ∷ (codes "group", clause.Group) ∷ (codes "by", clause.By) ∷ (codes "having", clause.Having)
    ∷ (codes "order", clause.Order) ∷ (codes "asc", clause.Asc) ∷ (codes "desc", clause.Desc) ∷ (codes "limit", clause.Limit) ∷ (codes "offset", clause.Offset) ∷ (codes "join", clause.Join)
    ∷ (codes "inner", clause.Inner) ∷ (codes "cross", clause.Cross) ∷ (codes "left", clause.Left) ∷ (codes "outer", clause.Outer) ∷ (codes "on", clause.On) ∷ (codes "using", clause.Using) ∷ []

abbrev pub operators : List (List ℕ × Kind)
operators =
    (codes "distinct", kind.Distinct) ∷ (codes "as", kind.As) ∷ (codes "and", kind.And) ∷ (codes "or", kind.Or) ∷ (codes "not", kind.Not) ∷ (codes "is", kind.Is)
    ∷ (codes "in", kind.In) ∷ (codes "like", kind.Like) ∷ (codes "between", kind.Between) ∷ (codes "null", kind.Null) ∷ (codes "cast", kind.Cast) ∷ []

abbrev pub functions : List (List ℕ × Function)
functions =
    (codes "length", function.Length) ∷ (codes "lower", function.Lower) ∷ (codes "upper", function.Upper) ∷ (codes "trim", function.Trim) ∷ (codes "substr", function.Substr) ∷ (codes "instr", function.Instr)
    ∷ (codes "replace", function.Replace) ∷ (codes "abs", function.Abs) ∷ (codes "typeof", function.Typeof) ∷ (codes "coalesce", function.Coalesce) ∷ (codes "ifnull", function.Ifnull) ∷ (codes "nullif", function.Nullif) ∷ []

abbrev pub others : List (List ℕ × Word)
others =
    (codes "count", word.Aggregate fold.Count) ∷ (codes "sum", word.Aggregate fold.Sum) ∷ (codes "min", word.Aggregate fold.Min) ∷ (codes "max", word.Aggregate fold.Max)
    ∷ (codes "integer", word.IntegerType) ∷ (codes "bigint", word.IntegerType) ∷ (codes "int", word.IntegerType) ∷ (codes "text", word.TextType) ∷ []

unfoldable pub clause_of : List ℕ → Option Clause
clause_of = found_in clauses

unfoldable pub operator_of : List ℕ → Option Kind
operator_of = found_in operators

unfoldable pub function_of : List ℕ → Option Function
function_of = found_in functions

unfoldable pub other_of : List ℕ → Option Word
other_of = found_in others

abbrev pub other_word : Option Word → Word
other_word None = word.Plain
other_word (Some w) = w

abbrev pub function_word : Option Function → Word → Word
function_word None w = w
function_word (Some f) w = word.Scalar f

-- what a name, plain or quoted, names besides a column or a table
abbrev pub word_of : List ℕ → Word
word_of w = function_word (function_of w) (other_word (other_of w))

abbrev pub unless_operator : Option Kind → Word → Kind
unless_operator None w = kind.Name w
unless_operator (Some k) w = k

abbrev pub unless_clause : Option Clause → Kind → Kind
unless_clause None k = k
unless_clause (Some c) k = kind.Clause c

-- a keyword, or else a name
abbrev pub kind_of_word : List ℕ → Kind
kind_of_word w = unless_clause (clause_of w) (unless_operator (operator_of w) (word_of w))
