-- Comparisons of a column with a literal, and equalities of two columns.
use Rattle.std.specs.Prelude.{ℤ, neg_ℤ, Option, Some, None}
use Rattle.std.specs.Option.{option_and_then, option_map, option_or}
use Rattle.osq_value.specs.declared.value.Value.{Value}
use Rattle.osq_value.specs.declared.value.Value.TheVariants.{Null, Int, Text}
use Rattle.sql_tree.specs.declared.tree.Operator.{Operator}
use Rattle.sql_tree.specs.declared.tree.Operator.TheVariants as operator
use Rattle.sql_scalar.specs.Arithmetic.{within}
use Rattle.sql_query.specs.declared.place.Place.{Place}
use Rattle.sql_query.specs.Exprs.{ExprTree, OneExprStep, ExprSteps}
use Rattle.sql_query.specs.Exprs as expr
use Rattle.virtual_tables.specs.declared.constraint.Constraint.{Constraint}
use Rattle.virtual_tables.specs.declared.constraint.ConstraintOp.{ConstraintOp}
use Rattle.virtual_tables.specs.declared.constraint.ConstraintOp.TheVariants.{Eq, Lt, Le, Gt, Ge}

-- the column that an expression is
abbrev pub column_in : ExprTree → Option Place
column_in (expr.literal value) = None
column_in (expr.column source column at affinity) = Some (record { source = source; column = column; at = at; affinity = affinity })
column_in (expr.chain first steps) = None
column_in (expr.negation e) = None
column_in (expr.minus e) = None
column_in (expr.plus e) = None
column_in (expr.cast e affinity) = None
column_in (expr.call function arguments) = None
column_in (expr.folded fold is_distinct e) = None
column_in (expr.count_all fold is_distinct) = None

-- a value other than Null
abbrev pub known : Value → Option Value
known Null = None
known (Int n) = Some (Int n)
known (Text s) = Some (Text s)

abbrev pub whole_number : Value → Option ℤ
whole_number Null = None
whole_number (Int n) = Some n
whole_number (Text s) = None

-- a number without a sign
abbrev pub number_in : ExprTree → Option ℤ
number_in (expr.literal value) = whole_number value
number_in (expr.column source column at affinity) = None
number_in (expr.chain first steps) = None
number_in (expr.negation e) = None
number_in (expr.minus e) = None
number_in (expr.plus e) = None
number_in (expr.cast e affinity) = None
number_in (expr.call function arguments) = None
number_in (expr.folded fold is_distinct e) = None
number_in (expr.count_all fold is_distinct) = None

-- what a number is with the sign `-`: nothing where it lies outside 64 bits
abbrev pub opposite : ℤ → Option Value
opposite n = known (within (neg_ℤ n))

-- the value of a literal: a text, or a number with or without a sign
abbrev pub literal_in : ExprTree → Option Value
literal_in (expr.literal value) = known value
literal_in (expr.column source column at affinity) = None
literal_in (expr.chain first steps) = None
literal_in (expr.negation e) = None
literal_in (expr.minus e) = option_and_then opposite (number_in e)
literal_in (expr.plus e) = option_map Int (number_in e)
literal_in (expr.cast e affinity) = None
literal_in (expr.call function arguments) = None
literal_in (expr.folded fold is_distinct e) = None
literal_in (expr.count_all fold is_distinct) = None

-- how an operator compares a column with a literal
abbrev pub compares_by : Operator → Option ConstraintOp
compares_by operator.Or = None
compares_by operator.And = None
compares_by operator.Equal = Some Eq
compares_by operator.NotEqual = None
compares_by operator.Is = None
compares_by operator.IsNot = None
compares_by operator.Less = Some Lt
compares_by operator.LessEqual = Some Le
compares_by operator.Greater = Some Gt
compares_by operator.GreaterEqual = Some Ge
compares_by operator.Like = None
compares_by operator.NotLike = None
compares_by operator.Add = None
compares_by operator.Subtract = None
compares_by operator.Multiply = None
compares_by operator.Divide = None
compares_by operator.Remainder = None
compares_by operator.Concat = None

-- the same comparison with its sides turned round
abbrev pub mirrored : ConstraintOp → ConstraintOp
mirrored Eq = Eq
mirrored Lt = Gt
mirrored Le = Ge
mirrored Gt = Lt
mirrored Ge = Le

-- a comparison of a column with a literal, the column on the left side
pub record ComparisonTree : Type 0 where
  pub place : Place
  pub op : ConstraintOp
  pub literal : Value

abbrev pub of_sides : ConstraintOp → Option Place → Option Value → Option ComparisonTree
of_sides op None literal = None
of_sides op (Some place) None = None
of_sides op (Some place) (Some literal) = Some (record { place = place; op = op; literal = literal })

-- `column op literal`, or its mirror image
abbrev pub compared : ExprTree → ExprTree → ConstraintOp → Option ComparisonTree
compared left right op = option_or (of_sides op (column_in left) (literal_in right)) (of_sides (mirrored op) (column_in right) (literal_in left))

-- two sides and the operator between them
pub record SidesTree : Type 0 where
  pub left : ExprTree
  pub op : Operator
  pub right : ExprTree

-- a chain's first operand with a step
abbrev pub sides_by : ExprTree → OneExprStep → Option SidesTree
sides_by first (expr.binary op right) = Some (record { left = first; op = op; right = right })
sides_by first (expr.among is_negated items) = None
sides_by first (expr.between is_negated low high) = None

-- the only step of a chain
abbrev pub only_step : ExprSteps → Option OneExprStep
only_step expr.no_steps = None
only_step (expr.then expr.no_steps step) = Some step
only_step (expr.then (expr.then before other) step) = None

-- the sides of an expression of one operator
abbrev pub sides_in : ExprTree → Option SidesTree
sides_in (expr.literal value) = None
sides_in (expr.column source column at affinity) = None
sides_in (expr.chain first steps) = option_and_then (sides_by first) (only_step steps)
sides_in (expr.negation e) = None
sides_in (expr.minus e) = None
sides_in (expr.plus e) = None
sides_in (expr.cast e affinity) = None
sides_in (expr.call function arguments) = None
sides_in (expr.folded fold is_distinct e) = None
sides_in (expr.count_all fold is_distinct) = None

-- the comparison that a conjunct is
abbrev pub comparison_of : SidesTree → Option ComparisonTree
comparison_of sides = option_and_then (compared sides.left sides.right) (compares_by sides.op)

abbrev pub comparison_in : ExprTree → Option ComparisonTree
comparison_in conjunct = option_and_then comparison_of (sides_in conjunct)

abbrev pub constraint_of : ComparisonTree → Constraint
constraint_of c = record { column = c.place.column; op = c.op; value = c.literal }
