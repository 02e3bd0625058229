-- Comparisons of a column with a literal, by the operator and the column.
use Rattle.std.proofs.Common.{◌≡◌, refl, sym, ap, Bool, false, Option, Some, None, unwrap_or}
use Rattle.sql_tree.specs.declared.tree.Operator.{Operator}
use Rattle.sql_tree.specs.declared.tree.Operator.TheVariants as operator
use Rattle.sql_query.specs.Exprs.{ExprTree}
use Rattle.sql_query.specs.Exprs as expr
use Rattle.sql_query.specs.declared.place.Place.{Place}
use Rattle.sql_meaning.specs.Expressions.{is_true_truth}
use Rattle.virtual_tables.specs.Constraints.{operator_of}
use Rattle.virtual_tables.specs.declared.constraint.ConstraintOp.{ConstraintOp}
use Rattle.virtual_tables.specs.declared.constraint.ConstraintOp.TheVariants.{Eq, Lt, Le, Gt, Ge}
use Rattle.sql_planner.specs.Comparisons.{column_in, compares_by}

pub truth-met : (truth : Option Bool) → unwrap_or truth false ≡ is_true_truth truth
truth-met None = refl
truth-met (Some b) = refl

none-some : (found : ConstraintOp) → Some found ≡ None → ⊥
none-some found is = cc

same-some : (a b : ConstraintOp) → Some a ≡ Some b → a ≡ b
same-some a b is = cc

no-place : (place : Place) → Some place ≡ None → ⊥
no-place place is = cc

same-place : (a b : Place) → Some a ≡ Some b → a ≡ b
same-place a b is = cc

-- the operator of a comparison
pub compared-by : (op : Operator) (found : ConstraintOp) → Some found ≡ compares_by op → op ≡ operator_of found
compared-by operator.Or found is = absurd (none-some found is)
compared-by operator.And found is = absurd (none-some found is)
compared-by operator.Equal found is = ap operator_of (sym (same-some found Eq is))
compared-by operator.NotEqual found is = absurd (none-some found is)
compared-by operator.Is found is = absurd (none-some found is)
compared-by operator.IsNot found is = absurd (none-some found is)
compared-by operator.Less found is = ap operator_of (sym (same-some found Lt is))
compared-by operator.LessEqual found is = ap operator_of (sym (same-some found Le is))
compared-by operator.Greater found is = ap operator_of (sym (same-some found Gt is))
compared-by operator.GreaterEqual found is = ap operator_of (sym (same-some found Ge is))
compared-by operator.Like found is = absurd (none-some found is)
compared-by operator.NotLike found is = absurd (none-some found is)
compared-by operator.Add found is = absurd (none-some found is)
compared-by operator.Subtract found is = absurd (none-some found is)
compared-by operator.Multiply found is = absurd (none-some found is)
compared-by operator.Divide found is = absurd (none-some found is)
compared-by operator.Remainder found is = absurd (none-some found is)
compared-by operator.Concat found is = absurd (none-some found is)

-- the column that an expression is
pub column-is : (e : ExprTree) (place : Place) → Some place ≡ column_in e → e ≡ expr.column place.source place.column place.at place.affinity
column-is (expr.literal value) place is = absurd (no-place place is)
column-is (expr.column source column at affinity) place is = ap (λ (p : Place). expr.column p.source p.column p.at p.affinity) (sym (same-place place _ is))
column-is (expr.chain first steps) place is = absurd (no-place place is)
column-is (expr.negation e) place is = absurd (no-place place is)
column-is (expr.minus e) place is = absurd (no-place place is)
column-is (expr.plus e) place is = absurd (no-place place is)
column-is (expr.cast e affinity) place is = absurd (no-place place is)
column-is (expr.call function arguments) place is = absurd (no-place place is)
column-is (expr.folded fold is_distinct e) place is = absurd (no-place place is)
column-is (expr.count_all fold is_distinct) place is = absurd (no-place place is)
