-- Lists of expressions without an aggregate, one after another.
use Rattle.std.proofs.Common.{◌≡◌, ◌<◌, ◌+◌, ℕ, sym, ap, ap₂, subst, ◌∙◌, List, [], ◌∷◌, ◌++◌, get_or, length, take}
use Rattle.osq_value.specs.declared.value.Value.{Value}
use Rattle.sql_query.specs.declared.tree.Expr.{Expr}
use Rattle.sql_query.specs.declared.tree.ExprStep.{ExprStep}
use Rattle.sql_query.specs.View.{expr_of, exprs_of, step_of, steps_of}
use Rattle.sql_meaning.specs.Expressions.{alone, affinity_after, value_by, value_after}
use Rattle.sql_groups.specs.Alone.{AreAlone, AreStepsAlone, IsAlone, IsStepAlone}
use Rattle.sql_meaning.proofs.Parts.{exprs_more, steps_more}

pub all-alone : (exprs : List Expr) (at : ℕ) (item : Expr) → at < length exprs → item ≡ get_or exprs at item → AreAlone (exprs_of (take at exprs)) → IsAlone (expr_of item) → AreAlone (exprs_of (take (at + 1) exprs))
all-alone exprs at item inside is before here =
    subst AreAlone (sym (exprs_more exprs at item inside is)) (λ env. ap₂ (λ (vs : List Value) (v : Value). vs ++ v ∷ []) (before env) (here env))

pub steps-alone : (steps : List ExprStep) (at : ℕ) (item : ExprStep) → at < length steps → item ≡ get_or steps at item → AreStepsAlone (steps_of (take at steps)) → IsStepAlone (step_of item) → AreStepsAlone (steps_of (take (at + 1) steps))
steps-alone steps at item inside is before here =
    subst AreStepsAlone (sym (steps_more steps at item inside is))
    (λ env first value.
    here env (affinity_after first (steps_of (take at steps))) (value_after env first value (steps_of (take at steps)))
    ∙ ap (λ (v : Value). value_by (alone env.row) (affinity_after first (steps_of (take at steps))) v (step_of item)) (before env first value))
