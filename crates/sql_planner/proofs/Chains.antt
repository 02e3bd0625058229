-- Chains that have not one step alone.
use Rattle.std.proofs.Common.{◌≡◌, refl, sym, ap, ◌∙◌, ◌==◌, Bool, false, true≢false, ◌-◌, drop, take, arith, List, [], ◌∷◌, length, map, None}
use Rattle.std.specs.Option.{option_and_then}
use Rattle.sql_query.specs.Exprs.{ExprTree, OneExprStep, ExprSteps, then, no_steps}
use Rattle.sql_query.specs.View.{steps_after, steps_of, step_of}
use Rattle.sql_query.specs.declared.tree.ExprStep.{ExprStep}
use Rattle.sql_planner.specs.Comparisons.{only_step, sides_by}

many : (before : ExprSteps) (one other : OneExprStep) (rest : List OneExprStep) → only_step (steps_after (then (then before one) other) rest) ≡ None
many before one other [] = refl
many before one other (step ∷ rest) = many (then before one) other step rest

not_one : (steps : List ExprStep) → (length steps ≡ 1 → ⊥) → None ≡ only_step (steps_of steps)
not_one [] h = refl
not_one (one ∷ []) h = absurd (h refl)
not_one (one ∷ other ∷ rest) h = sym (many no_steps (step_of one) (step_of other) (map step_of rest))

pub no-sides : (first : ExprTree) (steps : List ExprStep) → (length steps ≡ 1 → ⊥) → None ≡ option_and_then (sides_by first) (only_step (steps_of steps))
no-sides first steps h = ap (option_and_then (sides_by first)) (not_one steps h)

-- a list with something behind its first
pub more : (steps : List ExprStep) (is_last : Bool) → is_last ≡ (length (take (length steps - 1) (drop 1 steps)) == 0) → is_last ≡ false → length steps ≡ 1 → ⊥
more [] is_last told other one = omega arith
more (step ∷ []) is_last told other one = true≢false (sym told ∙ other)
more (step ∷ second ∷ rest) is_last told other one = omega arith
