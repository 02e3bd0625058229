-- A loop over the parts of an expression has one part more.
use Rattle.std.proofs.Common.{◌≡◌, ℕ, ◌+◌, ◌<◌, ◌++◌, Bool, true, false, Option, Some, None, List, [], ◌∷◌, length, take, get_or, ap, sym, ◌∙◌, refl}
use Rattle.std.proofs.lemmas.List.{take_more}
use Rattle.osq_value.specs.declared.value.Value.{Value}
use Rattle.osq_value.specs.declared.catalogue.Affinity.{Affinity}
use Rattle.sql_query.specs.declared.tree.Expr.{Expr}
use Rattle.sql_query.specs.declared.tree.ExprStep.{ExprStep}
use Rattle.sql_query.specs.Exprs.{no_steps, then, no_exprs, and_expr}
use Rattle.sql_query.specs.View.{expr_of, step_of, steps_of, exprs_of}
use Rattle.sql_query.proofs.Pushed.{steps_after-push, exprs_after-push}
use Rattle.sql_scalar.specs.Comparison.{in_of, equal_of}
use Rattle.sql_scalar.specs.Truth.{from_truth, truth_of, either, or_of}
use Rattle.sql_meaning.specs.Expressions.{Environment, affinity_after, value_of, value_by, value_after, values_of}

pub exprs_more : (exprs : List Expr) (i : ℕ) (item : Expr) → i < length exprs → item ≡ get_or exprs i item → exprs_of (take (i + 1) exprs) ≡ and_expr (exprs_of (take i exprs)) (expr_of item)
exprs_more exprs i item within is =
    ap exprs_of (take_more exprs i item within) ∙ exprs_after-push no_exprs (take i exprs) (get_or exprs i item) ∙ ap (λ (e : Expr). and_expr (exprs_of (take i exprs)) (expr_of e)) (sym is)

pub steps_more : (steps : List ExprStep) (i : ℕ) (item : ExprStep) → i < length steps → item ≡ get_or steps i item → steps_of (take (i + 1) steps) ≡ then (steps_of (take i steps)) (step_of item)
steps_more steps i item within is =
    ap steps_of (take_more steps i item within) ∙ steps_after-push no_steps (take i steps) (get_or steps i item) ∙ ap (λ (s : ExprStep). then (steps_of (take i steps)) (step_of s)) (sym is)

pub values_then : (env : Environment) (exprs : List Expr) (i : ℕ) (item : Expr) (before new : List Value) (value : Value) → i < length exprs → item ≡ get_or exprs i item → before ≡ values_of env (exprs_of (take i exprs)) → new ≡ before ++ value ∷ [] → value ≡ value_of env (expr_of item) → new ≡ values_of env (exprs_of (take (i + 1) exprs))
values_then env exprs i item before new value within is old pushed one =
    rw (exprs_more exprs i item within is) (pushed ∙ ap (λ (values : List Value). values ++ value ∷ []) old ∙ ap (λ (v : Value). values_of env (exprs_of (take i exprs)) ++ v ∷ []) one)

pub value_then : (env : Environment) (affinity : Option Affinity) (first : Value) (steps : List ExprStep) (i : ℕ) (item : ExprStep) (before_affinity : Option Affinity) (before value : Value) → i < length steps → item ≡ get_or steps i item → before ≡ value_after env affinity first (steps_of (take i steps)) → before_affinity ≡ affinity_after affinity (steps_of (take i steps)) → value ≡ value_by env before_affinity before (step_of item) → value ≡ value_after env affinity first (steps_of (take (i + 1) steps))
value_then env affinity first steps i item before_affinity before value within is old old_affinity one =
    rw (steps_more steps i item within is) (one ∙ ap (λ (a : Option Affinity). value_by env a before (step_of item)) old_affinity ∙ ap (λ (v : Value). value_by env (affinity_after affinity (steps_of (take i steps))) v (step_of item)) old)

pub affinity_then : (affinity : Option Affinity) (steps : List ExprStep) (i : ℕ) (item : ExprStep) → i < length steps → item ≡ get_or steps i item → None ≡ affinity_after affinity (steps_of (take (i + 1) steps))
affinity_then affinity steps i item within is = rw (steps_more steps i item within is) refl

-- IN from the left

truth-from : (t : Option Bool) → truth_of (from_truth t) ≡ t
truth-from None = refl
truth-from (Some true) = refl
truth-from (Some false) = refl

either-assoc : (a b c : Option Bool) → either a (either b c) ≡ either (either a b) c
either-assoc None None None = refl
either-assoc None None (Some true) = refl
either-assoc None None (Some false) = refl
either-assoc None (Some true) None = refl
either-assoc None (Some true) (Some true) = refl
either-assoc None (Some true) (Some false) = refl
either-assoc None (Some false) None = refl
either-assoc None (Some false) (Some true) = refl
either-assoc None (Some false) (Some false) = refl
either-assoc (Some true) None None = refl
either-assoc (Some true) None (Some true) = refl
either-assoc (Some true) None (Some false) = refl
either-assoc (Some true) (Some true) None = refl
either-assoc (Some true) (Some true) (Some true) = refl
either-assoc (Some true) (Some true) (Some false) = refl
either-assoc (Some true) (Some false) None = refl
either-assoc (Some true) (Some false) (Some true) = refl
either-assoc (Some true) (Some false) (Some false) = refl
either-assoc (Some false) None None = refl
either-assoc (Some false) None (Some true) = refl
either-assoc (Some false) None (Some false) = refl
either-assoc (Some false) (Some true) None = refl
either-assoc (Some false) (Some true) (Some true) = refl
either-assoc (Some false) (Some true) (Some false) = refl
either-assoc (Some false) (Some false) None = refl
either-assoc (Some false) (Some false) (Some true) = refl
either-assoc (Some false) (Some false) (Some false) = refl

either-false : (a : Option Bool) → either a (Some false) ≡ either (Some false) a
either-false None = refl
either-false (Some true) = refl
either-false (Some false) = refl

or-assoc : (a b c : Value) → or_of a (or_of b c) ≡ or_of (or_of a b) c
or-assoc a b c =
    ap (λ t. from_truth (either (truth_of a) t)) (truth-from (either (truth_of b) (truth_of c))) ∙ ap from_truth (either-assoc (truth_of a) (truth_of b) (truth_of c))
    ∙ ap (λ t. from_truth (either t (truth_of c))) (sym (truth-from (either (truth_of a) (truth_of b))))

-- one item more
pub in-more : (affinity : Option Affinity) (left : Value) (items : List Value) (item : Value) → in_of affinity left (items ++ item ∷ []) ≡ or_of (in_of affinity left items) (equal_of affinity None left item)
in-more affinity left [] item = ap from_truth (either-false (truth_of (equal_of affinity None left item)))
in-more affinity left (first ∷ items) item = ap (or_of (equal_of affinity None left first)) (in-more affinity left items item) ∙ or-assoc (equal_of affinity None left first) (in_of affinity left items) (equal_of affinity None left item)

pub in-then : (env : Environment) (affinity : Option Affinity) (left : Value) (exprs : List Expr) (i : ℕ) (item : Expr) (before right equal value : Value) → i < length exprs → item ≡ get_or exprs i item → before ≡ in_of affinity left (values_of env (exprs_of (take i exprs))) → right ≡ value_of env (expr_of item) → equal ≡ equal_of affinity None left right → value ≡ or_of before equal → value ≡ in_of affinity left (values_of env (exprs_of (take (i + 1) exprs)))
in-then env affinity left exprs i item before right equal value within is old found same one =
    rw (exprs_more exprs i item within is)
    (one ∙ ap (λ (b : Value). or_of b equal) old ∙ ap (or_of (in_of affinity left (values_of env (exprs_of (take i exprs))))) (same ∙ ap (equal_of affinity None left) found)
    ∙ sym (in-more affinity left (values_of env (exprs_of (take i exprs))) (value_of env (expr_of item))))
