-- What follows where columns and aggregates stand: over more tables, and where an aggregate may stand too.
use Rattle.std.proofs.Common.{◌≡◌, ℕ, zero, suc, ◌+◌, ◌++◌, Bool, true, false, List, [], ◌∷◌, take, drop, Option, Some, ap, sym, ◌∙◌, subst, arith}
use Rattle.std.specs.Prelude.{slice_get}
use Rattle.std.proofs.lemmas.List.{take-append-drop, take-append-le}
use Rattle.std.proofs.lemmas.Option.{slice_get_within, none-some}
use Rattle.osq_value.specs.declared.catalogue.Affinity.{Affinity}
use Rattle.sql_query.specs.declared.query.SourceColumn.{SourceColumn}
use Rattle.sql_query.specs.Exprs.{ExprTree, OneExprStep, ExprSteps, Exprs}
use Rattle.sql_query.specs.Exprs as expr
use Rattle.sql_query.specs.Standing.{row_width, IsColumn, IsScoped, IsStepScoped, AreStepsScoped, AreExprsScoped}
use Rattle.sql_query.proofs.Widths.{row_width-append}

get_before : {A : Type 0} (xs more : List A) (k : ℕ) (x : A) → slice_get xs k ≡ Some x → slice_get (xs ++ more) k ≡ Some x
get_before [] more k x e = absurd (none-some x e)
get_before (y ∷ xs) more zero x e = e
get_before (y ∷ xs) more (suc k) x e = get_before xs more k x e

-- each column of some tables is one of others, and an aggregate may stand there too
pub record Widens (tables others : List (List SourceColumn)) (may_fold may_also : Bool) : Type 0 where
  pub columns : (source column at : ℕ) (affinity : Option Affinity) → IsColumn tables source column at affinity → IsColumn others source column at affinity
  pub folds : may_fold ≡ true → may_also ≡ true

widens_within : {tables others : List (List SourceColumn)} {may_fold may_also : Bool} → Widens tables others may_fold may_also → Widens tables others false false
widens_within w = record { columns = w.columns; folds = λ e. e }

mutual
  pub stands_wider : {tables others : List (List SourceColumn)} {may_fold may_also : Bool} (w : Widens tables others may_fold may_also) (e : ExprTree) → IsScoped tables may_fold e → IsScoped others may_also e
  stands_wider w (expr.literal value) stands = tt
  stands_wider w (expr.column source column at affinity) stands = w.columns source column at affinity stands
  stands_wider w (expr.chain first steps) stands = (stands_wider w first stands.0, steps_wider w steps stands.1)
  stands_wider w (expr.negation e) stands = stands_wider w e stands
  stands_wider w (expr.minus e) stands = stands_wider w e stands
  stands_wider w (expr.plus e) stands = stands_wider w e stands
  stands_wider w (expr.cast e affinity) stands = stands_wider w e stands
  stands_wider w (expr.call function arguments) stands = exprs_wider w arguments stands
  stands_wider w (expr.folded fold is_distinct e) stands = (w.folds stands.0, stands_wider (widens_within w) e stands.1)
  stands_wider w (expr.count_all fold is_distinct) stands = w.folds stands

  pub step_wider : {tables others : List (List SourceColumn)} {may_fold may_also : Bool} (w : Widens tables others may_fold may_also) (step : OneExprStep) → IsStepScoped tables may_fold step → IsStepScoped others may_also step
  step_wider w (expr.binary op right) stands = stands_wider w right stands
  step_wider w (expr.among is_negated items) stands = exprs_wider w items stands
  step_wider w (expr.between is_negated low high) stands = (stands_wider w low stands.0, stands_wider w high stands.1)

  pub steps_wider : {tables others : List (List SourceColumn)} {may_fold may_also : Bool} (w : Widens tables others may_fold may_also) (steps : ExprSteps) → AreStepsScoped tables may_fold steps → AreStepsScoped others may_also steps
  steps_wider w expr.no_steps stands = tt
  steps_wider w (expr.then before step) stands = (steps_wider w before stands.0, step_wider w step stands.1)

  pub exprs_wider : {tables others : List (List SourceColumn)} {may_fold may_also : Bool} (w : Widens tables others may_fold may_also) (exprs : Exprs) → AreExprsScoped tables may_fold exprs → AreExprsScoped others may_also exprs
  exprs_wider w expr.no_exprs stands = tt
  exprs_wider w (expr.and_expr before e) stands = (exprs_wider w before stands.0, stands_wider w e stands.1)

column_further : (tables more : List (List SourceColumn)) (source column at : ℕ) (affinity : Option Affinity) → IsColumn tables source column at affinity → IsColumn (tables ++ more) source column at affinity
column_further tables more source column at affinity is =
    let within = slice_get_within tables source is.columns is.of_table in
    let wide = row_width-append tables more in
    record {
      columns = is.columns;
      found = is.found;
      of_table = get_before tables more source is.columns is.of_table;
      of_column = is.of_column;
      has_affinity = is.has_affinity;
      stands_at = is.stands_at ∙ sym (ap (λ (before : List (List SourceColumn)). row_width before + column) (take-append-le source tables more (omega arith)));
      is_within = let below = is.is_within in omega arith;
    }

-- what stands over some tables stands over these and more
pub stands_further : (tables more : List (List SourceColumn)) (may_fold : Bool) (e : ExprTree) → IsScoped tables may_fold e → IsScoped (tables ++ more) may_fold e
stands_further tables more may_fold e stands = stands_wider (record { columns = column_further tables more; folds = λ may. may }) e stands

-- what stands without aggregates stands where they may stand
pub stands_folding : (tables : List (List SourceColumn)) (may_fold : Bool) (e : ExprTree) → IsScoped tables false e → IsScoped tables may_fold e
stands_folding tables may_fold e stands = stands_wider (record { columns = λ source column at affinity is. is; folds = λ no. absurd (let never : ⊥ = cc in never) }) e stands

-- what stands over the first tables stands over all
pub stands_over_all : (tables : List (List SourceColumn)) (n : ℕ) (may_fold : Bool) (e : ExprTree) → IsScoped (take n tables) may_fold e → IsScoped tables may_fold e
stands_over_all tables n may_fold e stands = subst (λ (all : List (List SourceColumn)). IsScoped all may_fold e) (take-append-drop n tables) (stands_further (take n tables) (drop n tables) may_fold e stands)
