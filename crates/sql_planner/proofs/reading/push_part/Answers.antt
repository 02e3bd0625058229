use Rattle.std.proofs.Common.{◌≡◌, ℕ, Option, IfSome, ◌∙◌, ◌++◌, ◌∷◌, [], List, ap, map, subst, sym}
use Rattle.std.proofs.lemmas.List.{map-append}
use Rattle.std.proofs.lemmas.Result.{on_ok_weaker}
use Rattle.sql_query.specs.Exprs.{ExprTree}
use Rattle.sql_query.specs.View.{expr_of}
use Rattle.virtual_tables.specs.declared.constraint.Constraint.{Constraint}
use Rattle.sql_planner.specs.Reading.{AreHalves, IsTestOf}
use Rattle.sql_planner.proofs.Fitting.{halves-on, halves-test}
use Rattle.sql_planner.proofs.reading.push_part.Goals as goal

pub returns-in-Some : goal.returns-in-Some
returns-in-Some c =
    let e = expr_of c.args.part.now in
    let on = map expr_of c.args.on.now in
    let test =
    subst (λ (found : Option Constraint). IfSome found (λ test. (b : ℕ) → IfSome c.args.width (λ known. known ≡ b) → IsTestOf c.args.table.0 b e test)) c.in-Some.is c.in_ok-test.ensures in
    on_ok_weaker c.push.result
    (λ is parts before known halves.
    subst (λ (tests : List Constraint). AreHalves c.args.table.0 before (parts ++ e ∷ []) tests on) (sym is)
    (halves-test c.args.table.0 before parts on c.args.tests.now e c.in-Some.test (test before known) halves))
    c.push.ensures.ok

pub returns-in_ok-copy_expr-in-None : goal.returns-in_ok-copy_expr-in-None
returns-in_ok-copy_expr-in-None c =
    let e = expr_of c.args.part.now in
    let on = map expr_of c.args.on.now in
    on_ok_weaker c.push-in-None.result
    (λ is parts before known halves.
    subst (AreHalves c.args.table.0 before (parts ++ e ∷ []) c.args.tests.now)
    (sym (ap (map expr_of) is ∙ map-append expr_of c.args.on.now (c.in_ok-copy_expr-in-None.field-0 ∷ []) ∙ ap (λ (x : ExprTree). on ++ x ∷ []) c.in_ok-copy_expr-in-None.ensures))
    (halves-on c.args.table.0 before parts on c.args.tests.now e halves))
    c.push-in-None.ensures.ok
