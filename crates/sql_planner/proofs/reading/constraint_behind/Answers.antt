use Rattle.std.proofs.Common.{ap, ◌∙◌, IfSome, Option, subst}
use Rattle.osq_value.specs.declared.value.Value.{Value}
use Rattle.sql_query.specs.Exprs.{binary, chain, column, literal, no_steps, then}
use Rattle.sql_query.specs.View.{expr_of}
use Rattle.virtual_tables.specs.Constraints.{affinity_at}
use Rattle.sql_planner.specs.Reading.{IsLiteralFor}
use Rattle.sql_planner.proofs.Fitting.{test-behind}
use Rattle.sql_planner.proofs.Columns.{compared-by}
use Rattle.sql_planner.proofs.reading.constraint_behind.Goals as goal

pub returns : goal.returns
returns c = λ before known.
    let found = c.in-Some.found in
    let source = c.in-Some.ensures.0 in
    let number = c.in-Some.ensures.1 in
    let place = c.in-Some-column_behind.column in
    let same =
    subst (λ (made : Option Value). IfSome made (IsLiteralFor (affinity_at c.args.table.0 place) found.affinity found.value.now)) c.in-Some-2.is c.in_ok-value.ensures in
    test-behind c.args.table.0 (expr_of c.args.part.now) source number found.at place before found.affinity c.in-Some-compares_by.op found.value.now c.in-Some-2.value
    (c.in-Some.ensures.2 ∙ ap (λ op. chain (column source number found.at found.affinity) (then no_steps (binary op (literal found.value.now)))) (compared-by found.op c.in-Some-compares_by.op c.in-Some-compares_by.ensures))
    same (c.in-Some-column_behind.ensures before known)
