use Rattle.std.proofs.Common.{◌≡◌, ◌∙◌, ℕ, List, ap, arith, filter, length, map, min, take}
use Rattle.std.proofs.Math.Nat.{min-le_right}
use Rattle.std.proofs.lemmas.List.{take_min}
use Rattle.std.specs.List.{list_all}
use Rattle.std.specs.Option.{option_copied}
use Rattle.osq_value.specs.declared.value.Value.{Value}
use Rattle.sql_meaning.specs.Lent.{values_in}
use Rattle.virtual_tables.proofs.Turning.{row-then}
use Rattle.sql_planner.specs.RowTests.{passes_some}
use Rattle.sql_planner.proofs.single.passing_all.Goals as goal

pub loop-at-preserved : goal.loop-at-preserved
loop-at-preserved g c =
    let rows = g.V.Tables.rows_of c.args.view.now c.args.table.0 in
    let most = min-le_right c.args.read (length rows) in
    let end : c.min-at-end.result ≡ min c.args.read (length rows) = c.min-at-end.ensures ∙ ap (min c.args.read) c.count.ensures in
    row-then (λ (row : List Value). list_all (passes_some row) c.args.tests.now) rows c.loop-at.at (option_copied c.row.result)
    (map values_in c.loop-at.rows) (map values_in c.push_passing.new.rows) (let t = c.loop-at-test.true in omega (arith, t, end, most)) c.row.ensures c.loop-at.invariant c.in_ok-push_passing.ensures

pub returns : goal.returns
returns g c =
    let rows = g.V.Tables.rows_of c.args.view.now c.args.table.0 in
    let at : c.loop-at.at ≡ c.min-at-end.result = (let f = c.loop-at-test.false in let t = c.loop-at.auto.at-end in omega (arith, f, t)) in
    c.loop-at.invariant
    ∙ ap (λ (some : List (List Value)). filter (λ row. list_all (passes_some row) c.args.tests.now) some)
    (ap (λ (n : ℕ). take n rows) (at ∙ c.min-at-end.ensures ∙ ap (min c.args.read) c.count.ensures) ∙ take_min c.args.read rows)
