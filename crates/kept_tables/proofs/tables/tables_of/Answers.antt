use Rattle.std.proofs.Common.{◌≡◌, ℕ, ◌<◌, ◌+◌, List, ◌++◌, take, ap, sym, ◌∙◌, arith}
use Rattle.std.specs.Prelude.{filter_map}
use Rattle.std.specs.Option.{option_to_list}
use Rattle.std.proofs.lemmas.List.FromFn.{get_or-range_with_len}
use Rattle.entry_model.specs.declared.restored.SetTable.{SetTable}
use Rattle.entry_model.specs.Summary.{recorded_tables, set_table}
use Rattle.kept_tables.specs.Loads.{rows_in}
use Rattle.kept_tables.proofs.Places.{filter_map-more}
use Rattle.kept_tables.proofs.tables.tables_of.Goals as goal

pub loop-table-preserved : goal.loop-table-preserved
loop-table-preserved c =
    let made = c.loop-table.invariant in
    let at = made.0 in
    let is = made.1 in
    let within = c.loop-table-test.true in
    let left : at < 9 = omega (arith, is, within) in
    let rows = λ (t : ℕ). set_table t (rows_in t c.args.parts.now) in
    let here = get_or-range_with_len 3 9 at 0 left ∙ sym is in (
      at + 1,
      omega (arith, is),
      omega (arith, left),
      c.in_ok-add_set.ensures
          ∙ ap (λ (parts : List SetTable). c.loop-table.tables ++ option_to_list (set_table c.loop-table.table (rows_in c.loop-table.table parts))) c.as_slice.ensures
          ∙ ap (λ (tables : List SetTable). tables ++ option_to_list (rows c.loop-table.table)) made.3
          ∙ ap (λ (t : ℕ). filter_map rows (take at recorded_tables) ++ option_to_list (rows t)) (sym here)
          ∙ sym (filter_map-more rows recorded_tables at 0 left),
    )

pub returns : goal.returns
returns c =
    let made = c.loop-table.invariant in
    let is = made.1 in
    let past = c.loop-table-test.false in
    let le = made.2 in
    let all : made.0 ≡ 9 = omega (arith, is, past, le) in
    made.3 ∙ ap (λ (n : ℕ). filter_map (λ (t : ℕ). set_table t (rows_in t c.args.parts.now)) (take n recorded_tables)) all
