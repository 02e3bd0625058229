use Rattle.std.proofs.Common.{◌≡◌, ◌-◌, ◌≤◌, ◌∙◌, Bool, true, List, [], Option, unwrap_or, get_or, ap, sym, arith}
use Rattle.std.specs.Prelude.{if◌then◌else◌, nat_le}
use Rattle.std.proofs.lemmas.Option.{unwrap_or-slice_get}
use Rattle.osq_value.specs.declared.value.Value.{Value}
use Rattle.fleet_query.proofs.view.FleetTables.rows.Goals as goal

pub returns-in-None : goal.returns-in-None
returns-in-None c =
    let table = c.args.table.0 in
    let rows = c.args.self.now.rows in
    let above : 100 ≤ table = omega (arith, c.if-table-lt-FIRST_DERIVED.false) in
    let derived : nat_le 100 table ≡ true = grind arith in
    let none : get_or rows (table - 100) [] ≡ [] = sym (unwrap_or-slice_get rows (table - 100) []) ∙ ap (λ (o : Option (List (List Value))). unwrap_or o []) (sym c.in-None.ensures) in
    sym (ap (λ (b : Bool). if b then get_or rows (table - 100) [] else []) derived ∙ none)
