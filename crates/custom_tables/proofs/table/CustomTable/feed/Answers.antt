use Rattle.std.proofs.Common.{◌≡◌, ◌∙◌, ap, sym, subst}
use Rattle.custom_tables.specs.Rows.{row_of_record}
use Rattle.custom_tables.specs.Held.{Custom, held_of, rows_of}
use Rattle.custom_tables.proofs.Feeding.{fed_none, fed_row, none_left}
use Rattle.custom_tables.proofs.table.CustomTable.feed.Goals as goal

pub returns-in_default-clause-ok : goal.returns-in_default-clause-ok
returns-in_default-clause-ok g c records fed =
    let table = c.args.self.now in
    let found : c.in_ok-row.field-0 ≡ row_of_record c.self.inside.rule c.args.item.now = c.in_ok-row.ensures ∙ ap (λ rule. row_of_record rule c.args.item.now) c.self.invariant.0 in
    let is : c.self.inside.rule ≡ table.rule = ap (λ t. t.rule) c.self.view_is in
    fed_none table.rule table.max table.held records c.args.item.now (none_left c.in_ok-row.field-0 c.in_default.not-Some ∙ found ∙ ap (λ rule. row_of_record rule c.args.item.now) is) fed

pub returns-clause-ok : goal.returns-clause-ok
returns-clause-ok g c records fed =
    let s = c.self.inside in
    let found : c.in_ok-row.field-0 ≡ row_of_record s.rule c.args.item.now = c.in_ok-row.ensures ∙ ap (λ rule. row_of_record rule c.args.item.now) c.self.invariant.0 in
    let held : record { last = s.last; rows = s.rows.items } ≡ c.args.self.now.held = ap (λ t. t.held) c.self.view_is in
    let before = subst (λ (t : Custom). t.held ≡ held_of t.max (rows_of t.rule records)) (sym c.self.view_is) fed in
    fed_row s.rule s.max (record { last = s.last; rows = s.rows.items }) records c.args.item.now c.in-Some.row c.hold.new.rows.items (sym c.in-Some.is ∙ found) before c.in_ok-hold.ensures.ok
