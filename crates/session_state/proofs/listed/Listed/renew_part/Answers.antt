use Rattle.std.proofs.Common.{◌≡◌, ◌<◌, ◌%◌, List, length, set, false, sym, subst, arith}
use Rattle.std.proofs.lemmas.List.{length-map}
use Rattle.osq_value.specs.declared.value.Value.{Value}
use Rattle.event_store.specs.Parts.{Parted}
use Rattle.session_state.specs.Computed.{schedule_shown}
use Rattle.session_state.specs.Listed.{RowsAndStale, AreFresh}
use Rattle.session_state.proofs.Listing.{fresh_renewed, in_chunk}
use Rattle.session_state.proofs.listed.Listed.renew_part.Goals as goal

pub part_of-requires-clause-within : goal.part_of-requires-clause-within
part_of-requires-clause-within c =
    let few = c.requires.fresh.few in
    let inside = c.requires.within in
    let long : length (schedule_shown c.args.cursors.now.runs c.args.queries.now) ≡ length c.args.queries.now = length-map c.args.queries.now _ in
    omega (arith, few, inside, long)

pub renew-requires-clause-within : goal.renew-requires-clause-within
renew-requires-clause-within c =
    let fresh = rw (← c.self.view_is) at c.requires.fresh in
    let same = fresh.parts in
    let inside = rw (← c.self.view_is) at c.requires.within in
    omega (arith, same, inside)

pub renew-requires-clause-whole : goal.renew-requires-clause-whole
renew-requires-clause-whole c place within same =
    let shown = schedule_shown c.args.cursors.now.runs c.args.queries.now in
    let fresh = rw (← c.self.view_is) at c.requires.fresh in
    let count = fresh.count in
    subst (λ (rows : List (List Value)). place % 64 < length rows) (sym c.in_ok-renewed.ensures) (in_chunk shown c.args.part place (omega (arith, within, count)) same)

pub returns-clause-fresh : goal.returns-clause-fresh
returns-clause-fresh c =
    let shown = schedule_shown c.args.cursors.now.runs c.args.queries.now in
    let listed : RowsAndStale = record { rows = c.self.inside.rows; stale = c.self.inside.stale.items } in
    let fresh = rw (← c.self.view_is) at c.requires.fresh in
    let inside = rw (← c.self.view_is) at c.requires.within in
    subst (λ (rows : Parted). AreFresh shown (record { rows = rows; stale = set c.self.inside.stale.items c.args.part false })) (sym c.in_ok-renew.ensures.ok) (fresh_renewed shown listed c.args.part c.in_ok-renewed.renewed fresh inside c.in_ok-renewed.ensures)
