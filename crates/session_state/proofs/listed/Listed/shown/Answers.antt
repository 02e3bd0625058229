use Rattle.std.proofs.Common.{◌≡◌, ◌<◌, ◌%◌, List, length, sym, ◌∙◌, subst, arith}
use Rattle.std.proofs.lemmas.List.{length-map}
use Rattle.osq_value.specs.declared.value.Value.{Value}
use Rattle.session_state.specs.Computed.{schedule_shown}
use Rattle.session_state.proofs.Listing.{in_chunk}
use Rattle.session_state.proofs.listed.Listed.shown.Goals as goal

pub part_of-requires-clause-within : goal.part_of-requires-clause-within
part_of-requires-clause-within c =
    let fresh = rw (← c.self.view_is) at c.requires.fresh in
    let few = fresh.few in
    let inside = c.loop-part-test.true in
    let long : length (schedule_shown c.args.cursors.now.runs c.args.queries.now) ≡ length c.args.queries.now = length-map c.args.queries.now _ in
    omega (arith, few, inside, long, c.len-part-end.ensures)

pub renew-requires-clause-within : goal.renew-requires-clause-within
renew-requires-clause-within c =
    let fresh = rw (← c.self.view_is) at c.requires.fresh in
    let same = fresh.parts in
    let parts = rw (← c.self.view_is) at c.loop-part.invariant.parts in
    let inside = c.loop-part-test.true in
    omega (arith, same, parts, inside, c.len-part-end.ensures)

pub renew-requires-clause-whole : goal.renew-requires-clause-whole
renew-requires-clause-whole c place within same =
    let shown = schedule_shown c.args.cursors.now.runs c.args.queries.now in
    let count = c.loop-part.invariant.count in
    let long = c.requires.fresh.count in
    subst (λ (rows : List (List Value)). place % 64 < length rows) (sym c.in_ok-renewed.ensures) (in_chunk shown c.loop-part.part place (omega (arith, within, count, long)) same)

pub returns : goal.returns
returns c =
    let fresh = rw (← c.self.view_is) at c.requires.fresh in
    let all = fresh.all in
    let few = fresh.few in
    let stale = fresh.parts in
    let parts = rw (← c.self.view_is) at c.loop-part.invariant.parts in
    let done = c.loop-part-test.false in
    let len = c.len-part-end.ensures in
    record {
      count = c.loop-part.invariant.count ∙ c.requires.fresh.count;
      all = omega (arith, all, stale, parts);
      few = omega (arith, few, stale, parts);
      right = λ part within. c.loop-part.invariant.right part (omega (arith, within, parts, stale, done, len));
    }
