use Rattle.std.proofs.Common.{◌≡◌, Bool, false, List, length, sym, ap, ◌∙◌, subst, arith}
use Rattle.std.proofs.lemmas.Grind.{div_ceil_times}
use Rattle.std.proofs.lemmas.List.{length-map, length-replicate}
use Rattle.session_state.specs.Computed.{schedule_shown}
use Rattle.event_store.specs.Parts.{Parted}
use Rattle.session_state.specs.Listed.{AreParts}
use Rattle.session_state.proofs.Listing.{parts_all, parts_built, parts_fresh}
use Rattle.session_state.proofs.listed.Listed.of.Goals as goal

pub part_of-requires-clause-within : goal.part_of-requires-clause-within
part_of-requires-clause-within c =
    let count = c.div_ceil-count.ensures in
    let bounds = div_ceil_times (length c.args.queries.now) 64 (omega arith) in
    let few = bounds.1 in
    let inside = c.loop-part-test.true in
    omega (arith, count, few, inside)

pub of-requires : goal.of-requires
of-requires c =
    let queries = c.args.queries.now in
    let shown = schedule_shown c.args.cursors.now.runs queries in
    let done = c.loop-part-test.false in
    let end = c.loop-part.auto.part-end in
    let count = c.loop-part.invariant.count in
    let ceil = c.div_ceil-count.ensures in
    let n = length queries in
    parts_all shown (record { parts = c.loop-part.parts.items; count = n }) (parts_built shown c.loop-part.parts.items n (length-map queries _) (omega (arith, done, end, count, ceil)) (λ part within. c.loop-part.invariant.right part (omega (arith, within, count))))

pub returns : goal.returns
returns c =
    let queries = c.args.queries.now in
    let shown = schedule_shown c.args.cursors.now.runs queries in
    let done = c.loop-part-test.false in
    let end = c.loop-part.auto.part-end in
    let count = c.loop-part.invariant.count in
    let ceil = c.div_ceil-count.ensures in
    let n = length queries in
    let are = parts_built shown c.loop-part.parts.items n (length-map queries _) (omega (arith, done, end, count, ceil)) (λ part within. c.loop-part.invariant.right part (omega (arith, within, count))) in
    let flags : length c.in_ok-vec.field-0.items ≡ c.div_ceil-count.result = ap (λ (flags : List Bool). length flags) (c.in_ok-vec.ensures.items_if_clones_equal (λ y e. e)) ∙ length-replicate c.div_ceil-count.result false in
    parts_fresh shown c.in_ok-of.field-0 c.in_ok-vec.field-0.items (subst (AreParts shown) (sym c.in_ok-of.ensures) are) (let parts = ap (λ (rows : Parted). length rows.parts) c.in_ok-of.ensures in omega (arith, flags, parts, done, end, count))
