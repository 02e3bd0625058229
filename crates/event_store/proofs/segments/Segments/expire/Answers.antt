use Rattle.std.proofs.Common.{ℕ, ◌+◌, ◌<◌, ◌≤◌, List, refl, subst, arith, length, take, set}
use Rattle.std.specs.Prelude.{slice_index}
use Rattle.event_store.specs.declared.segment.Segment.{Segment}
use Rattle.event_store.specs.declared.segments.Segments.{Segments}
use Rattle.event_store.specs.Queues.{above}
use Rattle.event_store.specs.Segments.{joined, before_all, live_in}
use Rattle.event_store.proofs.Found.{small_parts, counted_read}
use Rattle.event_store.proofs.Moving.{moved_live, moved_sound, raises, raised_live}
use Rattle.event_store.proofs.segments.Segments.expire.Goals as goal

pub part_from-count-requires-clause-counted : goal.part_from-count-requires-clause-counted
part_from-count-requires-clause-counted c table lt =
    counted_read c.args.self.now c.requires.sound table lt c.deref.result.now c.deref.ensures.value

pub part_from-count-requires-clause-small : goal.part_from-count-requires-clause-small
part_from-count-requires-clause-small c table lt =
    let a = small_parts c.args.self.now c.requires.sound table lt c.deref.result.now c.deref.ensures.value in
    let b = c.requires.sound.last in
    omega (arith, a, b)

pub returns-clause-sound : goal.returns-clause-sound
returns-clause-sound c =
    let s = c.args.self.now in
    let k = c.part_from-count.result in
    let new : Segments = record { last = s.last; first = set s.first c.args.table (slice_index s.first c.args.table + c.upto.result); parts = c.drop_front.new.parts; tail = s.tail } in
    let within : k ≤ length s.parts.items = subst (λ (ys : List Segment). k ≤ length ys) c.deref.ensures.value c.part_from-count.ensures.within in
    let behind = subst (λ (ys : List Segment). (other : ℕ) → other < 3 → before_all other ys + length (joined other (take k ys)) ≤ slice_index new.first other) c.deref.ensures.value c.part_from-count.ensures.behind in
    moved_sound s new k c.requires.sound (raises s new c.args.table c.upto.result k c.requires.sound c.requires.table refl c.upto.ensures.within within behind) refl c.drop_front.ensures refl

pub returns-clause-live : goal.returns-clause-live
returns-clause-live c =
    let s = c.args.self.now in
    let k = c.part_from-count.result in
    let new : Segments = record { last = s.last; first = set s.first c.args.table (slice_index s.first c.args.table + c.upto.result); parts = c.drop_front.new.parts; tail = s.tail } in
    let within : k ≤ length s.parts.items = subst (λ (ys : List Segment). k ≤ length ys) c.deref.ensures.value c.part_from-count.ensures.within in
    let behind = subst (λ (ys : List Segment). (other : ℕ) → other < 3 → before_all other ys + length (joined other (take k ys)) ≤ slice_index new.first other) c.deref.ensures.value c.part_from-count.ensures.behind in
    raised_live s new c.args.table c.upto.result k c.requires.sound c.requires.table refl (above c.args.floor (live_in s c.args.table)) c.upto.ensures.above
    (moved_live s new k c.requires.sound (raises s new c.args.table c.upto.result k c.requires.sound c.requires.table refl c.upto.ensures.within within behind) refl c.drop_front.ensures refl)
