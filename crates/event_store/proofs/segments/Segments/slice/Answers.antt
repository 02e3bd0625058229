use Rattle.std.proofs.Common.{ap, refl, ◌∙◌, arith, length, drop}
use Rattle.event_store.specs.declared.segments.Segments.{Segments}
use Rattle.event_store.proofs.Found.{small_parts, counted_read}
use Rattle.event_store.proofs.Moving.{sliced_sound, sliced_live}
use Rattle.event_store.proofs.Sharing.{sliced_few}
use Rattle.event_store.proofs.segments.Segments.slice.Goals as goal

pub part_from-requires-clause-counted : goal.part_from-requires-clause-counted
part_from-requires-clause-counted g c table lt =
    counted_read c.args.self.now c.requires.sound table lt c.deref.result.now c.deref.ensures.value

pub part_from-requires-clause-small : goal.part_from-requires-clause-small
part_from-requires-clause-small g c table lt =
    let a = small_parts c.args.self.now c.requires.sound table lt c.deref.result.now c.deref.ensures.value in
    let b = c.requires.sound.last in
    omega (arith, a, b)

pub returns-in_err-shared-clause-cost : goal.returns-in_err-shared-clause-cost
returns-in_err-shared-clause-cost g c =
    let few = sliced_few c.args.self.now c.requires.sound c.requires.rising c.args.number c.first_above-first.result c.first_above-first.ensures c.part_from.result c.deref.result.now c.deref.ensures.value c.part_from.ensures.within c.part_from.ensures.behind c.part_from.ensures.ahead in
    let long = c.split_at.ensures.back_len in
    let same = ap length c.deref.ensures.value in
    let slice = ap length c.as_slice.ensures.value in
    let steps = c.shared.ensures.steps in
    omega (arith, few, long, same, slice, steps)

pub returns-in_err-copied-clause-cost : goal.returns-in_err-copied-clause-cost
returns-in_err-copied-clause-cost g c =
    let few = sliced_few c.args.self.now c.requires.sound c.requires.rising c.args.number c.first_above-first.result c.first_above-first.ensures c.part_from.result c.deref.result.now c.deref.ensures.value c.part_from.ensures.within c.part_from.ensures.behind c.part_from.ensures.ahead in
    let long = c.split_at.ensures.back_len in
    let same = ap length c.deref.ensures.value in
    let slice = ap length c.as_slice.ensures.value in
    let steps = c.shared.ensures.steps in
    let more = c.copied.ensures.steps in
    omega (arith, few, long, same, slice, steps, more)

pub returns-clause-cost : goal.returns-clause-cost
returns-clause-cost g c =
    let few = sliced_few c.args.self.now c.requires.sound c.requires.rising c.args.number c.first_above-first.result c.first_above-first.ensures c.part_from.result c.deref.result.now c.deref.ensures.value c.part_from.ensures.within c.part_from.ensures.behind c.part_from.ensures.ahead in
    let long = c.split_at.ensures.back_len in
    let same = ap length c.deref.ensures.value in
    let slice = ap length c.as_slice.ensures.value in
    let steps = c.shared.ensures.steps in
    let more = c.copied.ensures.steps in
    omega (arith, few, long, same, slice, steps, more)

pub returns-clause-sound : goal.returns-clause-sound
returns-clause-sound g c =
    let s = c.args.self.now in
    let new : Segments = record { last = s.last; first = c.first_above-first.result; parts = c.in_ok-shared.field-0; tail = c.in_ok-copied.field-0 } in
    sliced_sound s new c.args.number c.part_from.result c.requires.sound c.first_above-first.ensures c.deref.result.now c.deref.ensures.value c.part_from.ensures.within c.part_from.ensures.behind refl (c.in_ok-shared.ensures.same ∙ c.split_at.ensures.back ∙ ap (drop c.part_from.result) c.as_slice.ensures.value) c.in_ok-copied.ensures.copied

pub returns-clause-live : goal.returns-clause-live
returns-clause-live g c =
    let s = c.args.self.now in
    let new : Segments = record { last = s.last; first = c.first_above-first.result; parts = c.in_ok-shared.field-0; tail = c.in_ok-copied.field-0 } in
    sliced_live s new c.args.number c.part_from.result c.requires.sound c.first_above-first.ensures c.deref.result.now c.deref.ensures.value c.part_from.ensures.within c.part_from.ensures.behind refl (c.in_ok-shared.ensures.same ∙ c.split_at.ensures.back ∙ ap (drop c.part_from.result) c.as_slice.ensures.value) c.in_ok-copied.ensures.copied
