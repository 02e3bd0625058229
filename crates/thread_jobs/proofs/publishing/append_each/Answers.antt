use Rattle.std.proofs.Common.{List, sym, subst, ◌∙◌}
use Rattle.std.specs.Prelude.{All}
use Rattle.osq_value.specs.declared.reading.Reading.{Reading}
use Rattle.session_state.specs.Readings.{IsReading}
use Rattle.turn_lock.specs.Words.{number, seen}
use Rattle.shared_store.specs.Turns.{notes_of}
use Rattle.shared_store.specs.Words.{start_of}
use Rattle.daemon_rounds.specs.Appending.{AreRising}
use Rattle.thread_jobs.specs.Publishing.{offset_after}
use Rattle.thread_jobs.proofs.Adding.{IsAdding, adding_none, adding_ok, exceeds_err, front_err, has_front, has_published, intruded_err}
use Rattle.thread_jobs.proofs.Owning.{same_self, same_then}
use Rattle.thread_jobs.proofs.publishing.append_each.Goals as goal

pub loop-reading-init : goal.loop-reading-init
loop-reading-init g c =
    let start = start_of c.args.store.now in
    let seat = c.args.seat.now in
    let name = c.args.source.now in
    let same = c.from_vec-rest.ensures.items ∙ c.into_vec.ensures in (
      same_self seat,
      c.requires.seat.1,
      adding_none start (number seat) (seen seat) name c.from_vec-rest.result.items (subst (All IsReading) (sym same) c.requires.readings)
          (subst (AreRising (offset_after start (notes_of seat) name)) (sym same) c.requires.rising),
    )

pub loop-reading-preserved : goal.loop-reading-preserved
loop-reading-preserved g c =
    let start = start_of c.args.store.now in
    let first = c.args.seat.now in
    let old = c.loop-reading.seat in
    let new = c.append.new.seat in
    let before = c.loop-reading.invariant in
    let so = subst (λ (rest : List Reading). IsAdding start (number first) (seen first) c.args.source.now c.from_vec-rest.result.items rest (seen old)) c.in-Some.ensures.items before.2 in (
      same_then first old new before.0 c.append.ensures.seat.0,
      c.append.ensures.seat.1,
      adding_ok start (number first) (seen first) c.args.source.now c.from_vec-rest.result.items c.in-Some.reading _ old new before.0.number so c.append.result _ c.in-Ok.is c.append.ensures.turn,
    )

pub returns-in-Err-clause-seat : goal.returns-in-Err-clause-seat
returns-in-Err-clause-seat g c =
    (same_then c.args.seat.now c.loop-reading.seat c.append.new.seat c.loop-reading.invariant.0 c.append.ensures.seat.0, c.append.ensures.seat.1)

pub returns-in-Err-clause-front : goal.returns-in-Err-clause-front
returns-in-Err-clause-front g c =
    let start = start_of c.args.store.now in
    let first = c.args.seat.now in
    let old = c.loop-reading.seat in
    let new = c.append.new.seat in
    let before = c.loop-reading.invariant in
    let so = subst (λ (rest : List Reading). IsAdding start (number first) (seen first) c.args.source.now c.from_vec-rest.result.items rest (seen old)) c.in-Some.ensures.items before.2 in
    front_err start (number first) (seen first) c.args.source.now c.from_vec-rest.result.items c.in-Some.reading _ old new before.0.number so c.args.readings c.append.result c.in-Err.error
    (c.from_vec-rest.ensures.items ∙ c.into_vec.ensures) c.in-Err.is c.append.ensures.turn

pub returns-in-Err-clause-intruded : goal.returns-in-Err-clause-intruded
returns-in-Err-clause-intruded g c why =
    let start = start_of c.args.store.now in
    let first = c.args.seat.now in
    let old = c.loop-reading.seat in
    let new = c.append.new.seat in
    let before = c.loop-reading.invariant in
    let so = subst (λ (rest : List Reading). IsAdding start (number first) (seen first) c.args.source.now c.from_vec-rest.result.items rest (seen old)) c.in-Some.ensures.items before.2 in
    intruded_err start (number first) (seen first) c.args.source.now c.from_vec-rest.result.items c.in-Some.reading _ old new before.0.number so c.append.result c.in-Err.error
    c.in-Err.is (sym c.unadded.ensures ∙ cc why) c.append.ensures.turn

pub returns-in-Err-clause-spent : goal.returns-in-Err-clause-spent
returns-in-Err-clause-spent g c why =
    let start = start_of c.args.store.now in
    let first = c.args.seat.now in
    let old = c.loop-reading.seat in
    let new = c.append.new.seat in
    let before = c.loop-reading.invariant in
    let so = subst (λ (rest : List Reading). IsAdding start (number first) (seen first) c.args.source.now c.from_vec-rest.result.items rest (seen old)) c.in-Some.ensures.items before.2 in
    exceeds_err start (number first) (seen first) c.args.source.now c.from_vec-rest.result.items c.in-Some.reading _ old new before.0.number so c.args.readings c.append.result c.in-Err.error
    (c.from_vec-rest.ensures.items ∙ c.into_vec.ensures) c.in-Err.is (sym c.unadded.ensures ∙ cc why) c.append.ensures.turn
