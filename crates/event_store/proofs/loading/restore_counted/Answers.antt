use Rattle.std.proofs.Common.{◌≡◌, ◌+◌, ◌≤◌, ◌-◌, ◌∷◌, [], ◌++◌, ◌∙◌, ap, refl, arith, sym, subst, take, drop, List}
use Rattle.std.proofs.lemmas.List.{take_more, drop_more, take_all}
use Rattle.entry_model.specs.declared.restored.Live.{Live}
use Rattle.entry_model.specs.Fits.{IsRisingFrom}
use Rattle.event_store.specs.declared.segments.Segments.{Segments}
use Rattle.event_store.specs.Staging.{AreRestored}
use Rattle.event_store.proofs.Copies.{restored_reach, restored_sound, restored_live}
use Rattle.event_store.proofs.loading.restore_counted.Goals as goal

pub restore_event-requires-clause-small : goal.restore_event-requires-clause-small
restore_event-requires-clause-small g c =
    let l = c.loop-event in
    let known = subst (λ (e : Live). e.number ≤ c.args.last) (sym c.event-item.is) (c.requires.known l.event-index c.event-item.result c.loop-event-test.true) in
    let last = c.requires.last in
    (omega (arith, known, last), λ table lt. (let a = restored_reach l.number (take l.event-index c.args.live.now) l.parts.items l.tail l.invariant.restored table lt in let b = l.invariant.known in omega (arith, a, b, last)))

pub loop-event-preserved : goal.loop-event-preserved
loop-event-preserved g c =
    let l = c.loop-event in
    let x = c.event-item.result in
    let left : drop l.event-index c.args.live.now ≡ x ∷ drop (l.event-index + 1) c.args.live.now = drop_more c.args.live.now l.event-index x c.loop-event-test.true ∙ ap (λ (e : Live). e ∷ drop (l.event-index + 1) c.args.live.now) (sym c.event-item.is) in
    let taken : take (l.event-index + 1) c.args.live.now ≡ take l.event-index c.args.live.now ++ x ∷ [] = take_more c.args.live.now l.event-index x c.loop-event-test.true ∙ ap (λ (e : Live). take l.event-index c.args.live.now ++ e ∷ []) (sym c.event-item.is) in
    let rising = subst (IsRisingFrom l.number) left l.invariant.rising in
    record {
      restored = subst (λ (es : List Live). AreRestored x.number es c.restore_event.new.parts.items c.restore_event.new.tail) (sym taken) (c.in_ok-restore_event.ensures l.number (take l.event-index c.args.live.now) rising.0 l.invariant.restored);
      rising = rising.1;
      known = subst (λ (e : Live). e.number ≤ c.args.last) (sym c.event-item.is) (c.requires.known l.event-index x c.loop-event-test.true);
    }

pub go_on-requires-clause-small : goal.go_on-requires-clause-small
go_on-requires-clause-small g c table lt =
    let l = c.loop-event in
    let a = restored_reach l.number (take l.event-index c.args.live.now) l.parts.items l.tail l.invariant.restored table lt in
    let b = l.invariant.known in
    let last = c.requires.last in
    omega (arith, a, b, last)

pub returns-clause-sound : goal.returns-clause-sound
returns-clause-sound g c =
    let l = c.loop-event in
    let s : Segments = record { last = c.args.last; first = 0 ∷ 0 ∷ 0 ∷ []; parts = c.go_on.new.parts; tail = c.go_on.new.tail } in
    let all : take l.event-index c.args.live.now ≡ c.args.live.now = take_all l.event-index c.args.live.now (omega (arith, c.loop-event-test.false)) in
    let known = l.invariant.known in
    let same : c.args.last + 1 - 1 ≡ c.args.last = omega arith in
    restored_sound s c.args.live.now refl c.requires.last c.in_ok-go_on.ensures.holds (subst (λ n. AreRestored n c.args.live.now c.go_on.new.parts.items c.go_on.new.tail) same (c.in_ok-go_on.ensures.restored l.number c.args.live.now (omega (arith, known)) (subst (λ (es : List Live). AreRestored l.number es l.parts.items l.tail) all l.invariant.restored)))

pub returns-clause-live : goal.returns-clause-live
returns-clause-live g c =
    let l = c.loop-event in
    let s : Segments = record { last = c.args.last; first = 0 ∷ 0 ∷ 0 ∷ []; parts = c.go_on.new.parts; tail = c.go_on.new.tail } in
    let all : take l.event-index c.args.live.now ≡ c.args.live.now = take_all l.event-index c.args.live.now (omega (arith, c.loop-event-test.false)) in
    let known = l.invariant.known in
    let same : c.args.last + 1 - 1 ≡ c.args.last = omega arith in
    restored_live s c.args.live.now refl c.requires.last c.in_ok-go_on.ensures.holds (subst (λ n. AreRestored n c.args.live.now c.go_on.new.parts.items c.go_on.new.tail) same (c.in_ok-go_on.ensures.restored l.number c.args.live.now (omega (arith, known)) (subst (λ (es : List Live). AreRestored l.number es l.parts.items l.tail) all l.invariant.restored)))
