use Rattle.std.proofs.Common.{◌≡◌, ℕ, ◌+◌, ◌-◌, ◌≤◌, ◌∙◌, ap, arith, length, take, drop, [], ◌∷◌, ◌++◌}
use Rattle.std.specs.Prelude.{slice_index}
use Rattle.std.proofs.lemmas.List.{length-drop}
use Rattle.std.proofs.lemmas.List.Elements.{All-drop, All-same}
use Rattle.entry_model.specs.Legal.{IsEvent}
use Rattle.event_store.specs.Queues.{events_of, new_events, placed}
use Rattle.event_store.specs.Segments.{joined}
use Rattle.event_store.proofs.Stages.{staged_segments, staged_joined, staged_reach, staged_held, staged_end, filled_all, joined_all}
use Rattle.event_store.proofs.placing.stage.Goals as goal

pub loop-alloc-smaller : goal.loop-alloc-smaller
loop-alloc-smaller g c =
    let a = ap length c.in_ok-stage_range.ensures.rest in
    let b = length-drop 256 c.loop-alloc.rest.items in
    let test = c.loop-alloc-test.true in
    let long = c.len.ensures in
    let ok = c.loop-alloc.rest.ok in
    omega (arith, a, b, test, long, ok)

pub loop-alloc-preserved : goal.loop-alloc-preserved
loop-alloc-preserved g c =
    let l = c.loop-alloc in
    let before : ℕ → ℕ = λ table. slice_index c.args.empty.before table in
    let test = c.loop-alloc-test.true in
    let long = c.len.ensures in
    let ok = l.rest.ok in
    let enough : 256 ≤ length l.rest.items = omega (arith, test, long, ok) in
    let rest = c.in_ok-stage_range.ensures.rest in
    let count = ap length rest in
    let left = length-drop 256 l.rest.items in
    let stages = c.in_ok-stage_range.ensures.ok in
    let steps = c.in_ok-stage_range.ensures.all in
    let number = l.invariant.number in
    let so_far = l.invariant.steps in
    record {
      segments = staged_segments c.args.last l.reached c.args.moment before l.staged c.stage_range.new.staged l.rest.items l.invariant.segments l.invariant.held l.invariant.end l.invariant.reach enough stages;
      joined = λ table lt. ap (λ es. joined table (c.stage_range.new.staged.parts.items ++ c.stage_range.new.staged.tail ∷ []) ++ events_of (new_events (l.reached + 256) c.args.moment es) table) rest ∙ staged_joined c.args.last l.reached c.args.moment before l.staged c.stage_range.new.staged l.rest.items l.invariant.segments l.invariant.held l.invariant.end l.invariant.reach enough stages table lt ∙ l.invariant.joined table lt;
      reach = staged_reach c.args.last l.reached c.args.moment before l.staged c.stage_range.new.staged l.rest.items l.invariant.segments l.invariant.held l.invariant.end l.invariant.reach enough stages;
      held = staged_held c.args.last l.reached c.args.moment before l.staged c.stage_range.new.staged l.rest.items l.invariant.segments l.invariant.held l.invariant.end l.invariant.reach enough stages;
      end = staged_end c.args.last l.reached c.args.moment before l.staged c.stage_range.new.staged l.rest.items l.invariant.segments l.invariant.held l.invariant.end l.invariant.reach enough stages;
      events = All-same IsEvent c.stage_range.new.rest.items (drop 256 l.rest.items) rest (All-drop IsEvent 256 l.rest.items l.invariant.events);
      number = omega (arith, count, left, enough, number);
      steps = omega (arith, count, left, enough, steps, so_far);
    }

pub returns-clause-ok : goal.returns-clause-ok
returns-clause-ok g c =
    let l = c.loop-alloc in
    let before : ℕ → ℕ = λ table. slice_index c.args.empty.before table in
    let test = c.loop-alloc-test.false in
    let one = c.len.ensures in
    let two = c.len-2.ensures in
    let ok = l.rest.ok in
    let number = l.invariant.number in
    let end = l.invariant.end in
    let until : l.reached + c.len-2.result ≡ c.args.last + length c.args.rest.items = omega (arith, number, two, ok) in
    filled_all c.args.last l.reached (c.args.last + length c.args.rest.items) c.args.moment before l.staged.parts.items l.staged.tail c.fill.new.queues l.rest.items l.invariant.segments (ap length l.invariant.held) (omega (arith, number)) (omega (arith, number, end, test, one, ok))
    (c.in_ok-fill.ensures.ok ∙ ap (λ n. placed l.staged.tail.held (new_events l.reached c.args.moment (take (n - l.reached) l.rest.items))) until)

pub returns-clause-events : goal.returns-clause-events
returns-clause-events g c table lt =
    let l = c.loop-alloc in
    let before : ℕ → ℕ = λ table. slice_index c.args.empty.before table in
    let test = c.loop-alloc-test.false in
    let one = c.len.ensures in
    let two = c.len-2.ensures in
    let ok = l.rest.ok in
    let number = l.invariant.number in
    let end = l.invariant.end in
    let until : l.reached + c.len-2.result ≡ c.args.last + length c.args.rest.items = omega (arith, number, two, ok) in
    joined_all c.args.last l.reached (c.args.last + length c.args.rest.items) c.args.moment before l.staged.parts.items l.staged.tail c.fill.new.queues l.rest.items l.invariant.segments (ap length l.invariant.held) (omega (arith, number)) (omega (arith, number, end, test, one, ok))
    (c.in_ok-fill.ensures.ok ∙ ap (λ n. placed l.staged.tail.held (new_events l.reached c.args.moment (take (n - l.reached) l.rest.items))) until) table lt
    ∙ l.invariant.joined table lt
