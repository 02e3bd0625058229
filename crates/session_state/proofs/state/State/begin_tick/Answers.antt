use Rattle.std.proofs.Common.{subst, Bool, max, length, arith, ◌∙◌, ◌≡◌, ◌+◌, ℕ, List, None, refl, sym, ap, ◌∷◌, [], ◌++◌}
use Rattle.std.proofs.lemmas.List.{length-replicate, with_items_is}
use Rattle.entry_model.specs.declared.entry.Entry.TheVariants.{Ticked}
use Rattle.query_cursors.specs.Places.{Indexed, places_of}
use Rattle.entry_model.specs.declared.restored.Run.{Run}
use Rattle.session_state.specs.Computed.{schedule_shown}
use Rattle.session_state.specs.Listed.{AreFresh}
use Rattle.session_state.specs.Inside.{kept}
use Rattle.session_state.specs.Tails.{EntriesAndRoom}
use Rattle.session_state.specs.Ticks.{held_back_by}
use Rattle.session_state.proofs.Added.{adds}
use Rattle.session_state.proofs.Dues.{may_tick}
use Rattle.session_state.proofs.Reserving.{reserved}
use Rattle.session_state.proofs.state.State.begin_tick.Goals as goal

pub returns-clause-ticked : goal.returns-clause-ticked
returns-clause-ticked c =
    let s = kept c.self.inside in
    let free : held_back_by s ≡ None = ap held_back_by c.self.view_is ∙ c.requires.free in
    let later = rw (← c.self.view_is) at c.requires.later in
    rw (← c.self.view_is) (adds s _ (Ticked c.args.moment) refl c.self.invariant.state.image (λ K h. may_tick K s c.args.moment h c.self.invariant.state.runs c.requires.calendar later free) (record {
      counts = λ i. record { position = s.counts.position + 1; sessions = s.counts.sessions; moment = c.args.moment; taken = s.counts.taken; runs = (c.in-Ok.ensures.cursors i).runs; batches = s.counts.batches; acked = s.counts.acked };
      image = refl;
      schedule = refl;
      ticked = refl;
      marks = c.push_reserved.ensures.items ∙ ap (λ (marks : List ℕ). marks ++ s.counts.position ∷ []) c.in_ok-reserve.ensures.items;
      tail = ap (λ (t : EntriesAndRoom). t.entries) c.in-Ok.ensures.tail ∙ ap (λ (t : EntriesAndRoom). t.entries) c.in_ok-push.ensures.ok;
    }))

pub invariant_of-self-2 : goal.invariant_of-self-2
invariant_of-self-2 c =
    let s = kept c.self.inside in
    let long : length c.forget.new.claims ≡ length c.as_mut_slice.result.now = ap (λ (claims : List Bool). length claims) c.forget.ensures ∙ simp length-replicate in
    record {
      state = reserved s _ c.self.invariant.state (record {
        image = refl;
        position = refl;
        low = omega (arith, c.if-self-max-ge-MOST.false, c.max.ensures, c.room.ensures, c.len-queries.ensures);
        sessions = refl;
        moment = c.requires.calendar;
        runs = ap (λ (r : Indexed). r.runs) c.in-Ok.ensures.cursors;
        batches = refl;
        acked = refl;
        schedule = c.self.invariant.state.schedule;
        claims = ap (λ (claims : List Bool). length claims) (with_items_is c.self.inside.claims c.forget.new.claims (omega (arith, long, c.as_mut_slice.ensures.len))) ∙ long ∙ ap (λ (claims : List Bool). length claims) c.as_mut_slice.ensures.value ∙ c.self.invariant.state.claims;
        tail_room = ap (λ (t : EntriesAndRoom). t.room) c.in-Ok.ensures.tail ∙ (λ i. max ((c.in_ok-push.ensures.ok i).room) (c.len-queries.ensures i));
        run_room = ap (λ (r : Indexed). r.room) c.in-Ok.ensures.cursors ∙ ap (max s.run_room) c.len-queries.ensures;
        places = ap (λ (r : Indexed). r.places) c.in-Ok.ensures.cursors ∙ c.self.invariant.state.places ∙ sym (ap (λ (r : Indexed). places_of r.runs s.schedule.queries) c.in-Ok.ensures.cursors);
        marks = c.push_reserved.ensures.items ∙ ap (λ (marks : List ℕ). marks ++ s.counts.position ∷ []) c.in_ok-reserve.ensures.items;
      });
      listed = subst (λ (runs : List Run). AreFresh (schedule_shown runs s.schedule.queries) c.self.inside.listed) (sym (ap (λ (r : Indexed). r.runs) c.in-Ok.ensures.cursors)) c.self.invariant.listed;
      readers = c.self.invariant.readers;
      slices = c.self.invariant.slices;
      passed = λ place scheduled lt. absurd (omega (arith, lt));
    }
