use Rattle.std.proofs.Common.{◌≡◌, Bool, length, sym, subst, ◌∙◌, ◌+◌, ℕ, List, max, refl, ap, arith, ◌∷◌, [], ◌++◌}
use Rattle.std.proofs.lemmas.List.{length-replicate}
use Rattle.pack_rules.specs.declared.schedule.Schedule.{Schedule}
use Rattle.entry_model.specs.declared.entry.Entry.TheVariants.{Configured}
use Rattle.query_cursors.specs.Places.{Indexed, places_of}
use Rattle.pack_rules.specs.Sound.{IsSound}
use Rattle.pack_rules.specs.declared.schedule.Scheduled.{Scheduled}
use Rattle.entry_model.specs.declared.restored.Run.{Run}
use Rattle.session_state.specs.Computed.{schedule_shown}
use Rattle.session_state.specs.Listed.{AreFresh}
use Rattle.session_state.specs.Readers.{readers_of}
use Rattle.session_state.specs.Inside.{kept}
use Rattle.session_state.specs.Kept.{Counts}
use Rattle.session_state.specs.Tails.{EntriesAndRoom}
use Rattle.session_state.proofs.Added.{adds}
use Rattle.session_state.proofs.Reserving.{reserved}
use Rattle.session_state.proofs.state.State.configure.Goals as goal

pub returns-clause-configured : goal.returns-clause-configured
returns-clause-configured c =
    let a = c.args in
    let s = kept c.self.inside in
    let counts = s.counts in
    let moment = max a.moment s.counts.moment in
    let known = c.self.invariant.state.moment in
    let low = c.requires.calendar in
    let runs = ap (λ (r : Indexed). r.runs) c.set_places.ensures ∙ ap (λ (r : Indexed). r.runs) c.in-Ok.ensures.cursors in
    rw (← c.self.view_is) (adds s _ (Configured a.document a.schedule moment) refl c.self.invariant.state.image (λ K h. (c.requires.sound, record { later = (let now = ap (λ (c : Counts). c.moment) h.counts in omega (arith, now)); calendar = omega (arith, known, low) })) (record {
      counts = λ i. record { position = counts.position + 1; sessions = counts.sessions; moment = c.max-moment.ensures i; taken = counts.taken; runs = runs i; batches = counts.batches; acked = counts.acked };
      image = refl;
      schedule = c.in_ok-running.ensures.schedule;
      ticked = refl;
      marks = c.push_reserved.ensures.items ∙ ap (λ (marks : List ℕ). marks ++ counts.position ∷ []) c.in_ok-reserve.ensures.items;
      tail = ap (λ (t : EntriesAndRoom). t.entries) c.in-Ok.ensures.tail ∙ ap (λ (t : EntriesAndRoom). t.entries) c.in_ok-push.ensures.ok ∙ ap (λ (m : ℕ). s.tail ++ Configured a.document a.schedule m ∷ []) c.max-moment.ensures;
    }))

pub invariant_of-self-2 : goal.invariant_of-self-2
invariant_of-self-2 c =
    let s = kept c.self.inside in
    let running = c.in_ok-running.running in
    let told = c.in_ok-running.ensures in
    let places = rw (← c.self.view_is) at told.places in
    let listed = rw (← c.self.view_is) at told.listed in
    let same : length running.schedule.queries ≡ length c.args.schedule.queries = ap (λ (schedule : Schedule). length schedule.queries) told.schedule in
    let count : c.len-queries.result ≡ length running.schedule.queries = c.len-queries.ensures ∙ sym same in
    let known = c.self.invariant.state.moment in
    let calendar = c.requires.calendar in
    let runs = ap (λ (r : Indexed). r.runs) c.set_places.ensures ∙ ap (λ (r : Indexed). r.runs) c.in-Ok.ensures.cursors in
    record {
      state = reserved s _ c.self.invariant.state (record {
        image = refl;
        position = refl;
        low = omega (arith, c.if-self-max-ge-MOST.false, c.max.ensures, c.room.ensures, count);
        sessions = refl;
        moment = omega (arith, c.max-moment.ensures, known, calendar);
        runs = runs;
        batches = refl;
        acked = refl;
        schedule = subst IsSound (sym told.schedule) c.requires.sound;
        claims = ap (λ (claims : List Bool). length claims) told.claims ∙ simp length-replicate (sym same);
        tail_room = ap (λ (t : EntriesAndRoom). t.room) c.in-Ok.ensures.tail ∙ (λ i. max ((c.in_ok-push.ensures.ok i).room) (count i));
        run_room = ap (λ (r : Indexed). r.room) c.set_places.ensures ∙ ap (λ (r : Indexed). r.room) c.in-Ok.ensures.cursors ∙ ap (max s.run_room) count;
        places = ap (λ (r : Indexed). r.places) c.set_places.ensures ∙ places ∙ (λ i. places_of (sym runs i) ((sym told.schedule i).queries));
        marks = c.push_reserved.ensures.items ∙ ap (λ (marks : List ℕ). marks ++ s.counts.position ∷ []) c.in_ok-reserve.ensures.items;
      });
      listed = subst (λ (runs : List Run). AreFresh (schedule_shown runs running.schedule.queries) running.listed) (sym runs) (subst (λ (schedule : Schedule). AreFresh (schedule_shown s.counts.runs schedule.queries) running.listed) (sym told.schedule) listed);
      readers = told.readers ∙ sym (ap (λ (schedule : Schedule). readers_of schedule.queries) told.schedule);
      slices = c.self.invariant.slices;
      passed = λ place scheduled lt. absurd (omega (arith, lt));
    }
