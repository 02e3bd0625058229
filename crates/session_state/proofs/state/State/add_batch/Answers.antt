use Rattle.std.proofs.Common.{◌≡◌, ℕ, Option, Some, ◌+◌, ◌≤◌, ◌/◌, true, set, Bool, false, List, length, refl, sym, ap, ◌∙◌, subst, arith}
use Rattle.std.specs.Prelude.{All, slice_get}
use Rattle.std.specs.Vec.{with_items}
use Rattle.std.proofs.lemmas.List.{append-nil, length-set, with_items_is}
use Rattle.pack_rules.specs.declared.schedule.QueryKey.{QueryKey}
use Rattle.entry_model.specs.Reserved.{RunsAndRoom, has_run, noted}
use Rattle.query_cursors.specs.Places.{place_of, reserved_of, places_of, places_noted}
use Rattle.query_cursors.proofs.Placing.{found_place}
use Rattle.session_state.specs.Inside.{kept}
use Rattle.session_state.specs.Kept.{IsRun}
use Rattle.sql_texts.specs.Meaning.{meaning}
use Rattle.event_store.specs.Contents.{rows_in}
use Rattle.session_state.specs.Computed.{schedule_shown}
use Rattle.session_state.specs.Listed.{AreFresh}
use Rattle.session_state.specs.Rooms.{all_due, all_new}
use Rattle.session_state.specs.Cut.{CutValue}
use Rattle.query_cursors.specs.Due.{NoneFree}
use Rattle.session_state.proofs.Passed.{passed_after}
use Rattle.session_state.proofs.Committing.{ready, has_run_room, has_room, room_left, run_room_left, places_left, runs_known, commits_given, sendable, listed_after}
use Rattle.session_state.proofs.state.State.add_batch.Goals as goal

pub record_commit-requires-clause-room : goal.record_commit-requires-clause-room
record_commit-requires-clause-room c none =
    let s = kept c.self.inside in
    let cut : CutValue = record { place = c.cut.inside.place; key = c.cut.inside.key; lo = c.cut.inside.lo; hi = c.cut.inside.hi; position = c.cut.inside.position; moment = c.cut.inside.moment; last = c.cut.inside.last; view = c.cut.inside.view } in
    let r = ready s c.args.self.now c.self.view_is cut c.args.cut c.cut.view_is c.self.invariant.state c.requires.cut c.requires.free in
    has_run_room s cut r.is r.of r.free (subst (λ (key : QueryKey). has_run s.counts.runs key ≡ false) c.cut.invariant none)

pub record_commit-requires-clause-place : goal.record_commit-requires-clause-place
record_commit-requires-clause-place c =
    let s = kept c.self.inside in
    let cut : CutValue = record { place = c.cut.inside.place; key = c.cut.inside.key; lo = c.cut.inside.lo; hi = c.cut.inside.hi; position = c.cut.inside.position; moment = c.cut.inside.moment; last = c.cut.inside.last; view = c.cut.inside.view } in
    let r = ready s c.args.self.now c.self.view_is cut c.args.cut c.cut.view_is c.self.invariant.state c.requires.cut c.requires.free in
    let current = r.of.current r.free.unmarked in
    ap (λ (places : List (Option ℕ)). slice_get places cut.place) r.is.places ∙ found_place s.counts.runs s.schedule.queries cut.place current.scheduled current.stands ∙ ap (λ (key : QueryKey). Some (place_of s.counts.runs key)) (current.key ∙ sym c.cut.invariant)

pub put-requires : goal.put-requires
put-requires c =
    let s = kept c.self.inside in
    let cut : CutValue = record { place = c.cut.inside.place; key = c.cut.inside.key; lo = c.cut.inside.lo; hi = c.cut.inside.hi; position = c.cut.inside.position; moment = c.cut.inside.moment; last = c.cut.inside.last; view = c.cut.inside.view } in
    let r = ready s c.args.self.now c.self.view_is cut c.args.cut c.cut.view_is c.self.invariant.state c.requires.cut c.requires.free in
    record {
      room = has_room s cut r.is r.of r.free;
      sealable = λ batch e. sendable s cut r (s.counts.batches + 1) c.args.rows (c.requires.rows ∙ (λ i. meaning (sym c.cut.view_is i).key.text (rows_in (sym c.cut.view_is i).view))) batch e;
    }

pub invariant_of-self : goal.invariant_of-self
invariant_of-self c =
    let s = kept c.self.inside in
    let cut : CutValue = record { place = c.cut.inside.place; key = c.cut.inside.key; lo = c.cut.inside.lo; hi = c.cut.inside.hi; position = c.cut.inside.position; moment = c.cut.inside.moment; last = c.cut.inside.last; view = c.cut.inside.view } in
    let r = ready s c.args.self.now c.self.view_is cut c.args.cut c.cut.view_is c.self.invariant.state c.requires.cut c.requires.free in
    let is = c.self.invariant.state in
    let number = s.counts.batches + 1 in
    let left = c.put.ensures.room in
    let position = is.position in
    let bound = r.free.bound in
    let acked = is.acked in
    let long : length c.unclaim.new.claims ≡ length c.as_mut_slice.result.now = ap (λ (claims : List Bool). length claims) c.unclaim.ensures ∙ simp length-set in
    let claims = with_items_is c.self.inside.claims c.unclaim.new.claims (omega (arith, long, c.as_mut_slice.ensures.len)) ∙ c.unclaim.ensures ∙ ap (λ (claims : List Bool). set claims cut.place false) c.as_mut_slice.ensures.value in
    let same : length (set s.claims cut.place false) ≡ length s.claims = simp length-set in
    let noted_is : reserved_of c.record_commit.new.self ≡ noted (reserved_of c.self.inside.cursors) cut.key number cut.hi cut.moment = c.record_commit.ensures.noted ∙ ap (λ (key : QueryKey). noted (reserved_of c.self.inside.cursors) key number cut.hi cut.moment) c.cut.invariant in
    let kept_rows = listed_after s cut r number c.self.inside.listed c.self.invariant.listed in
    let listed = subst (λ (v : RunsAndRoom). AreFresh (schedule_shown v.runs s.schedule.queries) (record c.self.inside.listed { stale = set c.self.inside.listed.stale (cut.place / 64) true })) (sym noted_is) kept_rows in
    record {
      listed = subst (AreFresh _) (sym c.outdate.ensures) listed;
      readers = c.self.invariant.readers;
      slices = c.self.invariant.slices;
      passed = subst (λ (v : RunsAndRoom). NoneFree v.runs s.schedule.queries (with_items c.self.inside.claims c.unclaim.new.claims).items s.counts.moment c.self.inside.from) (sym noted_is) (subst (λ (claims : List Bool). NoneFree (noted (reserved_of c.self.inside.cursors) cut.key number cut.hi cut.moment).runs s.schedule.queries claims s.counts.moment c.self.inside.from) (sym claims) (passed_after s cut r number c.self.inside.from c.self.invariant.passed));
      state = record {
        image = is.image;
        position = omega (arith, position, left);
        sessions = is.sessions;
        moment = is.moment;
        runs = subst (λ (v : RunsAndRoom). All (IsRun number) v.runs) (sym noted_is) (runs_known s cut r.is r.of r.free number (omega arith));
        batches = bound;
        acked = omega (arith, acked);
        schedule = is.schedule;
        claims = ap (λ (claims : List Bool). length claims) claims ∙ same ∙ is.claims;
        room = subst (λ (v : RunsAndRoom). length (all_due v.runs s.counts.moment s.schedule.queries) ≤ c.put.new.self.room) (sym noted_is) (room_left s cut r.is r.of r.free number c.put.new.self.room left);
        run_room = subst (λ (v : RunsAndRoom). length (all_new v.runs s.schedule.queries) ≤ v.room) (sym noted_is) (run_room_left s cut r.is r.of r.free number);
        places = c.record_commit.ensures.places ∙ ap (λ (key : QueryKey). places_noted c.self.inside.cursors cut.place key) c.cut.invariant ∙ places_left s cut r.is r.of r.free number ∙ ap (λ (v : RunsAndRoom). places_of v.runs s.schedule.queries) (sym noted_is);
        rising = is.rising;
        past = (let past = is.past in omega (arith, past));
      };
    }

pub returns-clause-committed : goal.returns-clause-committed
returns-clause-committed c =
    let s = kept c.self.inside in
    let cut : CutValue = record { place = c.cut.inside.place; key = c.cut.inside.key; lo = c.cut.inside.lo; hi = c.cut.inside.hi; position = c.cut.inside.position; moment = c.cut.inside.moment; last = c.cut.inside.last; view = c.cut.inside.view } in
    let r = ready s c.args.self.now c.self.view_is cut c.args.cut c.cut.view_is c.self.invariant.state c.requires.cut c.requires.free in
    let number = s.counts.batches + 1 in
    let noted_is : reserved_of c.record_commit.new.self ≡ noted (reserved_of c.self.inside.cursors) cut.key number cut.hi cut.moment = c.record_commit.ensures.noted ∙ ap (λ (key : QueryKey). noted (reserved_of c.self.inside.cursors) key number cut.hi cut.moment) c.cut.invariant in
    commits_given s c.args.self.now c.self.view_is cut c.args.cut c.cut.view_is r _ c.args.rows c.requires.rows (record {
      counts = λ i. record { position = s.counts.position + 1; sessions = s.counts.sessions; moment = s.counts.moment; taken = s.counts.taken; runs = (noted_is i).runs; batches = number; acked = s.counts.acked };
      image = refl;
      schedule = refl;
      ticked = refl;
      marks = sym (append-nil s.marks);
      tail = c.put.ensures.entries;
    })
