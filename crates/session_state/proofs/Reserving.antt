-- A state that made room for a commit of each query is a state again.
use Rattle.std.proofs.Common.{◌≡◌, ℕ, ◌+◌, ◌<◌, ◌≤◌, ◌^◌, List, [], ◌∷◌, ◌++◌, length, max, sym, ap, ◌∙◌, subst, arith}
use Rattle.std.specs.Prelude.{All}
use Rattle.osq_value.specs.declared.moment.TheConstants.{LAST_MOMENT}
use Rattle.entry_model.specs.declared.restored.Run.{Run}
use Rattle.pack_rules.specs.Sound.{IsSound}
use Rattle.event_store.specs.Contents.{IsImage}
use Rattle.session_state.specs.Kept.{Kept, IsRun, IsState, due_count}
use Rattle.query_cursors.specs.Places.{places_of}
use Rattle.session_state.specs.Marks.{IsRising, behind_marks}
use Rattle.session_state.specs.Rooms.{all_new}
use Rattle.session_state.proofs.Marked.{rising_more, behind_more}
use Rattle.session_state.proofs.Rooms.{few_due, few_new}

-- the new state has one entry more, and room for a commit of each query of its schedule
pub record Reserves (s new : Kept) : Type 0 where
  pub image : new.image ≡ s.image
  pub position : new.counts.position ≡ s.counts.position + 1
  pub low : s.counts.position + 1 + max s.tail_room (length new.schedule.queries) < 2 ^ 63
  pub sessions : new.counts.sessions ≡ s.counts.sessions
  pub moment : new.counts.moment ≤ LAST_MOMENT
  pub runs : new.counts.runs ≡ s.counts.runs
  pub batches : new.counts.batches ≡ s.counts.batches
  pub acked : new.counts.acked ≡ s.counts.acked
  pub schedule : IsSound new.schedule
  pub claims : length new.claims ≡ length new.schedule.queries
  pub tail_room : new.tail_room ≡ max s.tail_room (length new.schedule.queries)
  pub run_room : new.run_room ≡ max s.run_room (length new.schedule.queries)
  pub places : new.places ≡ places_of new.counts.runs new.schedule.queries
  pub marks : new.marks ≡ s.marks ++ s.counts.position ∷ []

pub reserved : (s new : Kept) → IsState s → Reserves s new → IsState new
reserved s new is r =
    let position = r.position in
    let low = r.low in
    let tail_room = r.tail_room in
    let sessions = r.sessions in
    let sessions_low = is.sessions in
    let batches = r.batches in
    let batches_low = is.batches in
    let acked = r.acked in
    let acked_low = is.acked in
    record {
      image = subst IsImage (sym r.image) is.image;
      position = omega (arith, position, low, tail_room);
      sessions = omega (arith, sessions, sessions_low);
      moment = r.moment;
      runs = subst (λ (runs : List Run). All (IsRun new.counts.batches) runs) (sym r.runs) (subst (λ (batches : ℕ). All (IsRun batches) s.counts.runs) (sym r.batches) is.runs);
      batches = omega (arith, batches, batches_low);
      acked = omega (arith, batches, acked, acked_low);
      schedule = r.schedule;
      claims = r.claims;
      room = subst (λ (room : ℕ). due_count new ≤ room) (sym r.tail_room) (few_due new.counts.runs new.counts.moment s.tail_room new.schedule.queries);
      run_room = subst (λ (room : ℕ). length (all_new new.counts.runs new.schedule.queries) ≤ room) (sym r.run_room) (few_new new.counts.runs s.run_room new.schedule.queries);
      places = r.places;
      rising = subst (IsRising 0) (sym r.marks) (rising_more 0 s.marks s.counts.position is.rising is.past);
      past = (let behind = ap (behind_marks 0) r.marks ∙ behind_more 0 s.marks s.counts.position in omega (arith, behind, position));
    }
