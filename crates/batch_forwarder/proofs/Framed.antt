-- Each batch of a legal list has a frame.
use Rattle.std.proofs.Common.{◌≡◌, ℕ, zero, suc, ◌<◌, ◌≤◌, ◌^◌, ◌&&◌, Bool, true, false, cond, List, [], ◌∷◌, ◌++◌, length, length-append, map, refl, sym, ap, ◌∙◌, subst, arith, Some, None}
use Rattle.std.specs.Prelude.{Contains, filter, slice_get}
use Rattle.std.proofs.lemmas.List.Elements.{All-contains, All-nil}
use Rattle.std.proofs.lemmas.Option.{same_Some}
use Rattle.sql_texts.specs.Meaning.{is_accepted}
use Rattle.pack_rules.specs.declared.schedule.Scheduled.{Scheduled}
use Rattle.pack_rules.specs.Sound.{IsRunnable, IsSound}
use Rattle.entry_model.specs.declared.entry.Batch.{Batch}
use Rattle.entry_model.specs.declared.entry.Entry.{Entry}
use Rattle.entry_model.specs.declared.entry.Entry.TheVariants.{Opened, Configured, Committed}
use Rattle.entry_model.specs.Legal.{Legal, LegalNext, MayCommit}
use Rattle.entry_model.specs.Values.{commits, has_ticked, no_schedule, schedule_in, schedule_of}
use Rattle.entry_model.specs.Views.{due_queries, is_due}
use Rattle.entry_model.proofs.Commits.{Contains-from_map}
use Rattle.entry_model.proofs.Follows.{Follow-split, over_legal}
use Rattle.entry_model.proofs.Lasts.{last_of-append}
use Rattle.entry_model.proofs.Lists.{Contains-from_filter}
use Rattle.batch_frames.specs.Valid.{is_host}
use Rattle.frame_laws.proofs.Made.{commits_make_frames}
use Rattle.batch_forwarder.specs.Frames.{frame_for, frame_text}
use Rattle.batch_forwarder.specs.Laws.{CommitsAreSent}

-- an empty schedule may be run
none_sound : IsSound no_schedule
none_sound = record {
  count = omega arith;
  order = refl;
  runnable = All-nil IsRunnable;
  expiry_least = omega arith;
  expiry_most = omega arith;
  max_least = omega arith;
  max_most = omega arith;
}

-- what runs behind a legal list may be run
runs_sound : (entries : List Entry) → Legal entries → IsSound (schedule_of entries)
runs_sound = over_legal (λ entries. IsSound (schedule_of entries)) none_sound more
  where
    more : (entries : List Entry) (entry : Entry) → Legal entries → IsSound (schedule_of entries) → LegalNext entries entry → IsSound (schedule_of (entries ++ entry ∷ []))
    more entries (Opened session rules) legal sound next = subst IsSound (sym (last_of-append schedule_in no_schedule entries (Opened session rules ∷ []))) none_sound
    more entries (Configured document schedule moment) legal sound next =
        subst IsSound (sym (last_of-append schedule_in no_schedule entries (Configured document schedule moment ∷ []))) next.0
    more entries entry legal sound next = subst IsSound (sym (last_of-append schedule_in no_schedule entries (entry ∷ []))) sound

-- a query that is due is one of the schedule's
due_accepted : (entries : List Entry) (batch : Batch) → IsSound (schedule_of entries) → Contains (due_queries entries) batch.query → is_accepted batch.query.text ≡ true
due_accepted entries batch sound due = by_tick (has_ticked entries) due
  where
    by_tick : (ticked : Bool) → Contains (cond ticked (map (λ (scheduled : Scheduled). scheduled.key) (filter (is_due entries) (schedule_of entries).queries)) []) batch.query → is_accepted batch.query.text ≡ true
    by_tick false (place, within, at) = absurd (omega (arith, within))
    by_tick true is =
        let one = Contains-from_map (λ (scheduled : Scheduled). scheduled.key) (filter (is_due entries) (schedule_of entries).queries) batch.query is in
        let member = Contains-from_filter (is_due entries) (schedule_of entries).queries one.source one.member in
        let runnable = All-contains IsRunnable (schedule_of entries).queries one.source sound.runnable member.0 in
        ap (λ key. is_accepted key.text) (sym one.is) ∙ runnable.accepted

-- what stands before a batch, and behind it
pub record IsAmong (entries : List Entry) (batch : Batch) : Type 0 where
  pub before : List Entry
  pub after : List Entry
  pub is : before ++ Committed batch ∷ after ≡ entries

among_more : (entry : Entry) (entries : List Entry) (batch : Batch) → IsAmong entries batch → IsAmong (entry ∷ entries) batch
among_more entry entries batch among = record { before = entry ∷ among.before; after = among.after; is = ap (λ es. entry ∷ es) among.is }

among : (entries : List Entry) (place : ℕ) (batch : Batch) → slice_get (commits entries) place ≡ Some batch → IsAmong entries batch
among [] place batch at = absurd (cc)
among (Committed other ∷ entries) zero batch at = record { before = []; after = entries; is = ap (λ b. Committed b ∷ entries) (sym (same_Some other batch at)) }
among (Committed other ∷ entries) (suc place) batch at = among_more (Committed other) entries batch (among entries place batch at)
among (entry ∷ entries) place batch at = among_more entry entries batch (among entries place batch at)

module _ (before after : List Entry) (batch : Batch) (host : List ℕ) (legal : Legal (before ++ Committed batch ∷ after)) (few : length before < 2 ^ 63) (named : is_host host ≡ true) where
  accepted : is_accepted batch.query.text ≡ true
  accepted =
      let split = Follow-split [] before (Committed batch ∷ after) legal in
      let may : MayCommit before batch = split.1.0 in
      due_accepted before batch (runs_sound before split.0) may.due

  framed : frame_for host batch ≡ Some (frame_text host batch)
  framed = λ i. cond (accepted i && commits_make_frames before after batch host legal few named i) (Some (frame_text host batch)) None

pub commits_are_sent : CommitsAreSent
commits_are_sent entries place batch host legal few named at =
    let here = among entries place batch at in
    let size : length here.before ≤ length entries =
    (let all = ap length here.is in let parts = length-append here.before (Committed batch ∷ here.after) in omega (arith, all, parts)) in
    framed here.before here.after batch host (subst Legal (sym here.is) legal) (omega (arith, size, few)) named
