-- What acknowledgements leave as it was.
use Rattle.std.proofs.Common.{◌≡◌, ℕ, Bool, List, [], ◌∷◌, ◌++◌, length, map, refl, ap, ◌∙◌, Option, None}
use Rattle.std.specs.Prelude.{flat_map, unwrap_or}
use Rattle.std.proofs.lemmas.List.{append-nil}
use Rattle.std.proofs.lemmas.List.Concat.{flat_map-append}
use Rattle.osq_value.specs.declared.value.Event.{Event}
use Rattle.pack_rules.specs.declared.schedule.Schedule.{Schedule}
use Rattle.entry_model.specs.declared.entry.Batch.{Batch}
use Rattle.entry_model.specs.declared.entry.Entry.{Entry}
use Rattle.entry_model.specs.declared.entry.Entry.TheVariants.{Acked}
use Rattle.entry_model.specs.Values.{commits, events_in, has_ticked, last_number, last_of, moment_in, moment_of, no_schedule, schedule_in, schedule_of, taken_from, taken_in, tick_in}
use Rattle.entry_model.proofs.Lasts.{commits-append, last_of-append}
use Rattle.session_model.specs.Configuring.{configured_in}
use Rattle.session_state.specs.Kept.{Kept}
use Rattle.daemon_rounds.specs.Adding.{AddsEntries}
use Rattle.daemon_rounds.specs.Keeping.{GoesOn}
use Rattle.daemon_rounds.proofs.Adding.{gains_of}
use Rattle.daemon_rounds.proofs.Keeping.{still_on}

-- what no acknowledgement gives is as it was
pub last_stays : {Y : Type 0} (found : Entry → Option Y) → ((upto : ℕ) → found (Acked upto) ≡ None) → (y : Y) (marks : List ℕ) → last_of found y (map Acked marks) ≡ y
last_stays found none y [] = refl
last_stays found none y (mark ∷ marks) = ap (λ o. last_of found (unwrap_or o y) (map Acked marks)) (none mark) ∙ last_stays found none y marks

pub last_behind : {Y : Type 0} (found : Entry → Option Y) → ((upto : ℕ) → found (Acked upto) ≡ None) → (y : Y) (kept : List Entry) (marks : List ℕ) → last_of found y (kept ++ map Acked marks) ≡ last_of found y kept
last_behind found none y kept marks = last_of-append found y kept (map Acked marks) ∙ last_stays found none (last_of found y kept) marks

pub acks_configured : (moment : ℕ) (marks : List ℕ) → last_of configured_in moment (map Acked marks) ≡ moment
acks_configured moment marks = last_stays configured_in (λ upto. refl) moment marks

pub acks_schedule : (schedule : Schedule) (marks : List ℕ) → last_of schedule_in schedule (map Acked marks) ≡ schedule
acks_schedule schedule marks = last_stays schedule_in (λ upto. refl) schedule marks

pub acks_tick : (ticked : Bool) (marks : List ℕ) → last_of tick_in ticked (map Acked marks) ≡ ticked
acks_tick ticked marks = last_stays tick_in (λ upto. refl) ticked marks

-- behind a list
pub configured_behind : (moment : ℕ) (kept : List Entry) (marks : List ℕ) → last_of configured_in moment (kept ++ map Acked marks) ≡ last_of configured_in moment kept
configured_behind moment kept marks = last_behind configured_in (λ upto. refl) moment kept marks

pub schedule_behind : (schedule : Schedule) (kept : List Entry) (marks : List ℕ) → last_of schedule_in schedule (kept ++ map Acked marks) ≡ last_of schedule_in schedule kept
schedule_behind schedule kept marks = last_behind schedule_in (λ upto. refl) schedule kept marks

pub schedule_of_behind : (kept : List Entry) (marks : List ℕ) → schedule_of (kept ++ map Acked marks) ≡ schedule_of kept
schedule_of_behind kept marks = schedule_behind no_schedule kept marks

pub ticked_behind : (kept : List Entry) (marks : List ℕ) → has_ticked (kept ++ map Acked marks) ≡ has_ticked kept
ticked_behind kept marks = last_behind tick_in (λ upto. refl) _ kept marks

pub moment_behind : (kept : List Entry) (marks : List ℕ) → moment_of (kept ++ map Acked marks) ≡ moment_of kept
moment_behind kept marks = last_behind moment_in (λ upto. refl) 0 kept marks

pub taken_behind : (kept : List Entry) (marks : List ℕ) (name : List ℕ) → taken_from (kept ++ map Acked marks) name ≡ taken_from kept name
taken_behind kept marks name = last_behind (taken_in name) (λ upto. refl) 0 kept marks

no_batch : (marks : List ℕ) → commits (map Acked marks) ≡ []
no_batch [] = refl
no_batch (mark ∷ marks) = no_batch marks

pub commits_behind : (kept : List Entry) (marks : List ℕ) → commits (kept ++ map Acked marks) ≡ commits kept
commits_behind kept marks =
    commits-append kept (map Acked marks) ∙ ap (λ (batches : List Batch). commits kept ++ batches) (no_batch marks) ∙ append-nil (commits kept)

no_event : (marks : List ℕ) → flat_map events_in (map Acked marks) ≡ []
no_event [] = refl
no_event (mark ∷ marks) = no_event marks

pub events_behind : (kept : List Entry) (marks : List ℕ) → flat_map events_in (kept ++ map Acked marks) ≡ flat_map events_in kept
events_behind kept marks =
    flat_map-append events_in kept (map Acked marks) ∙ ap (λ (events : List (ℕ × Event)). flat_map events_in kept ++ events) (no_event marks) ∙ append-nil (flat_map events_in kept)

pub number_behind : (kept : List Entry) (marks : List ℕ) → last_number (kept ++ map Acked marks) ≡ last_number kept
number_behind kept marks = ap length (events_behind kept marks)

-- a state goes on from the list with what it gains
pub goes_on_adds : (tells : Type 0) (kept : List Entry) (s t : Kept) (entries : List Entry) → GoesOn tells kept s → AddsEntries s entries t → GoesOn tells kept t
goes_on_adds tells kept s t entries g adds = still_on tells kept s t entries g (gains_of s t entries adds)
