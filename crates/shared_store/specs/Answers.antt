-- What each call answers at the state of its turn, what the state is then, and what is noted.
use Rattle.std.specs.Prelude.{◌≡◌, ℕ, ◌+◌, ◌<◌, ◌≤◌, ◌^◌, ◌↔◌, ◌⊎◌, Bool, IsTrue, List, [], ◌∷◌, All, length, map, max, replicate, set, IfOk, IfErr, OnOk, OnErr, MatchBool, MatchOption, Option, Some, None, Result, Ok, Err, false}
use Rattle.osq_value.specs.declared.memory.NoMemory.{NoMemory}
use Rattle.osq_value.specs.declared.reading.Reading.{Reading}
use Rattle.osq_value.specs.declared.value.Value.{Value}
use Rattle.pack_rules.specs.declared.schedule.Schedule.{Schedule}
use Rattle.entry_model.specs.declared.entry.Entry.{Entry}
use Rattle.entry_model.specs.declared.entry.Entry.TheVariants.{Acked, Ticked, Configured}
use Rattle.entry_model.specs.Next.{offset_at}
use Rattle.event_store.specs.Contents.{Shown}
use Rattle.event_store.specs.Costs.{slice_cost}
use Rattle.session_state.specs.declared.state.TickRefusal.{TickRefusal}
use Rattle.session_state.specs.declared.state.TickRefusal.TheVariants as tick
use Rattle.session_state.specs.declared.state.AppendError.{AppendError}
use Rattle.session_state.specs.declared.state.AppendError.TheVariants as append
use Rattle.session_state.specs.declared.state.CommitRefusal.{CommitRefusal}
use Rattle.session_state.specs.Kept.{Kept}
use Rattle.session_state.specs.Cut.{CutValue}
use Rattle.session_state.specs.StateOf.{Adds}
use Rattle.session_state.specs.Ticks.{held_back_by, first_due}
use Rattle.session_state.specs.Readings.{entry_of, taken_of, event_count}
use Rattle.session_state.specs.Expiries.{expiries, AddsAll}
use Rattle.session_state.specs.Computed.{shown_by}
use Rattle.session_state.specs.Cutting.{next_cut, next_place, claimed_at, released}
use Rattle.session_state.specs.Sealing.{IsSealable}
use Rattle.session_state.specs.Commits.{Commits, committed, commit_refusal}
use Rattle.shared_store.specs.declared.noted.Noted.{Noted}
use Rattle.shared_store.specs.declared.noted.Noted.TheVariants.{Added, Taken, Given}

-- this entry was added, and noted
abbrev pub AddsNoted : Kept → Entry → Kept → List Noted → Type 0
AddsNoted was entry now notes = Adds was entry now × (notes ≡ Added entry ∷ [])

-- nothing has changed
abbrev pub IsSame : Kept → Kept → List Noted → Type 0
IsSame was now notes = (now ≡ was) × (notes ≡ [])

pub record Configures (document : List (List ℕ)) (schedule : Schedule) (moment : ℕ) (result : Result (Unit {0}) NoMemory) (was now : Kept) (notes : List Noted) : Type 0 where
  pub configured : OnOk result (AddsNoted was (Configured document schedule (max moment was.counts.moment)) now notes)
  pub claims : OnOk result (now.claims ≡ replicate (length schedule.queries) false)
  pub err : OnErr result (IsSame was now notes)

pub record Ticks (moment : ℕ) (result : Result (Unit {0}) TickRefusal) (was now : Kept) (notes : List Noted) : Type 0 where
  pub ticked : OnOk result (AddsNoted was (Ticked (max moment was.counts.moment)) now notes)
  pub claims : OnOk result (now.claims ≡ replicate (length was.claims) false)
  pub refused : (refusal : TickRefusal) → held_back_by was ≡ Some refusal → result ≡ Err refusal
  pub held_back : IfErr result (λ refusal. (refusal ≡ tick.NoMemory) ⊎ (held_back_by was ≡ Some refusal))
  pub err : OnErr result (IsSame was now notes)

pub record Appends (source : List ℕ) (reading : Reading) (result : Result (ℕ × ℕ) AppendError) (was now : Kept) (notes : List Noted) : Type 0 where
  pub added : OnOk result (AddsNoted was (entry_of source was.counts.moment reading) now notes)
  pub numbers : IfOk result (λ numbers. numbers ≡ (was.image.last, now.image.last))
  pub claims : now.claims ≡ was.claims
  pub backwards : (kept : ℕ) → (result ≡ Err (append.Backwards kept)) ↔ (kept ≡ offset_at was.counts.taken source) × (taken_of reading ≤ kept)
  pub spent : (result ≡ Err append.NumbersSpent) ↔ (offset_at was.counts.taken source < taken_of reading) × (2 ^ 62 < was.image.last + event_count reading)
  pub err : OnErr result (IsSame was now notes)

-- what is noted of a cut that was given, or of none
abbrev pub Notes : Option CutValue → List Noted → Type 0
Notes None notes = notes ≡ []
Notes (Some cut) notes = notes ≡ Given cut ∷ []

-- with so many steps before and after it
pub record Cuts (before after : ℕ) (result : Result (Option CutValue) NoMemory) (was now : Kept) (notes : List Noted) : Type 0 where
  pub cut : IfOk result (λ given. given ≡ next_cut was)
  pub none : (result ≡ Ok None) ↔ (first_due was ≡ None)
  pub noted : IfOk result (λ given. Notes given notes)
  pub claimed : OnOk result (now ≡ claimed_at was (next_place was))
  pub cost : MatchOption (next_cut was) (after ≡ before) (λ cut. after ≤ before + slice_cost cut.lo was.image)
  pub err : OnErr result (IsSame was now notes)

pub record CommitsAt (cut : CutValue) (rows : List (List Value)) (result : Result ℕ CommitRefusal) (was now : Kept) (notes : List Noted) : Type 0 where
  pub number : IfOk result (λ number. number ≡ was.counts.batches + 1)
  pub committed : OnOk result (Commits was cut rows now × (notes ≡ Added (committed was cut rows) ∷ []))
  pub claims : OnOk result (now.claims ≡ set was.claims cut.place false)
  pub refused : (refusal : CommitRefusal) → (result ≡ Err refusal) ↔ (commit_refusal was cut ≡ Some refusal)
  pub err : OnErr result (IsSame was now notes)

abbrev pub Releases : CutValue → Kept → Kept → List Noted → Type 0
Releases cut was now notes = (now ≡ released was cut) × (notes ≡ [])

pub record Expires (result : Result ℕ NoMemory) (was now : Kept) (notes : List Noted) : Type 0 where
  pub expired : OnOk result (AddsAll was (expiries was) now × (notes ≡ map Added (expiries was)))
  pub count : IfOk result (λ count. count ≡ length (expiries was))
  pub claims : now.claims ≡ was.claims
  pub err : OnErr result (IsSame was now notes)

pub record Acknowledges (upto : ℕ) (result : Result Bool NoMemory) (was now : Kept) (notes : List Noted) : Type 0 where
  pub answer : IfOk result (λ done. IsTrue done ↔ (was.counts.acked < upto) × (upto ≤ was.counts.batches))
  pub added : IfOk result (λ done. MatchBool done (AddsNoted was (Acked upto) now notes) (IsSame was now notes))
  pub claims : now.claims ≡ was.claims
  pub err : OnErr result (IsSame was now notes)

pub record Takes (result : Result (List Entry) NoMemory) (was now : Kept) (notes : List Noted) : Type 0 where
  pub taken : IfOk result (λ taken. taken ≡ was.tail)
  pub sealable : IfOk result (All IsSealable)
  pub marked : OnOk result ((now ≡ record was { tail = [] }) × (notes ≡ Taken ∷ []))
  pub err : OnErr result (IsSame was now notes)

pub record Views (moment : ℕ) (result : Result Shown NoMemory) (was now : Kept) (notes : List Noted) : Type 0 where
  pub view : IfOk result (λ view. view ≡ shown_by was was.image.last moment)
  pub same : IsSame was now notes
