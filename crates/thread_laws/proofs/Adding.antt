-- The kinds of entries that a step adds.
use Rattle.std.proofs.Common.{◌≡◌, ℕ, ◌||◌, Bool, true, false, cond, List, [], ◌∷◌, get_or, refl, ap, sym, ◌∙◌, true≢false}
use Rattle.std.specs.Prelude.{All, bytes_eq, filter, None}
use Rattle.std.specs.List.{list_any}
use Rattle.std.proofs.lemmas.Slice.Eq.{bytes_eq-Decides}
use Rattle.std.proofs.lemmas.List.Elements.{All-nil, All-cons, All-head, All-tail, All-weaker}
use Rattle.osq_value.specs.declared.reading.Reading.{Reading}
use Rattle.osq_value.specs.declared.reading.Reading.TheVariants.{Events, Table}
use Rattle.entry_model.specs.Values.{moment_in}
use Rattle.entry_model.specs.declared.entry.Entry.{Entry}
use Rattle.entry_model.specs.declared.entry.Entry.TheVariants.{Opened, Configured, Ticked, Appended, TableSet, Expired, Committed, Acked}
use Rattle.session_state.specs.Readings.{entry_of}
use Rattle.shared_store.specs.Notes.{entries_in}
use Rattle.shared_store.specs.declared.noted.Noted.{Noted}
use Rattle.shared_store.specs.declared.noted.Noted.TheVariants.{Added, Taken, Given}
use Rattle.session_model.specs.Laws.{is_within}
use Rattle.session_model.specs.Taking.{is_from, from_source}
use Rattle.session_model.specs.Working.{is_batch}
use Rattle.thread_laws.specs.Jobs.{IsAnswer, IsAnswerNote, is_noted_from}
use Rattle.thread_laws.specs.Joining.{Part}
use Rattle.thread_laws.specs.Laws.{is_added}

-- the entries of the notes of a source are those of the source
pub entries_from : (name : List ℕ) (notes : List Noted) → entries_in (filter (is_noted_from name) notes) ≡ from_source name (entries_in notes)
entries_from name [] = refl
entries_from name (Taken ∷ notes) = entries_from name notes
entries_from name (Given cut ∷ notes) = entries_from name notes
entries_from name (Added entry ∷ notes) = by (is_from name entry) (entries_from name notes)
  where
    by : (b : Bool) → entries_in (filter (is_noted_from name) notes) ≡ from_source name (entries_in notes) → entries_in (cond b (Added entry ∷ filter (is_noted_from name) notes) (filter (is_noted_from name) notes)) ≡ cond b (entry ∷ from_source name (entries_in notes)) (from_source name (entries_in notes))
    by true rest = ap (λ (l : List Entry). entry ∷ l) rest
    by false rest = rest

-- it holds of the entry of the note, where it has one
abbrev pub HoldsIn : (Entry → Type 0) → Noted → Type 0
HoldsIn Q (Added entry) = Q entry
HoldsIn Q Taken = Unit {0}
HoldsIn Q (Given cut) = Unit {0}

pub entries_all : (Q : Entry → Type 0) (notes : List Noted) → All (HoldsIn Q) notes → All Q (entries_in notes)
entries_all Q [] all = All-nil Q
entries_all Q (Added entry ∷ notes) all =
    All-cons Q entry (entries_in notes) (All-head (HoldsIn Q) (Added entry) notes all) (entries_all Q notes (All-tail (HoldsIn Q) (Added entry) notes all))
entries_all Q (Taken ∷ notes) all = entries_all Q notes (All-tail (HoldsIn Q) Taken notes all)
entries_all Q (Given cut ∷ notes) all = entries_all Q notes (All-tail (HoldsIn Q) (Given cut) notes all)

pub or_right : (a b : Bool) → b ≡ true → (a || b) ≡ true
or_right true b h = refl
or_right false b h = h

or_left : (a b : Bool) → a ≡ true → (a || b) ≡ true
or_left true b h = refl
or_left false b h = absurd (true≢false (sym h))

pub any_at : {X : Type 0} (test : X → Bool) (xs : List X) → All (λ (x : X). test x ≡ true → list_any test xs ≡ true) xs
any_at test [] = All-nil (λ x. test x ≡ true → list_any test [] ≡ true)
any_at {X} test (x ∷ xs) =
    All-cons (λ (y : X). test y ≡ true → list_any test (x ∷ xs) ≡ true) x xs (or_left (test x) (list_any test xs))
    (All-weaker (λ (y : X). test y ≡ true → list_any test xs ≡ true) (λ (y : X). test y ≡ true → list_any test (x ∷ xs) ≡ true) (λ y later h. or_right (test x) (list_any test xs) (later h)) xs (any_at test xs))

bytes_same : (name : List ℕ) → bytes_eq name name ≡ true
bytes_same name = (bytes_eq-Decides name name).1 refl

pub own_is : (name : List ℕ) (moment : ℕ) (reading : Reading) → is_from name (entry_of name moment reading) ≡ true
own_is name moment (Events taken events skipped) = bytes_same name
own_is name moment (Table taken table rows) = bytes_same name

-- what a publisher of one of these parts adds
pub added_by : (parts : List Part) → All (λ (part : Part). (moment : ℕ) (reading : Reading) → is_added parts (entry_of part.name moment reading) ≡ true) parts
added_by parts = λ k d h moment reading. of (get_or parts k d) moment reading (any_at (λ (part : Part). is_from part.name (entry_of (get_or parts k d).name moment reading)) parts k d h)
  where
    of : (part : Part) (moment : ℕ) (reading : Reading) → (is_from part.name (entry_of part.name moment reading) ≡ true → list_any (λ (other : Part). is_from other.name (entry_of part.name moment reading)) parts ≡ true) → is_added parts (entry_of part.name moment reading) ≡ true
    of part moment reading any =
        or_right (is_batch (entry_of part.name moment reading)) (list_any (λ (other : Part). is_from other.name (entry_of part.name moment reading)) parts) (any (own_is part.name moment reading))

answer_is : (parts : List Part) (entry : Entry) → IsAnswer entry → is_added parts entry ≡ true
answer_is parts (Committed batch) is = refl
answer_is parts (Opened session rules) is = absurd is
answer_is parts (Configured document schedule moment) is = absurd is
answer_is parts (Ticked moment) is = absurd is
answer_is parts (Appended source taken events skipped moment) is = absurd is
answer_is parts (TableSet source table rows taken) is = absurd is
answer_is parts (Expired table floor moment) is = absurd is
answer_is parts (Acked upto) is = absurd is

-- and what a worker adds
pub answered_by : (parts : List Part) (note : Noted) → IsAnswerNote note → HoldsIn (λ (entry : Entry). is_added parts entry ≡ true) note
answered_by parts (Added entry) is = answer_is parts entry is
answered_by parts Taken is = tt
answered_by parts (Given cut) is = tt

none_pass : {X : Type 0} (xs : List X) → list_any (λ (x : X). false) xs ≡ false
none_pass [] = refl
none_pass (x ∷ xs) = none_pass xs

-- no session, tick or schedule begins by it, and time stands still
abbrev pub IsStill : Entry → Type 0
IsStill entry = (is_within entry ≡ true) × (moment_in entry ≡ None)

pub added_still : (parts : List Part) (entry : Entry) → is_added parts entry ≡ true → IsStill entry
added_still parts (Opened session rules) is = absurd (true≢false (sym is ∙ none_pass parts))
added_still parts (Configured document schedule moment) is = absurd (true≢false (sym is ∙ none_pass parts))
added_still parts (Ticked moment) is = absurd (true≢false (sym is ∙ none_pass parts))
added_still parts (Appended source taken events skipped moment) is = (refl, refl)
added_still parts (TableSet source table rows taken) is = (refl, refl)
added_still parts (Expired table floor moment) is = (refl, refl)
added_still parts (Committed batch) is = (refl, refl)
added_still parts (Acked upto) is = (refl, refl)
