-- A note is one of a source exactly where it has the number of that source's seat.
use Rattle.std.proofs.Common.{◌≡◌, ℕ, ◌==◌, ◌||◌, Bool, true, false, List, [], ◌∷◌, ◌++◌, map, get_or, refl, sym, ◌∙◌, subst, true≢false, eq-eqb, arith}
use Rattle.std.proofs.lemmas.Bool.Decides.{nat_tests}
use Rattle.std.specs.Prelude.{All, bytes_eq, filter}
use Rattle.std.specs.List.{AllZip, list_any}
use Rattle.std.proofs.lemmas.Slice.Eq.{bytes_eq-Decides}
use Rattle.std.proofs.lemmas.List.Elements.{All-nil, All-cons, All-head, All-tail, All-append, All-map, All-weaker}
use Rattle.osq_value.specs.declared.reading.Reading.{Reading}
use Rattle.osq_value.specs.declared.reading.Reading.TheVariants.{Events, Table}
use Rattle.entry_model.specs.Fits.{IsDistinct}
use Rattle.entry_model.specs.declared.entry.Entry.{Entry}
use Rattle.entry_model.specs.declared.entry.Entry.TheVariants.{Opened, Configured, Ticked, Appended, TableSet, Expired, Committed, Acked}
use Rattle.turn_lock.specs.Own.{own}
use Rattle.turn_lock.specs.Turns.{entries}
use Rattle.session_state.specs.Readings.{entry_of}
use Rattle.shared_store.specs.declared.noted.Noted.{Noted}
use Rattle.shared_store.specs.declared.noted.Noted.TheVariants.{Added, Taken, Given}
use Rattle.session_model.specs.Taking.{is_from}
use Rattle.thread_laws.specs.Jobs.{Stamped, IsAnswer, IsAnswerNote, IsNoteOf, is_noted_from}
use Rattle.thread_laws.specs.Joining.{Part, numbers_of, AreAdded}
use Rattle.thread_laws.specs.Laws.{NoneIntrudes}
use Rattle.thread_laws.proofs.Seats.{each_note, own_by_test}

pub or_false : (a b : Bool) → (a || b) ≡ false → (a ≡ false) × (b ≡ false)
or_false false b h = (refl, h)
or_false true b h = absurd (true≢false h)

-- where a test passes none of what a function gives, it passes it for no element
pub none_any : {X Y : Type 0} (test : Y → Bool) (f : X → Y) (xs : List X) → list_any test (map f xs) ≡ false → All (λ (x : X). test (f x) ≡ false) xs
none_any test f [] h = All-nil (λ x. test (f x) ≡ false)
none_any test f (x ∷ xs) h =
    let both = or_false (test (f x)) (list_any test (map f xs)) h in
    All-cons (λ x. test (f x) ≡ false) x xs both.0 (none_any test f xs both.1)

pub none_of : {X : Type 0} (test : X → Bool) (xs : List X) → list_any test xs ≡ false → All (λ (x : X). test x ≡ false) xs
none_of test [] h = All-nil (λ x. test x ≡ false)
none_of test (x ∷ xs) h =
    let both = or_false (test x) (list_any test xs) h in All-cons (λ x. test x ≡ false) x xs both.0 (none_of test xs both.1)

none_of_rest : {X : Type 0} (test : X → Bool) (xs ys : List X) → list_any test (xs ++ ys) ≡ false → list_any test ys ≡ false
none_of_rest test [] ys h = h
none_of_rest test (x ∷ xs) ys h = none_of_rest test xs ys ((or_false (test x) (list_any test (xs ++ ys)) h).1)

pub bytes_same : (name : List ℕ) → bytes_eq name name ≡ true
bytes_same name = (bytes_eq-Decides name name).1 refl

pub bytes_turned : (a b : List ℕ) → bytes_eq a b ≡ false → bytes_eq b a ≡ false
bytes_turned a b differ = by (bytes_eq b a) refl where
  by : (t : Bool) → bytes_eq b a ≡ t → bytes_eq b a ≡ false
  by false is = is
  by true is = absurd (true≢false (sym ((bytes_eq-Decides a b).1 (sym ((bytes_eq-Decides b a).0 is))) ∙ differ))

number_turned : (a b : ℕ) → (a == b) ≡ false → (b == a) ≡ false
number_turned a b differ = grind (arith, nat_tests, differ)

-- none of these workers has the number
abbrev IsApart : List ℕ → ℕ → Type 0
IsApart workers number = All (λ (worker : ℕ). (worker == number) ≡ false) workers

apart_of : (workers numbers : List ℕ) → IsDistinct ◌==◌ (workers ++ numbers) → IsDistinct ◌==◌ numbers × All (IsApart workers) numbers
apart_of [] numbers distinct = (distinct, λ k d h. All-nil (λ (worker : ℕ). (worker == get_or numbers k d) ≡ false))
apart_of (worker ∷ workers) numbers distinct =
    let rest = apart_of workers numbers distinct.1 in
    let others = none_of (λ (number : ℕ). number == worker) numbers (none_of_rest (λ (number : ℕ). number == worker) workers numbers distinct.0) in
    (rest.0, λ k d h. All-cons (λ (other : ℕ). (other == get_or numbers k d) ≡ false) worker workers (number_turned (get_or numbers k d) worker (others k d h)) (rest.1 k d h))

all_unmapped : {X Y : Type 0} (P : Y → Type 0) (f : X → Y) (xs : List X) → All P (map f xs) → All (λ x. P (f x)) xs
all_unmapped P f [] a = All-nil (λ x. P (f x))
all_unmapped P f (x ∷ xs) a = All-cons (λ x. P (f x)) x xs (All-head P (f x) (map f xs) a) (all_unmapped P f xs (All-tail P (f x) (map f xs) a))

module _ {X : Type 0} (name : X → List ℕ) (number : X → ℕ) where
  -- the names of the two are the same exactly where their numbers are
  abbrev pub Agree : X → X → Type 0
  Agree one other = bytes_eq (name other) (name one) ≡ (number other == number one)

  agree_each : (xs : List X) → IsDistinct bytes_eq (map name xs) → IsDistinct ◌==◌ (map number xs) → All (λ (one : X). All (Agree one) xs) xs
  agree_each [] named numbered = All-nil (λ (one : X). All (Agree one) [])
  agree_each (x ∷ xs) named numbered =
      let other_names = none_any (λ (n : List ℕ). bytes_eq n (name x)) name xs named.0 in
      let other_numbers = none_any (λ (n : ℕ). n == number x) number xs numbered.0 in
      let rest = agree_each xs named.1 numbered.1 in
      All-cons (λ (one : X). All (Agree one) (x ∷ xs)) x xs
      (All-cons (Agree x) x xs (bytes_same (name x) ∙ sym (eq-eqb (number x) (number x) refl)) (λ k d h. other_names k d h ∙ sym (other_numbers k d h)))
      (λ k d h. later (get_or xs k d) (other_names k d h) (other_numbers k d h) (rest k d h))
    where
      later : (one : X) → bytes_eq (name one) (name x) ≡ false → (number one == number x) ≡ false → All (Agree one) xs → All (Agree one) (x ∷ xs)
      later one named numbered is = All-cons (Agree one) x xs (bytes_turned (name one) (name x) named ∙ sym (number_turned (number one) (number x) numbered)) is

  pub all_agree : (xs : List X) (workers : List ℕ) → IsDistinct bytes_eq (map name xs) → IsDistinct ◌==◌ (workers ++ map number xs) → All (λ (one : X). All (Agree one) xs × IsApart workers (number one)) xs
  all_agree xs workers named numbered =
      let apart = apart_of workers (map number xs) numbered in
      let each = agree_each xs named apart.0 in
      let others = all_unmapped (IsApart workers) number xs apart.1 in
      λ k d h. (each k d h, others k d h)

abbrev name_in : Part → List ℕ
name_in part = part.name

abbrev number_in : Part → ℕ
number_in part = part.number

-- what holds of each note of a reading of the source holds of the notes of readings
pub zip_notes : (name : List ℕ) (Q : Noted → Type 0) → ((moment : ℕ) (reading : Reading) → Q (Added (entry_of name moment reading))) → (readings : List Reading) (notes : List Noted) → AllZip (IsNoteOf name) readings notes → All Q notes
zip_notes name Q each [] [] zip = All-nil Q
zip_notes name Q each [] (note ∷ notes) zip = absurd zip
zip_notes name Q each (reading ∷ readings) [] zip = absurd zip
zip_notes name Q each (reading ∷ readings) (note ∷ notes) zip =
    All-cons Q note notes (subst Q (sym zip.0.1) (each zip.0.0 reading)) (zip_notes name Q each readings notes zip.1)

-- whether the note is of the part's source is whether it has this number
abbrev IsTold : Part → ℕ → Noted → Type 0
IsTold one number note = is_noted_from one.name note ≡ (number == one.number)

told_part : (one other : Part) → Agree name_in number_in one other → (moment : ℕ) (reading : Reading) → IsTold one other.number (Added (entry_of other.name moment reading))
told_part one other agree moment (Events taken events skipped) = agree
told_part one other agree moment (Table taken table rows) = agree

told_entry : (one : Part) (worker : ℕ) → (worker == one.number) ≡ false → (entry : Entry) → IsAnswer entry → IsTold one worker (Added entry)
told_entry one worker apart (Committed batch) is = sym apart
told_entry one worker apart (Opened session rules) is = absurd is
told_entry one worker apart (Configured document schedule moment) is = absurd is
told_entry one worker apart (Ticked moment) is = absurd is
told_entry one worker apart (Appended source taken events skipped moment) is = absurd is
told_entry one worker apart (TableSet source table rows taken) is = absurd is
told_entry one worker apart (Expired table floor moment) is = absurd is
told_entry one worker apart (Acked upto) is = absurd is

told_worker : (one : Part) (worker : ℕ) → (worker == one.number) ≡ false → (note : Noted) → IsAnswerNote note → IsTold one worker note
told_worker one worker apart (Added entry) is = told_entry one worker apart entry is
told_worker one worker apart Taken is = absurd is
told_worker one worker apart (Given cut) is = sym apart

module _ (parts : List Part) (workers : List ℕ) (more : Stamped) (added : AreAdded parts workers more) where
  -- what holds of what each publisher and each worker adds holds of each note
  pub each_added : (P : ℕ → Noted → Type 0) → All (λ (part : Part). (moment : ℕ) (reading : Reading) → P part.number (Added (entry_of part.name moment reading))) parts → All (λ (worker : ℕ). (note : Noted) → IsAnswerNote note → P worker note) workers
      → All (λ (note : ℕ × Noted). P note.0 note.1) more
  each_added P of_parts of_workers = each_note P (numbers_of workers parts) more
      (All-append (λ (number : ℕ). All (P number) (own number more)) workers (map number_in parts)
      (λ k d h. of_worker (get_or workers k d) (of_workers k d h) (added.answered k d h))
      (All-map (λ (number : ℕ). All (P number) (own number more)) number_in parts (λ k d h. of_part (get_or parts k d) (of_parts k d h) (added.published k d h))))
      added.numbered
    where
      of_part : (part : Part) → ((moment : ℕ) (reading : Reading) → P part.number (Added (entry_of part.name moment reading))) → AllZip (IsNoteOf part.name) part.readings (own part.number more) → All (P part.number) (own part.number more)
      of_part part each zip = zip_notes part.name (P part.number) each part.readings (own part.number more) zip

      of_worker : (worker : ℕ) → ((note : Noted) → IsAnswerNote note → P worker note) → All IsAnswerNote (own worker more) → All (P worker) (own worker more)
      of_worker worker each all = All-weaker IsAnswerNote (P worker) each (own worker more) all

  own_of : (one : Part) → All (Agree name_in number_in one) parts × IsApart workers one.number → filter (is_noted_from one.name) (entries more) ≡ own one.number more
  own_of one agree =
      own_by_test (is_noted_from one.name) one.number more (each_added (IsTold one)
      (λ k d h. told_part one (get_or parts k d) (agree.0 k d h))
      (λ k d h. told_worker one (get_or workers k d) (agree.1 k d h)))

  -- of each source the notes are those of its seat's number
  pub own_of_each : IsDistinct bytes_eq (map name_in parts) → All (λ (one : Part). filter (is_noted_from one.name) (entries more) ≡ own one.number more) parts
  own_of_each distinct = λ k d h. own_of (get_or parts k d) (all_agree name_in number_in parts workers distinct added.distinct k d h)

both_names : (one other source : List ℕ) → bytes_eq source one ≡ true → bytes_eq source other ≡ true → bytes_eq other one ≡ true
both_names one other source is also = (bytes_eq-Decides other one).1 (sym ((bytes_eq-Decides source other).0 also) ∙ (bytes_eq-Decides source one).0 is)

-- a reading of two sources: their names are the same
both_entry : (one other : List ℕ) (entry : Entry) → is_from one entry ≡ true → is_from other entry ≡ true → bytes_eq other one ≡ true
both_entry one other (Appended source taken events skipped moment) is also = both_names one other source is also
both_entry one other (TableSet source table rows taken) is also = both_names one other source is also
both_entry one other (Opened session rules) is also = absurd (true≢false (sym is))
both_entry one other (Configured document schedule moment) is also = absurd (true≢false (sym is))
both_entry one other (Ticked moment) is also = absurd (true≢false (sym is))
both_entry one other (Expired table floor moment) is also = absurd (true≢false (sym is))
both_entry one other (Committed batch) is also = absurd (true≢false (sym is))
both_entry one other (Acked upto) is also = absurd (true≢false (sym is))

both_note : (one other : List ℕ) (note : Noted) → is_noted_from one note ≡ true → is_noted_from other note ≡ true → bytes_eq other one ≡ true
both_note one other (Added entry) is also = both_entry one other entry is also
both_note one other Taken is also = absurd (true≢false (sym is))
both_note one other (Given cut) is also = absurd (true≢false (sym is))

answer_from : (name : List ℕ) (entry : Entry) → IsAnswer entry → is_from name entry ≡ true → ⊥
answer_from name (Committed batch) is from = absurd (true≢false (sym from))
answer_from name (Opened session rules) is from = absurd is
answer_from name (Configured document schedule moment) is from = absurd is
answer_from name (Ticked moment) is from = absurd is
answer_from name (Appended source taken events skipped moment) is from = absurd is
answer_from name (TableSet source table rows taken) is from = absurd is
answer_from name (Expired table floor moment) is from = absurd is
answer_from name (Acked upto) is from = absurd is

answer_noted : (name : List ℕ) (note : Noted) → IsAnswerNote note → is_noted_from name note ≡ true → ⊥
answer_noted name (Added entry) is from = answer_from name entry is from
answer_noted name Taken is from = absurd is
answer_noted name (Given cut) is from = absurd (true≢false (sym from))

abbrev name_of : ℕ × List ℕ → List ℕ
name_of one = one.1

abbrev number_of : ℕ × List ℕ → ℕ
number_of one = one.0

-- a reading of a publisher's source has its seat's number
pub none_intrudes : NoneIntrudes
none_intrudes publishers workers more apart =
    λ k d h. of_one (get_or publishers k d) (all_agree name_of number_of publishers workers apart.names apart.distinct k d h)
  where
    of_one : (one : ℕ × List ℕ) → All (Agree name_of number_of one) publishers × IsApart workers one.0 → All (λ (note : ℕ × Noted). is_noted_from one.1 note.1 ≡ true → note.0 ≡ one.0) more
    of_one one agree =
        each_note (λ (number : ℕ) (note : Noted). is_noted_from one.1 note ≡ true → number ≡ one.0) (workers ++ map number_of publishers) more
        (All-append (λ (number : ℕ). All (λ (note : Noted). is_noted_from one.1 note ≡ true → number ≡ one.0) (own number more)) workers (map number_of publishers)
        (λ k d h i e j from. absurd (answer_noted one.1 (get_or (own (get_or workers k d) more) i e) (apart.answered k d h i e j) from))
        (All-map (λ (number : ℕ). All (λ (note : Noted). is_noted_from one.1 note ≡ true → number ≡ one.0) (own number more)) number_of publishers
        (λ k d h i e j from. same_number (get_or publishers k d) (get_or (own (get_or publishers k d).0 more) i e) (agree.0 k d h) (apart.published k d h i e j) from)))
        apart.numbered
      where
        same_number : (other : ℕ × List ℕ) (note : Noted) → Agree name_of number_of one other → is_noted_from other.1 note ≡ true → is_noted_from one.1 note ≡ true → other.0 ≡ one.0
        same_number other note same is from =
            let named = both_note one.1 other.1 note from is in
            let numbered : (other.0 == one.0) ≡ true = sym same ∙ named in
            grind (arith, nat_tests, numbered)
