-- What each seat added, in the joined list.
use Rattle.std.proofs.Common.{◌≡◌, ℕ, ◌==◌, Bool, true, false, cond, List, [], ◌∷◌, refl, ap, ◌∙◌, subst}
use Rattle.std.proofs.Common.{eq-eqb}
use Rattle.std.specs.Prelude.{All, Contains, filter}
use Rattle.std.proofs.lemmas.List.Elements.{All-nil, All-cons, All-head, All-tail, All-contains, All-weaker}
use Rattle.turn_lock.specs.Own.{own}
use Rattle.turn_lock.specs.Turns.{entries}
use Rattle.shared_store.specs.declared.noted.Noted.{Noted}
use Rattle.thread_laws.specs.Jobs.{Stamped}

-- of the notes under each number this holds
abbrev AllOwn : (ℕ → Noted → Type 0) → List ℕ → Stamped → Type 0
AllOwn P numbers more = All (λ (number : ℕ). All (P number) (own number more)) numbers

-- it holds of those of the rest
all_own_rest : (P : Noted → Type 0) (number : ℕ) (note : ℕ × Noted) (more : Stamped) → All P (own number (note ∷ more)) → All P (own number more)
all_own_rest P number note more = by (note.0 == number)
  where
    by : (b : Bool) → All P (cond b (note.1 ∷ own number more) (own number more)) → All P (own number more)
    by true h = All-tail P note.1 (own number more) h
    by false h = h

-- and of the first note
first_own : (P : Noted → Type 0) (note : ℕ × Noted) (more : Stamped) → All P (own note.0 (note ∷ more)) → P note.1
first_own P note more h =
    All-head P note.1 (own note.0 more) (subst (λ (b : Bool). All P (cond b (note.1 ∷ own note.0 more) (own note.0 more))) (eq-eqb note.0 note.0 refl) h)

-- what holds of the notes of each seat holds of all notes
pub each_note : (P : ℕ → Noted → Type 0) (numbers : List ℕ) (more : Stamped) → AllOwn P numbers more → All (λ (note : ℕ × Noted). Contains numbers note.0) more → All (λ (note : ℕ × Noted). P note.0 note.1) more
each_note P numbers [] owns numbered = All-nil (λ (note : ℕ × Noted). P note.0 note.1)
each_note P numbers (note ∷ more) owns numbered =
    let In : ℕ × Noted → Type 0 = λ (note : ℕ × Noted). Contains numbers note.0 in
    let here = All-contains (λ (number : ℕ). All (P number) (own number (note ∷ more))) numbers note.0 owns (All-head In note more numbered) in
    let rest = All-weaker (λ (number : ℕ). All (P number) (own number (note ∷ more))) (λ (number : ℕ). All (P number) (own number more)) (λ number h. all_own_rest (P number) number note more h) numbers owns in
    All-cons (λ (note : ℕ × Noted). P note.0 note.1) note more (first_own (P note.0) note more here) (each_note P numbers more rest (All-tail In note more numbered))

-- a test that passes exactly the notes of one number keeps that number's
pub own_by_test : (test : Noted → Bool) (number : ℕ) (more : Stamped) → All (λ (note : ℕ × Noted). test note.1 ≡ (note.0 == number)) more → filter test (entries more) ≡ own number more
own_by_test test number [] same = refl
own_by_test test number (note ∷ more) same =
    let S : ℕ × Noted → Type 0 = λ (note : ℕ × Noted). test note.1 ≡ (note.0 == number) in
    ap (λ (b : Bool). cond b (note.1 ∷ filter test (entries more)) (filter test (entries more))) (All-head S note more same)
    ∙ ap (λ (l : List Noted). cond (note.0 == number) (note.1 ∷ l) l) (own_by_test test number more (All-tail S note more same))
