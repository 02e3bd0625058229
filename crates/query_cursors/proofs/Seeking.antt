-- The first query that is due, or due and not claimed, where each is looked at in turn.
use Rattle.std.proofs.Common.{◌≡◌, ◌⊎◌, inl, inr, ℕ, zero, suc, ◌+◌, ◌<◌, ◌≤◌, Bool, true, false, cond, List, [], ◌∷◌, length, get_or, Option, Some, None, refl, sym, ap, ◌∙◌, arith}
use Rattle.std.specs.Prelude.{position, slice_get, not, ◌&&◌}
use Rattle.std.specs.List.{position_from, zip}
use Rattle.std.proofs.lemmas.Iterator.Adapters.{position_from-zero}
use Rattle.entry_model.proofs.Lists.{is_below}
use Rattle.pack_rules.specs.declared.schedule.Scheduled.{Scheduled}
use Rattle.entry_model.specs.declared.restored.Run.{Run}
use Rattle.query_cursors.specs.Due.{is_due_by, first_due, first_free, NoneFree}

module _ {X : Type 0} (test : X → Bool) where
  first_from : (from : ℕ) (xs : List X) (k : ℕ) (x : X) → slice_get xs k ≡ Some x → test x ≡ true → ((j : ℕ) (y : X) → j < k → slice_get xs j ≡ Some y → test y ≡ false) → position_from test from xs ≡ Some (from + k)
  first_from from [] k x at passes before = absurd (cc)
  first_from from (y ∷ ys) zero x at passes before =
      let is : y ≡ x = cc in
      ap (λ (b : Bool). cond b (Some from) (position_from test (from + 1) ys)) (ap test is ∙ passes) ∙ ap (λ (n : ℕ). Some n) (omega arith)
  first_from from (y ∷ ys) (suc k) x at passes before =
      ap (λ (b : Bool). cond b (Some from) (position_from test (from + 1) ys)) (before 0 y (omega arith) refl)
      ∙ first_from (from + 1) ys k x at passes (λ j z lt there. before (suc j) z (omega (arith, lt)) there)
      ∙ ap (λ (n : ℕ). Some n) (omega arith)

  -- what passes, where nothing before it does, is the first that passes
  pub first_is : (xs : List X) (k : ℕ) (x : X) → slice_get xs k ≡ Some x → test x ≡ true → ((j : ℕ) (y : X) → j < k → slice_get xs j ≡ Some y → test y ≡ false) → position test xs ≡ Some k
  first_is xs k x at passes before =
      position_from-zero test xs ∙ first_from 0 xs k x at passes before ∙ ap (λ (n : ℕ). Some n) (omega arith)

  none_from : (from : ℕ) (xs : List X) → ((j : ℕ) (y : X) → slice_get xs j ≡ Some y → test y ≡ false) → position_from test from xs ≡ None
  none_from from [] fails = refl
  none_from from (y ∷ ys) fails =
      ap (λ (b : Bool). cond b (Some from) (position_from test (from + 1) ys)) (fails 0 y refl) ∙ none_from (from + 1) ys (λ j z there. fails (suc j) z there)

  pub none_is : (xs : List X) → ((j : ℕ) (y : X) → slice_get xs j ≡ Some y → test y ≡ false) → position test xs ≡ None
  none_is xs fails = position_from-zero test xs ∙ none_from 0 xs fails

pub stands_within : {X : Type 0} (xs : List X) (k : ℕ) (x : X) → slice_get xs k ≡ Some x → k < length xs
stands_within [] k x h = absurd (cc)
stands_within (y ∷ ys) zero x h = omega arith
stands_within (y ∷ ys) (suc k) x h = let low = stands_within ys k x h in omega (arith, low)

pub stands : {X : Type 0} (xs : List X) (k : ℕ) (d : X) → k < length xs → slice_get xs k ≡ Some (get_or xs k d)
stands [] k d lt = absurd (omega (arith, lt))
stands (x ∷ xs) zero d lt = refl
stands (x ∷ xs) (suc k) d lt = stands xs k d (omega (arith, lt))

zip_get : {X Y : Type 0} (xs : List X) (ys : List Y) (k : ℕ) (pair : X × Y) → slice_get (zip xs ys) k ≡ Some pair → (slice_get xs k ≡ Some pair.0) × (slice_get ys k ≡ Some pair.1)
zip_get [] ys k pair h = absurd (cc)
zip_get (x ∷ xs) [] k pair h = absurd (cc)
zip_get {X} {Y} (x ∷ xs) (y ∷ ys) zero pair h =
    let is : (x, y) ≡ pair = cc in (ap (λ (p : X × Y). Some p.0) is, ap (λ (p : X × Y). Some p.1) is)
zip_get (x ∷ xs) (y ∷ ys) (suc k) pair h = zip_get xs ys k pair h

get_zip : {X Y : Type 0} (xs : List X) (ys : List Y) (k : ℕ) (x : X) (y : Y) → slice_get xs k ≡ Some x → slice_get ys k ≡ Some y → slice_get (zip xs ys) k ≡ Some (x, y)
get_zip [] ys k x y h g = absurd (cc)
get_zip (a ∷ xs) [] k x y h g = absurd (cc)
get_zip (a ∷ xs) (b ∷ ys) zero x y h g =
    let is : a ≡ x = cc in let same : b ≡ y = cc in λ i. Some (is i, same i)
get_zip (a ∷ xs) (b ∷ ys) (suc k) x y h g = get_zip xs ys k x y h g

pub get_or_is : {X : Type 0} (xs : List X) (k : ℕ) (x d : X) → slice_get xs k ≡ Some x → get_or xs k d ≡ x
get_or_is [] k x d h = absurd (cc)
get_or_is (y ∷ ys) zero x d h = cc
get_or_is (y ∷ ys) (suc k) x d h = get_or_is ys k x d h

module _ (runs : List Run) (queries : List Scheduled) (moment : ℕ) where
  pub first_due_is : (at : ℕ) (scheduled : Scheduled) → slice_get queries at ≡ Some scheduled → is_due_by runs moment scheduled ≡ true → ((place : ℕ) (other : Scheduled) → place < at → slice_get queries place ≡ Some other → is_due_by runs moment other ≡ false) → first_due runs queries moment ≡ Some at
  first_due_is at scheduled there due before = first_is (is_due_by runs moment) queries at scheduled there due before

  pub none_due_is : (n : ℕ) → length queries ≤ n → ((place : ℕ) (other : Scheduled) → place < n → slice_get queries place ≡ Some other → is_due_by runs moment other ≡ false) → first_due runs queries moment ≡ None
  none_due_is n all before =
      none_is (is_due_by runs moment) queries (λ j other there. before j other (let low = stands_within queries j other there in omega (arith, low, all)) there)

  -- one place more
  pub none_due_more : (at : ℕ) (scheduled : Scheduled) → slice_get queries at ≡ Some scheduled → is_due_by runs moment scheduled ≡ false → ((place : ℕ) (other : Scheduled) → place < at → slice_get queries place ≡ Some other → is_due_by runs moment other ≡ false) → (place : ℕ) (other : Scheduled) → place < at + 1 → slice_get queries place ≡ Some other → is_due_by runs moment other ≡ false
  none_due_more at scheduled here fails before place other lt there = by_place (is_below at place)
    where
      by_place : (at ≤ place) ⊎ (place < at) → is_due_by runs moment other ≡ false
      by_place (inr early) = before place other early there
      by_place (inl late) =
          let same : place ≡ at = omega (arith, late, lt) in
          let is : scheduled ≡ other = (let e = sym here ∙ sym (ap (slice_get queries) same) ∙ there in cc) in
          sym (ap (is_due_by runs moment) is) ∙ fails

  module _ (claimed : List Bool) where
    abbrev free : Scheduled × Bool → Bool
    free pair = is_due_by runs moment pair.0 && not pair.1

    not_free : (n : ℕ) → NoneFree runs queries claimed moment n → (j : ℕ) (pair : Scheduled × Bool) → j < n → slice_get (zip queries claimed) j ≡ Some pair → free pair ≡ false
    not_free n passed j pair lt there = by_claim pair.1 refl
      where
        h : (slice_get queries j ≡ Some pair.0) × (slice_get claimed j ≡ Some pair.1)
        h = zip_get queries claimed j pair there

        no : (b : Bool) → (b && false) ≡ false
        no true = refl
        no false = refl

        by_claim : (b : Bool) → pair.1 ≡ b → (is_due_by runs moment pair.0 && not b) ≡ false
        by_claim true e = no (is_due_by runs moment pair.0)
        by_claim false e =
            ap (λ (b : Bool). b && true) (passed j pair.0 lt h.0 (get_or_is claimed j pair.1 false h.1 ∙ e))

    pub first_free_is : (at : ℕ) (scheduled : Scheduled) → slice_get queries at ≡ Some scheduled → slice_get claimed at ≡ Some false → is_due_by runs moment scheduled ≡ true → NoneFree runs queries claimed moment at → first_free runs queries claimed moment ≡ Some at
    first_free_is at scheduled there unclaimed due passed =
        first_is free (zip queries claimed) at (scheduled, false) (get_zip queries claimed at scheduled false there unclaimed) (ap (λ (b : Bool). b && true) due) (not_free at passed)

    pub none_free_is : (n : ℕ) → length queries ≤ n → NoneFree runs queries claimed moment n → first_free runs queries claimed moment ≡ None
    none_free_is n all passed =
        none_is free (zip queries claimed) (λ j pair there. not_free n passed j pair (let low = stands_within queries j pair.0 (zip_get queries claimed j pair there).0 in omega (arith, low, all)) there)

    -- one place more
    pub none_free_more : (at : ℕ) → NoneFree runs queries claimed moment at → ((scheduled : Scheduled) → slice_get queries at ≡ Some scheduled → get_or claimed at false ≡ false → is_due_by runs moment scheduled ≡ false) → NoneFree runs queries claimed moment (at + 1)
    none_free_more at passed here place scheduled lt there unclaimed = by_place (is_below at place)
      where
        by_place : (at ≤ place) ⊎ (place < at) → is_due_by runs moment scheduled ≡ false
        by_place (inr before) = passed place scheduled before there unclaimed
        by_place (inl late) =
            let same : place ≡ at = omega (arith, late, lt) in
            here scheduled (sym (ap (slice_get queries) same) ∙ there) (sym (ap (λ (k : ℕ). get_or claimed k false) same) ∙ unclaimed)
