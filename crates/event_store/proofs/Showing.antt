-- A view of an image shows what the list does.
use Rattle.std.proofs.Common.{◌≡◌, ◌⊎◌, ℕ, ◌<◌, ◌≤◌, Bool, true, false, cond, List, [], map, length, set, get_or, refl, sym, ap, ◌∙◌, subst, inl, inr, arith}
use Rattle.std.specs.Prelude.{nat_lt, ◌==◌, unwrap_or, Option}
use Rattle.std.proofs.lemmas.Bool.Decides.{nat_tests}
use Rattle.std.proofs.lemmas.List.{length-set, get_or-set_same, get_or-set_other}
use Rattle.osq_value.specs.declared.value.Value.{Value}
use Rattle.entry_model.specs.declared.entry.Entry.{Entry}
use Rattle.entry_model.specs.declared.restored.Live.{Live}
use Rattle.entry_model.specs.Values.{table_set}
use Rattle.entry_model.specs.Views.{is_evented_table, is_recorded_table, slice_of, view_of}
use Rattle.entry_model.specs.Legal.{Legal}
use Rattle.entry_model.proofs.Lists.{is_below}
use Rattle.entry_model.proofs.Summaries.{set_is}
use Rattle.event_store.specs.Queues.{rows_above}
use Rattle.event_store.specs.Contents.{Contents, Shown, rows_in, IsImage, cut_above}
use Rattle.event_store.specs.Laws.{StandsFor, with_computed, Shows}
use Rattle.event_store.proofs.Views.{is_view, shown_evented, shown_recorded}

view_evented : (K : List Entry) (number moment table : ℕ) → is_evented_table table ≡ true → view_of K number moment table ≡ map (λ (event : Live). event.row) (slice_of K table number)
view_evented K number moment table e = rw e refl

view_recorded : (K : List Entry) (number moment table : ℕ) → is_evented_table table ≡ false → is_recorded_table table ≡ true → view_of K number moment table ≡ unwrap_or (table_set K table) []
view_recorded K number moment table e r = rw (e, r) refl

view_beyond : (K : List Entry) (number moment table : ℕ) → is_evented_table table ≡ false → is_recorded_table table ≡ false → (table == 12) ≡ false → (table == 13) ≡ false → (table == 14) ≡ false → view_of K number moment table ≡ []
view_beyond K number moment table e r a b c = rw (e, r, a, b, c) refl

module _ (K : List Entry) (image : Contents) (legal : Legal K) (is : IsImage image) (h : StandsFor K image) (number moment : ℕ) where
  abbrev shown : Shown
  shown = with_computed K number moment (cut_above number image)

  abbrev first : Shown
  first = set (cut_above number image) 12 (view_of K number moment 12)

  abbrev second : Shown
  second = set first 13 (view_of K number moment 13)

  long : length second ≡ 15
  long =
      let a = length-set first 13 (view_of K number moment 13) in
      let b = length-set (cut_above number image) 12 (view_of K number moment 12) in
      let c = (is_view image number is).count in
      omega (arith, a, b, c)

  -- what is not computed stands as it was cut
  kept : (table : ℕ) → table < 12 → get_or shown table [] ≡ get_or (cut_above number image) table []
  kept table within =
      get_or-set_other second 14 table (view_of K number moment 14) [] (λ same. absurd (omega (arith, same, within)))
      ∙ get_or-set_other first 13 table (view_of K number moment 13) [] (λ same. absurd (omega (arith, same, within)))
      ∙ get_or-set_other (cut_above number image) 12 table (view_of K number moment 12) [] (λ same. absurd (omega (arith, same, within)))

  abbrev IsShown : ℕ → Type 0
  IsShown table = rows_in shown table ≡ view_of K number moment table

  at_14 : IsShown 14
  at_14 = get_or-set_same second 14 (view_of K number moment 14) [] (let n = long in omega (arith, n))

  at_13 : IsShown 13
  at_13 =
      get_or-set_other second 14 13 (view_of K number moment 14) [] (λ same. absurd (omega (arith, same)))
      ∙ get_or-set_same first 13 (view_of K number moment 13) [] (let n = long in let a = length-set first 13 (view_of K number moment 13) in omega (arith, n, a))

  at_12 : IsShown 12
  at_12 =
      get_or-set_other second 14 12 (view_of K number moment 14) [] (λ same. absurd (omega (arith, same)))
      ∙ get_or-set_other first 13 12 (view_of K number moment 13) [] (λ same. absurd (omega (arith, same)))
      ∙ get_or-set_same (cut_above number image) 12 (view_of K number moment 12) [] (let n = (is_view image number is).count in omega (arith, n))

  below_15 : (table : ℕ) → table < 15 → rows_in shown table ≡ get_or shown table []
  below_15 table within =
      let low : nat_lt table 15 ≡ true = grind (arith, nat_tests, within) in
      ap (λ (b : Bool). cond b (get_or shown table []) []) low

  evented : (table : ℕ) → table < 3 → IsShown table
  evented table within =
      let mine : is_evented_table table ≡ true = grind (arith, nat_tests, within) in
      below_15 table (omega (arith, within)) ∙ kept table (omega (arith, within)) ∙ shown_evented image number table is within ∙ ap (rows_above number) (h.live table mine) ∙ sym (view_evented K number moment table mine)

  recorded : (table : ℕ) → 3 ≤ table → table < 12 → IsShown table
  recorded table past within =
      let not_evented : is_evented_table table ≡ false = grind (arith, nat_tests, past) in
      let mine : is_recorded_table table ≡ true = grind (arith, nat_tests, past, within) in
      below_15 table (omega (arith, within))
      ∙ kept table within
      ∙ shown_recorded image number table is past within
      ∙ h.rows table mine
      ∙ ap (λ (o : Option (List (List Value))). unwrap_or o []) (set_is K legal table)
      ∙ sym (view_recorded K number moment table not_evented mine)

  beyond : (table : ℕ) → 15 ≤ table → IsShown table
  beyond table past =
      let high : nat_lt table 15 ≡ false = grind (arith, nat_tests, past) in
      let e : is_evented_table table ≡ false = grind (arith, nat_tests, past) in
      let r : is_recorded_table table ≡ false = grind (arith, nat_tests, past) in
      let a : (table == 12) ≡ false = grind (arith, nat_tests, past) in
      let b : (table == 13) ≡ false = grind (arith, nat_tests, past) in
      let d : (table == 14) ≡ false = grind (arith, nat_tests, past) in
      ap (λ (b : Bool). cond b (get_or shown table []) []) high ∙ sym (view_beyond K number moment table e r a b d)

  computed : (table : ℕ) → 12 ≤ table → table < 15 → IsShown table
  computed table past within = by_number (table == 12) (table == 13) refl refl
    where
      by_number : (a b : Bool) → (table == 12) ≡ a → (table == 13) ≡ b → IsShown table
      by_number true b e f = let at : table ≡ 12 = grind (arith, nat_tests, e) in subst IsShown (sym at) at_12
      by_number false true e f = let at : table ≡ 13 = grind (arith, nat_tests, f) in subst IsShown (sym at) at_13
      by_number false false e f = let at : table ≡ 14 = grind (arith, nat_tests, e, f, past, within) in subst IsShown (sym at) at_14

  pub is_shown : (table : ℕ) → IsShown table
  is_shown table = by_place (is_below 3 table) (is_below 12 table) (is_below 15 table)
    where
      by_place : (3 ≤ table) ⊎ (table < 3) → (12 ≤ table) ⊎ (table < 12) → (15 ≤ table) ⊎ (table < 15) → IsShown table
      by_place (inr within) x y = evented table within
      by_place (inl past) (inr within) y = recorded table past within
      by_place (inl past) (inl after) (inr within) = computed table after within
      by_place (inl past) (inl after) (inl out) = beyond table out

pub shows : Shows
shows K image legal is h number moment table = is_shown K image legal is h number moment table
