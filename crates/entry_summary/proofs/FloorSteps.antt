-- The floors of a list, one entry at a time.
use Rattle.std.proofs.Common.{◌≡◌, ◌≢◌, ℕ, ◌+◌, ◌<◌, ◌≤◌, Bool, true, false, cond, List, [], ◌∷◌, ◌++◌, length, take, get_or, set, refl, sym, ap, ◌∙◌, subst, arith, Some, None}
use Rattle.std.specs.Prelude.{◌==◌, nat_lt, replicate, unwrap_or}
use Rattle.std.proofs.lemmas.Bool.Decides.{nat_tests}
use Rattle.std.proofs.lemmas.List.{take_more, get_or-set_same, get_or-set_other, get_or-replicate, get_or_past, length-replicate}
use Rattle.osq_value.specs.declared.value.TableId.{TableId}
use Rattle.entry_model.specs.declared.entry.Entry.{Entry}
use Rattle.entry_model.specs.declared.entry.Entry.TheVariants.{Expired}
use Rattle.entry_model.specs.Values.{floor_in, floor_of}
use Rattle.entry_model.proofs.Lasts.{last_of-append}

-- the floors are those of the list
pub record AreFloors (floors : List ℕ) (entries : List Entry) : Type 0 where
  pub each : (table : ℕ) → get_or floors table 0 ≡ floor_of entries table

more_of : (entries : List Entry) (i : ℕ) (entry : Entry) → i < length entries → entry ≡ get_or entries i entry → take (i + 1) entries ≡ take i entries ++ entry ∷ []
more_of entries i entry within is = take_more entries i entry within ∙ ap (λ e. take i entries ++ e ∷ []) (sym is)

-- where the entry lets nothing expire
pub same_floors : (floors : List ℕ) (entries : List Entry) (i : ℕ) (entry : Entry) → i < length entries → entry ≡ get_or entries i entry
    → ((table : ℕ) → floor_in table entry ≡ None) → AreFloors floors (take i entries) → AreFloors floors (take (i + 1) entries)
same_floors floors entries i entry within is quiet so_far =
    record {
      each = λ table.
          so_far.each table
          ∙ sym (ap (λ o. unwrap_or o (floor_of (take i entries) table)) (quiet table))
          ∙ sym (last_of-append (floor_in table) 0 (take i entries) (entry ∷ []))
          ∙ ap (λ es. floor_of es table) (sym (more_of entries i entry within is));
    }

pub quiet : (entry : Entry) → ((table : TableId) (floor moment : ℕ) → entry ≡ Expired table floor moment → ⊥) → (table : ℕ) → floor_in table entry ≡ None
quiet (Expired expired floor moment) other table = absurd (other expired floor moment refl)
quiet _ other table = refl

-- where events of a table expire
pub set_floor : (floors : List ℕ) (entries : List Entry) (i : ℕ) (entry : Entry) (table : TableId) (floor moment : ℕ) → i < length entries → entry ≡ get_or entries i entry
    → entry ≡ Expired table floor moment → table.0 < length floors → AreFloors floors (take i entries) → AreFloors (set floors table.0 floor) (take (i + 1) entries)
set_floor floors entries i entry table floor moment within is expired known so_far =
    record {
      each = λ t.
          at t (table.0 == t) refl
          ∙ sym (ap (λ e. unwrap_or (floor_in t e) (floor_of (take i entries) t)) expired)
          ∙ sym (last_of-append (floor_in t) 0 (take i entries) (entry ∷ []))
          ∙ ap (λ es. floor_of es t) (sym (more_of entries i entry within is));
    }
  where
    unequal : (t : ℕ) → t ≡ table.0 → (table.0 == t) ≡ false → ⊥
    unequal t e apart = grind (arith, nat_tests)

    at : (t : ℕ) (b : Bool) → (table.0 == t) ≡ b → get_or (set floors table.0 floor) t 0 ≡ unwrap_or (cond (table.0 == t) (Some floor) None) (floor_of (take i entries) t)
    at t true same =
        let here : table.0 ≡ t = grind (arith, nat_tests, same) in
        subst (λ (n : ℕ). get_or (set floors table.0 floor) n 0 ≡ floor) here (get_or-set_same floors table.0 floor 0 known)
        ∙ sym (ap (λ (b : Bool). unwrap_or (cond b (Some floor) None) (floor_of (take i entries) t)) same)
    at t false apart =
        let other : t ≢ table.0 = λ e. unequal t e apart in
        get_or-set_other floors table.0 t floor 0 other ∙ so_far.each t
        ∙ sym (ap (λ (b : Bool). unwrap_or (cond b (Some floor) None) (floor_of (take i entries) t)) apart)

-- no event has expired yet
pub none_set : (n table : ℕ) → ◌≡◌ {A = ℕ} (get_or (replicate n 0) table 0) 0
none_set n table = by_place (nat_lt table n) refl
  where
    by_place : (b : Bool) → nat_lt table n ≡ b → ◌≡◌ {A = ℕ} (get_or (replicate n 0) table 0) 0
    by_place true h = (let within : table < n = grind (arith, nat_tests, h) in get_or-replicate n table 0 0 within)
    by_place false h = (let past : length {A = ℕ} (replicate n 0) ≤ table = (let long : n ≤ table = grind (arith, nat_tests, h) in omega (arith, length-replicate {A = ℕ} n 0, long)) in get_or_past (replicate n 0) table 0 past)
