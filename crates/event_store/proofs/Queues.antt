-- What a walk over the events of a table finds.
use Rattle.std.proofs.Common.{◌≡◌, ℕ, ◌+◌, ◌<◌, ◌≤◌, Bool, true, false, cond, List, [], ◌∷◌, ◌++◌, length, map, take, get_or, refl, sym, ap, ◌∙◌, subst, arith, Option, Some, None}
use Rattle.std.specs.Prelude.{nat_lt, nat_le, if◌then◌else◌, IfNone}
use Rattle.std.specs.Option.{option_to_list}
use Rattle.std.proofs.lemmas.Bool.Decides.{nat_tests}
use Rattle.std.proofs.lemmas.List.{take_more, map-append}
use Rattle.std.proofs.lemmas.List.Elements.{filter-append}
use Rattle.osq_value.specs.declared.value.Value.{Value}
use Rattle.entry_model.specs.declared.restored.Live.{Live}
use Rattle.entry_model.specs.Fits.{IsRisingFrom}
use Rattle.entry_model.proofs.Fitting.{rises_from}
use Rattle.event_store.specs.Queues.{above, rows_above, begins_upto}

-- all of rising numbers are above what the first is above
pub all_above : (floor n : ℕ) (xs : List Live) → floor ≤ n → IsRisingFrom n xs → above floor xs ≡ xs
all_above floor n [] up r = refl
all_above floor n (x ∷ xs) up r =
    let high : nat_lt floor x.number ≡ true = (let a = r.0 in grind (arith, nat_tests, a, up)) in
    ap (λ (b : Bool). cond b (x ∷ above floor xs) (above floor xs)) high ∙ ap (λ (es : List Live). x ∷ es) (all_above floor x.number xs (let a = r.0 in omega (arith, a, up)) r.1)

pub none_upto : (floor : ℕ) (xs : List Live) → IsRisingFrom 0 xs → begins_upto floor xs ≡ false → above floor xs ≡ xs
none_upto floor [] r h = refl
none_upto floor (x ∷ xs) r h =
    let up : floor < x.number = grind (arith, nat_tests, h) in
    let high : nat_lt floor x.number ≡ true = grind (arith, nat_tests, up) in
    ap (λ (b : Bool). cond b (x ∷ above floor xs) (above floor xs)) high ∙ ap (λ (es : List Live). x ∷ es) (all_above floor x.number xs (omega (arith, up)) r.1)

-- one event is taken off
pub record Drops (floor : ℕ) (old new : List Live) : Type 0 where
  pub same : above floor new ≡ above floor old
  pub rising : IsRisingFrom 0 new
  pub fewer : length new < length old

pub drops : (floor : ℕ) (old new : List Live) (taken : Option Live) → begins_upto floor old ≡ true → IsRisingFrom 0 old → old ≡ option_to_list taken ++ new → IfNone taken (old ≡ []) → Drops floor old new
drops floor old new None upto r is none = absurd (let k = sym (ap (begins_upto floor) none) ∙ upto in cc)
drops floor old new (Some x) upto r is none =
    let k : nat_le x.number floor ≡ true = sym (ap (begins_upto floor) is) ∙ upto in
    let low : nat_lt floor x.number ≡ false = grind (arith, nat_tests, k) in
    let rising : IsRisingFrom 0 (x ∷ new) = subst (IsRisingFrom 0) is r in
    record {
      same = sym (ap (above floor) is ∙ ap (λ (b : Bool). cond b (x ∷ above floor new) (above floor new)) low);
      rising = rises_from x.number 0 new (omega arith) rising.1;
      fewer = omega (arith, ap length is);
    }

-- the rows of one event more
pub rows_more : (number : ℕ) (xs : List Live) (at : ℕ) (d : Live) → at < length xs → rows_above number (take (at + 1) xs) ≡ rows_above number (take at xs) ++ (if nat_lt number (get_or xs at d).number then (get_or xs at d).row ∷ [] else [])
rows_more number xs at d within =
    ap (rows_above number) (take_more xs at d within)
    ∙ ap (map (λ (event : Live). event.row)) (filter-append (λ (event : Live). nat_lt number event.number) (take at xs) (get_or xs at d ∷ []))
    ∙ map-append (λ (event : Live). event.row) (above number (take at xs)) (above number (get_or xs at d ∷ []))
    ∙ ap (λ (rows : List (List Value)). rows_above number (take at xs) ++ rows) (by_test (nat_lt number (get_or xs at d).number))
  where
    by_test : (b : Bool) → map (λ (event : Live). event.row) (cond b (get_or xs at d ∷ []) []) ≡ cond b ((get_or xs at d).row ∷ []) []
    by_test true = refl
    by_test false = refl
