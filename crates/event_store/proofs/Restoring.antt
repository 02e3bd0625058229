-- The image of a kept list with given values.
use Rattle.std.proofs.Common.{◌≡◌, ℕ, zero, suc, ◌+◌, ◌-◌, ◌<◌, ◌≤◌, ◌≢◌, Bool, true, false, cond, List, [], ◌∷◌, ◌++◌, length, get_or, refl, sym, ap, ◌∙◌, subst, arith, replicate}
use Rattle.std.specs.Prelude.{All, ◌==◌, unwrap_or, Option, Some, None, find, option_map}
use Rattle.std.specs.List.{list_any}
use Rattle.std.proofs.lemmas.Bool.Decides.{nat_tests}
use Rattle.std.proofs.lemmas.List.{length-set, get_or-set_same, get_or-set_other}
use Rattle.std.proofs.lemmas.List.Elements.{All-nil, All-weaker, All-head, All-tail}
use Rattle.osq_value.specs.declared.value.Value.{Value}
use Rattle.entry_model.specs.declared.restored.Live.{Live}
use Rattle.entry_model.specs.declared.restored.Restored.{Restored}
use Rattle.entry_model.specs.declared.restored.SetTable.{SetTable}
use Rattle.entry_model.specs.Fits.{IsDistinct, LiveFits, TableFits, Fits}
use Rattle.entry_model.specs.Legal.{width_of}
use Rattle.entry_model.specs.Next.{rows_at}
use Rattle.entry_model.specs.Views.{is_recorded_table}
use Rattle.event_store.specs.Queues.{events_of, placed}
use Rattle.event_store.specs.Recorded.{with_rows, with_sets}
use Rattle.event_store.specs.Contents.{Contents, AreLive, AreWide, Holds, IsImage}
use Rattle.event_store.proofs.Images.{length_placed, placed_at, live_of_table, each_live}
use Rattle.event_store.proofs.Kept.{length_sets, wide_sets}

abbrev pub restored : Restored → Contents
restored r =
    record { last = r.last; floors = r.floors; live = placed ([] ∷ [] ∷ [] ∷ []) r.live; tables = with_sets (replicate 9 []) r.tables }

none_live_at : (k : ℕ) → get_or {A = List Live} ([] ∷ [] ∷ [] ∷ []) k [] ≡ []
none_live_at zero = refl
none_live_at (suc zero) = refl
none_live_at (suc (suc zero)) = refl
none_live_at (suc (suc (suc k))) = refl

no_rows_at : (n k : ℕ) → get_or {A = List (List Value)} (replicate n []) k [] ≡ []
no_rows_at zero k = refl
no_rows_at (suc n) zero = refl
no_rows_at (suc n) (suc k) = no_rows_at n k

pub live_is : (r : Restored) (table : ℕ) → table < 3 → get_or (placed ([] ∷ [] ∷ [] ∷ []) r.live) table [] ≡ events_of r.live table
live_is r table within =
    placed_at ([] ∷ [] ∷ [] ∷ []) r.live table within ∙ ap (λ (es : List Live). es ++ events_of r.live table) (none_live_at table)

pub image_restored : (r : Restored) → Fits r → length r.floors ≡ 3 → IsImage (restored r)
image_restored r h floors = record {
  floor_count = floors;
  live_count = length_placed ([] ∷ [] ∷ [] ∷ []) r.live;
  table_count = length_sets (replicate 9 []) r.tables;
  last = h.last;
  live = each_live r.last (placed ([] ∷ [] ∷ [] ∷ []) r.live) (λ table within. subst (AreLive r.last table) (sym (live_is r table (let n = length_placed ([] ∷ [] ∷ [] ∷ []) r.live in omega (arith, n, within)))) (live_of_table r.last table r.live h.rising (All-weaker (LiveFits r) (λ (event : Live). event.number ≤ r.last) (λ x k. k.known) r.live h.live) (All-weaker (LiveFits r) (λ (event : Live). length event.row ≡ width_of event.table.0) (λ x k. k.wide) r.live h.live)));
  wide = wide_sets (replicate 9 []) r.tables h.tables (λ place. subst (AreWide (width_of (3 + place))) (sym (no_rows_at 9 place)) (All-nil (λ (row : List Value). length row ≡ width_of (3 + place))));
}

abbrev pub are_of_one : SetTable → SetTable → Bool
are_of_one s t = s.table.0 == t.table.0

not_set : (table : ℕ) (one : SetTable) (sets : List SetTable) → one.table.0 ≡ table → list_any (λ (t : SetTable). are_of_one t one) sets ≡ false → rows_at sets table ≡ None
not_set table one [] same h = refl
not_set table one (s ∷ sets) same h =
    let here : (s.table.0 == one.table.0) ≡ false = grind arith in
    let rest : list_any (λ (t : SetTable). are_of_one t one) sets ≡ false = grind arith in
    let apart : (s.table.0 == table) ≡ false = grind (arith, nat_tests, here, same) in
    ap (λ (b : Bool). option_map (λ (t : SetTable). t.rows) (cond b (Some s) (find (λ (t : SetTable). t.table.0 == table) sets))) apart ∙ not_set table one sets same rest

recorded : (table : ℕ) → is_recorded_table table ≡ true → (3 ≤ table) × (table < 12)
recorded table h = (grind (arith, nat_tests, h), grind (arith, nat_tests, h))

pub sets_at : (tables : List (List (List Value))) (sets : List SetTable) (table : ℕ) → is_recorded_table table ≡ true → length tables ≡ 9 → All TableFits sets → IsDistinct are_of_one sets → get_or (with_sets tables sets) (table - 3) [] ≡ unwrap_or (rows_at sets table) (get_or tables (table - 3) [])
sets_at tables [] table is count fits distinct = refl
sets_at tables (s ∷ sets) table is count fits distinct =
    let tail = sets_at (with_rows tables s.table.0 s.rows) sets table is (length-set tables (s.table.0 - 3) s.rows ∙ count) (All-tail TableFits s sets fits) distinct.1 in
    by_table (s.table.0 == table) refl tail
  where
    at : 3 ≤ table × table < 12
    at = recorded table is

    by_table : (b : Bool) → (s.table.0 == table) ≡ b → get_or (with_sets (with_rows tables s.table.0 s.rows) sets) (table - 3) [] ≡ unwrap_or (rows_at sets table) (get_or (with_rows tables s.table.0 s.rows) (table - 3) []) → get_or (with_sets (with_rows tables s.table.0 s.rows) sets) (table - 3) [] ≡ unwrap_or (option_map (λ (t : SetTable). t.rows) (cond b (Some s) (find (λ (t : SetTable). t.table.0 == table) sets))) (get_or tables (table - 3) [])
    by_table true e tail =
        let same : s.table.0 ≡ table = grind (arith, nat_tests, e) in
        let low = at.0 in
        let high = at.1 in
        tail
        ∙ ap (λ (o : Option (List (List Value))). unwrap_or o (get_or (with_rows tables s.table.0 s.rows) (table - 3) [])) (not_set table s sets same distinct.0)
        ∙ ap (λ (t : ℕ). get_or (with_rows tables t s.rows) (table - 3) []) same
        ∙ get_or-set_same tables (table - 3) s.rows [] (omega (arith, count, low, high))
    by_table false e tail =
        let low = at.0 in
        let mine = recorded s.table.0 (All-head TableFits s sets fits).recorded in
        let above = mine.0 in
        let apart : (table - 3) ≢ (s.table.0 - 3) = λ same. absurd (let k : s.table.0 ≡ table = omega (arith, low, above, same) in grind (arith, nat_tests, e, k)) in
        tail ∙ ap (λ (rows : List (List Value)). unwrap_or (rows_at sets table) rows) (get_or-set_other tables (s.table.0 - 3) (table - 3) s.rows [] apart)

pub holds_restored : (r : Restored) → Fits r → Holds r (restored r)
holds_restored r h = record {
  last = refl;
  floors = refl;
  live = λ table is. live_is r table (grind (arith, nat_tests, is));
  rows = λ table is. sets_at (replicate 9 []) r.tables table is refl h.tables h.one_table ∙ ap (unwrap_or (rows_at r.tables table)) (no_rows_at 9 (table - 3));
}
