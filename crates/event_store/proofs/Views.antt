-- What a view of an image shows.
use Rattle.std.proofs.Common.{◌≡◌, ◌⊎◌, ℕ, zero, suc, ◌+◌, ◌-◌, ◌<◌, ◌≤◌, ◌≢◌, List, [], ◌∷◌, ◌++◌, length, map, set, get_or, refl, sym, ap, ◌∙◌, subst, inl, inr, arith, length-append}
use Rattle.std.proofs.lemmas.List.{length-map, length-set, set-append_right, get_or-set_same, get_or-set_other, get_or_append_left, get_or-append_right}
use Rattle.std.proofs.lemmas.Bool.{cases_eq}
use Rattle.std.proofs.lemmas.List.Elements.{All-nil, All-map, All-filter}
use Rattle.std.specs.Prelude.{nat_lt}
use Rattle.osq_value.specs.declared.value.Value.{Value}
use Rattle.entry_model.specs.declared.restored.Live.{Live}
use Rattle.entry_model.specs.Legal.{width_of}
use Rattle.entry_model.proofs.Lists.{is_below}
use Rattle.event_store.specs.Queues.{above, rows_above}
use Rattle.event_store.specs.Contents.{Contents, AreLive, AreWide, live_at, IsImage, IsView, cut_above}
use Rattle.event_store.specs.Inside.{shown_by, AreShown}

pub none_at : (k : ℕ) → get_or {A = List (List Value)} ([] ∷ [] ∷ [] ∷ []) k [] ≡ []
none_at zero = refl
none_at (suc zero) = refl
none_at (suc (suc zero)) = refl
none_at (suc (suc (suc k))) = refl

rows_at_place : (number : ℕ) (queues : List (List Live)) (k : ℕ) → get_or (map (rows_above number) queues) k [] ≡ rows_above number (get_or queues k [])
rows_at_place number [] k = refl
rows_at_place number (q ∷ queues) zero = refl
rows_at_place number (q ∷ queues) (suc k) = rows_at_place number queues k

pub shown_evented : (image : Contents) (number table : ℕ) → IsImage image → table < 3 → get_or (cut_above number image) table [] ≡ rows_above number (live_at image table)
shown_evented image number table h within =
    let count = length-map image.live (rows_above number) in
    let n = h.live_count in
    get_or_append_left (map (rows_above number) image.live) (image.tables ++ [] ∷ [] ∷ [] ∷ []) [] table (omega (arith, count, n, within)) ∙ rows_at_place number image.live table

behind : (image : Contents) (number table : ℕ) → IsImage image → 3 ≤ table → get_or (cut_above number image) table [] ≡ get_or (image.tables ++ [] ∷ [] ∷ [] ∷ []) (table - 3) []
behind image number table h past =
    get_or-append_right (map (rows_above number) image.live) (image.tables ++ [] ∷ [] ∷ [] ∷ []) 3 table [] (length-map image.live (rows_above number) ∙ h.live_count) past

pub shown_recorded : (image : Contents) (number table : ℕ) → IsImage image → 3 ≤ table → table < 12 → get_or (cut_above number image) table [] ≡ get_or image.tables (table - 3) []
shown_recorded image number table h past within =
    let n = h.table_count in
    behind image number table h past ∙ get_or_append_left image.tables ([] ∷ [] ∷ [] ∷ []) [] (table - 3) (omega (arith, n, past, within))

pub shown_computed : (image : Contents) (number table : ℕ) → IsImage image → 12 ≤ table → get_or (cut_above number image) table [] ≡ []
shown_computed image number table h past =
    let n = h.table_count in
    behind image number table h (omega arith) ∙ get_or-append_right image.tables ([] ∷ [] ∷ [] ∷ []) 9 (table - 3) [] n (omega arith) ∙ none_at (table - 3 - 9)

wide_above : (number last table : ℕ) (events : List Live) → AreLive last table events → AreWide (width_of table) (rows_above number events)
wide_above number last table events h =
    All-map (λ (row : List Value). length row ≡ width_of table) (λ (event : Live). event.row) (above number events) (All-filter (λ (event : Live). nat_lt number event.number) (λ (event : Live). length event.row ≡ width_of table) events h.wide)

pub is_view : (image : Contents) (number : ℕ) → IsImage image → IsView (cut_above number image)
is_view image number h = record { count = count; wide = wide }
  where
    count : length (cut_above number image) ≡ 15
    count =
        let a = length-append (map (rows_above number) image.live) (image.tables ++ [] ∷ [] ∷ [] ∷ []) in
        let b = length-append image.tables ([] ∷ [] ∷ [] ∷ []) in
        let m = length-map image.live (rows_above number) in
        let n = h.live_count in
        let k = h.table_count in
        omega (arith, a, b, m, n, k)

    wide : (table : ℕ) → AreWide (width_of table) (get_or (cut_above number image) table [])
    wide table = by_place (is_below 3 table) (is_below 12 table)
      where
        by_place : (3 ≤ table) ⊎ (table < 3) → (12 ≤ table) ⊎ (table < 12) → AreWide (width_of table) (get_or (cut_above number image) table [])
        by_place (inr within) other =
            subst (AreWide (width_of table)) (sym (shown_evented image number table h within)) (wide_above number image.last table (live_at image table) (h.live table))
        by_place (inl past) (inl beyond) =
            subst (AreWide (width_of table)) (sym (shown_computed image number table h beyond)) (All-nil (λ (row : List Value). length row ≡ width_of table))
        by_place (inl past) (inr within) =
            let at : 3 + (table - 3) ≡ table = omega arith in
            subst (AreWide (width_of table)) (sym (shown_recorded image number table h past within)) (subst (λ (t : ℕ). AreWide (width_of t) (get_or image.tables (table - 3) [])) at (h.wide (table - 3)))

pub set_shown : (live : List (List Live)) (tables : List (List (List Value))) (table : ℕ) (rows : List (List Value)) → length live ≡ 3 → 3 ≤ table → shown_by live (set tables (table - 3) rows) ≡ set (shown_by live tables) table rows
set_shown live tables table rows three past =
    let shown : List (List (List Value)) = map (map (λ (event : Live). event.row)) live in
    sym (set-append_right shown tables 3 table rows (length-map live (map (λ (event : Live). event.row)) ∙ three) past)

view_set : (view : List (List (List Value))) (table : ℕ) (rows : List (List Value)) → table < 15 → IsView view → AreWide (width_of table) rows → IsView (set view table rows)
view_set view table rows within h wide = record {
  count = length-set view table rows ∙ h.count;
  wide = λ other. by_table other (cases_eq other table);
}
  where
    by_table : (other : ℕ) → (other ≡ table) ⊎ (other ≢ table) → AreWide (width_of other) (get_or (set view table rows) other [])
    by_table other (inl same) =
        let long = h.count in
        subst (λ (t : ℕ). AreWide (width_of t) (get_or (set view table rows) t [])) (sym same) (subst (AreWide (width_of table)) (sym (get_or-set_same view table rows [] (omega (arith, long, within)))) wide)
    by_table other (inr apart) = subst (AreWide (width_of other)) (sym (get_or-set_other view table other rows [] apart)) (h.wide other)

pub shown_set : (live : List (List Live)) (tables : List (List (List Value))) (table : ℕ) (rows : List (List Value)) → 3 ≤ table → table < 15 → AreShown live tables → AreWide (width_of table) rows → AreShown live (set tables (table - 3) rows)
shown_set live tables table rows past within h wide = record {
  three = h.three;
  view = subst IsView (sym (set_shown live tables table rows h.three past)) (view_set (shown_by live tables) table rows within h.view wide);
}

-- what is cut, by events and tables
pub cut_shown : (number : ℕ) (live : List (List Live)) (tables : List (List (List Value))) → shown_by (map (above number) live) tables ≡ map (rows_above number) live ++ tables
cut_shown number [] tables = refl
cut_shown number (events ∷ live) tables = ap (λ (rest : List (List (List Value))). rows_above number events ∷ rest) (cut_shown number live tables)

-- the events of an image above a number and its tables, as a view is made of them
pub record AreCut (image : Contents) (number : ℕ) (live : List (List Live)) (tables : List (List (List Value))) : Type 0 where
  pub events : live ≡ map (above number) image.live
  pub rows : tables ≡ image.tables ++ [] ∷ [] ∷ [] ∷ []

pub made_shown : (image : Contents) (number : ℕ) (live : List (List Live)) (tables : List (List (List Value))) → AreCut image number live tables → shown_by live tables ≡ cut_above number image
made_shown image number live tables are =
    (λ k. shown_by (are.events k) (are.rows k)) ∙ cut_shown number image.live (image.tables ++ [] ∷ [] ∷ [] ∷ [])

pub made_are_shown : (image : Contents) (number : ℕ) (live : List (List Live)) (tables : List (List (List Value))) → AreCut image number live tables → IsImage image → AreShown live tables
made_are_shown image number live tables are h = record {
  three = ap length are.events ∙ length-map image.live (above number) ∙ h.live_count;
  view = subst IsView (sym (made_shown image number live tables are)) (is_view image number h);
}
