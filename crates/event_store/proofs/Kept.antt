-- What is known of every image stays known, and what an image holds after each change.
use Rattle.std.proofs.Common.{◌≡◌, ◌⊎◌, ℕ, ◌+◌, ◌-◌, ◌<◌, ◌≤◌, ◌≢◌, ◌^◌, Bool, true, false, cond, List, [], ◌∷◌, length, set, get_or, refl, sym, ap, ◌∙◌, subst, inl, inr, arith}
use Rattle.std.specs.Prelude.{All, ◌==◌, if◌then◌else◌}
use Rattle.std.proofs.lemmas.Bool.Decides.{nat_tests}
use Rattle.std.proofs.lemmas.List.{length-set, get_or-set_same, get_or-set_other, get_or_past}
use Rattle.std.proofs.lemmas.List.Elements.{All-nil, All-head, All-tail}
use Rattle.osq_value.specs.declared.value.Event.{Event}
use Rattle.osq_value.specs.declared.value.Value.{Value}
use Rattle.entry_model.specs.declared.restored.Live.{Live}
use Rattle.entry_model.specs.declared.restored.SetTable.{SetTable}
use Rattle.entry_model.specs.Fits.{TableFits}
use Rattle.entry_model.specs.Legal.{IsEvent, width_of}
use Rattle.entry_model.specs.Views.{is_evented_table, is_recorded_table}
use Rattle.entry_model.proofs.Lists.{is_below}
use Rattle.event_store.specs.Queues.{above, new_events, placed}
use Rattle.event_store.specs.Recorded.{with_rows, with_sets}
use Rattle.event_store.specs.Contents.{Contents, AreLive, AreWide, live_at, IsImage}
use Rattle.event_store.specs.Changes.{Appends, with_table, Expires}
use Rattle.event_store.proofs.Images.{length_placed, placed_at, live_appended, live_above, each_live}

abbrev pub appended : Contents → List Event → ℕ → Contents
appended image events moment =
    record { last = image.last + length events; floors = image.floors; live = placed image.live (new_events image.last moment events); tables = image.tables }

evented : (table : ℕ) → is_evented_table table ≡ true → table < 3
evented table h = grind (arith, nat_tests, h)

pub appends : (image : Contents) (events : List Event) (moment : ℕ) → IsImage image → Appends image events moment (appended image events moment)
appends image events moment h = record {
  last = refl;
  live = λ table is. placed_at image.live (new_events image.last moment events) table (let a = evented table is in let b = h.live_count in omega (arith, a, b));
  floors = refl;
  tables = refl;
}

pub image_appended : (image : Contents) (events : List Event) (moment : ℕ) → IsImage image → All IsEvent events → image.last + length events ≤ 2 ^ 62 → IsImage (appended image events moment)
image_appended image events moment h good within =
    let new = new_events image.last moment events in
    record {
      floor_count = h.floor_count;
      live_count = length_placed image.live new ∙ h.live_count;
      table_count = h.table_count;
      last = within;
      live = each_live (image.last + length events) (placed image.live new) (λ table lt. subst (AreLive (image.last + length events) table) (sym (placed_at image.live new table (let n = length_placed image.live new in omega (arith, lt, n)))) (live_appended image.last moment table (live_at image table) events (h.live table) good));
      wide = h.wide;
    }

abbrev pub expired : Contents → ℕ → ℕ → Contents
expired image table floor =
    record { last = image.last; floors = set image.floors table floor; live = set image.live table (above floor (get_or image.live table [])); tables = image.tables }

live_expired : (image : Contents) (table floor : ℕ) → IsImage image → table < 3 → (other : ℕ) → live_at (expired image table floor) other ≡ (if other == table then above floor (live_at image other) else live_at image other)
live_expired image table floor h within other = by_table (other == table) refl
  where
    by_table : (b : Bool) → (other == table) ≡ b → live_at (expired image table floor) other ≡ cond b (above floor (live_at image other)) (live_at image other)
    by_table true e =
        let same : other ≡ table = grind (arith, nat_tests, e) in
        ap (λ (t : ℕ). get_or (set image.live table (above floor (get_or image.live table []))) t []) same
        ∙ get_or-set_same image.live table (above floor (get_or image.live table [])) [] (let n = h.live_count in omega (arith, n, within))
        ∙ ap (λ (t : ℕ). above floor (get_or image.live t [])) (sym same)
    by_table false e =
        let apart : other ≢ table = λ same. absurd (grind (arith, nat_tests, e, same)) in
        get_or-set_other image.live table other (above floor (get_or image.live table [])) [] apart

pub expires : (image : Contents) (table floor : ℕ) → IsImage image → is_evented_table table ≡ true → Expires image table floor (expired image table floor)
expires image table floor h is = record {
  floors = refl;
  live = live_expired image table floor h (evented table is);
  last = refl;
  tables = refl;
}

either_live : (b : Bool) (last table floor : ℕ) (old : List Live) → AreLive last table old → AreLive last table (cond b (above floor old) old)
either_live true last table floor old h = live_above last table floor old h
either_live false last table floor old h = h

pub image_expired : (image : Contents) (table floor : ℕ) → IsImage image → is_evented_table table ≡ true → IsImage (expired image table floor)
image_expired image table floor h is = record {
  floor_count = length-set image.floors table floor ∙ h.floor_count;
  live_count = length-set image.live table (above floor (get_or image.live table [])) ∙ h.live_count;
  table_count = h.table_count;
  last = h.last;
  live = λ other. subst (AreLive image.last other) (sym (live_expired image table floor h (evented table is) other)) (either_live (other == table) image.last other floor (live_at image other) (h.live other));
  wide = h.wide;
}

-- the rows of a recorded table are of its width, after it was set
pub wide_set : (tables : List (List (List Value))) (table : ℕ) (rows : List (List Value)) → is_recorded_table table ≡ true → AreWide (width_of table) rows → ((place : ℕ) → AreWide (width_of (3 + place)) (get_or tables place [])) → (place : ℕ) → AreWide (width_of (3 + place)) (get_or (with_rows tables table rows) place [])
wide_set tables table rows is wide h place = by_place (place == (table - 3)) refl (is_below (length tables) place)
  where
    by_place : (b : Bool) → (place == (table - 3)) ≡ b → (length tables ≤ place) ⊎ (place < length tables) → AreWide (width_of (3 + place)) (get_or (with_rows tables table rows) place [])
    by_place b e (inl past) =
        subst (AreWide (width_of (3 + place))) (sym (get_or_past (with_rows tables table rows) place [] (let n = length-set tables (table - 3) rows in omega (arith, n, past)))) (All-nil (λ (row : List Value). length row ≡ width_of (3 + place)))
    by_place true e (inr within) =
        let same : place ≡ table - 3 = grind (arith, nat_tests, e) in
        let at : 3 + place ≡ table = grind (arith, nat_tests, is, same) in
        subst (AreWide (width_of (3 + place))) (sym (ap (λ (k : ℕ). get_or (set tables k rows) place []) (sym same) ∙ get_or-set_same tables place rows [] within)) (subst (λ (t : ℕ). AreWide (width_of t) rows) (sym at) wide)
    by_place false e (inr within) =
        let apart : place ≢ table - 3 = λ same. absurd (grind (arith, nat_tests, e, same)) in
        subst (AreWide (width_of (3 + place))) (sym (get_or-set_other tables (table - 3) place rows [] apart)) (h place)

pub image_set : (image : Contents) (table : ℕ) (rows : List (List Value)) → IsImage image → is_recorded_table table ≡ true → AreWide (width_of table) rows → IsImage (with_table image table rows)
image_set image table rows h is wide = record {
  floor_count = h.floor_count;
  live_count = h.live_count;
  table_count = length-set image.tables (table - 3) rows ∙ h.table_count;
  last = h.last;
  live = h.live;
  wide = wide_set image.tables table rows is wide h.wide;
}

pub length_sets : (tables : List (List (List Value))) (sets : List SetTable) → length (with_sets tables sets) ≡ length tables
length_sets tables [] = refl
length_sets tables (s ∷ sets) = length_sets (with_rows tables s.table.0 s.rows) sets ∙ length-set tables (s.table.0 - 3) s.rows

pub wide_sets : (tables : List (List (List Value))) (sets : List SetTable) → All TableFits sets → ((place : ℕ) → AreWide (width_of (3 + place)) (get_or tables place [])) → (place : ℕ) → AreWide (width_of (3 + place)) (get_or (with_sets tables sets) place [])
wide_sets tables [] fits h place = h place
wide_sets tables (s ∷ sets) fits h place =
    let fit = All-head TableFits s sets fits in
    wide_sets (with_rows tables s.table.0 s.rows) sets (All-tail TableFits s sets fits) (wide_set tables s.table.0 s.rows fit.recorded fit.wide h) place
