-- Parts and events behind an Expired entry.
use Rattle.std.proofs.Common.{◌≡◌, ◌≢◌, ℕ, ◌<◌, ◌≤◌, Bool, true, false, cond, List, [], ◌∷◌, ◌++◌, length, map, refl, sym, ap, ◌∙◌, arith}
use Rattle.std.specs.Prelude.{filter, flat_map, not, ◌&&◌, ◌==◌, nat_lt, nat_le, slice_index, slice_set, zip}
use Rattle.std.specs.List.{AllByRecursion}
use Rattle.std.proofs.lemmas.Bool.Decides.{nat_tests}
use Rattle.std.proofs.lemmas.List.{get_or-set_same, get_or-set_other}
use Rattle.std.proofs.lemmas.List.Elements.{filter-append}
use Rattle.osq_value.specs.declared.value.TableId.{TableId}
use Rattle.osq_value.specs.declared.value.Value.{Value}
use Rattle.entry_model.specs.declared.restored.Live.{Live}
use Rattle.entry_model.specs.Values.{is_above}
use Rattle.kept_tables.specs.declared.live.LivePart.{LivePart}
use Rattle.kept_tables.specs.Edits.{last_in, own}
use Rattle.kept_tables.specs.Keeps.{IsBounded, KeepsLive}
use Rattle.kept_tables.specs.Loads.{event_of, events_in, events_of}
use Rattle.kept_tables.specs.Rows.{IsLivePart}
use Rattle.kept_tables.proofs.Cutting.{all_kept, filter_both, filter_turned}

apart : (n m : ℕ) → (n == m) ≡ false → n ≢ m
apart n m is e = grind (arith, nat_tests, is, e)

and_true : (a b : Bool) → (a && b) ≡ true → (a ≡ true) × (b ≡ true)
and_true true b h = (refl, h)
and_true false b h = absurd (cc)

and_yes : (b : Bool) → (b && true) ≡ b
and_yes true = refl
and_yes false = refl

beyond : (low floor n : ℕ) → low ≤ floor → nat_lt floor n ≡ (nat_lt low n && not (nat_le n floor))
beyond low floor n le = grind (arith, nat_tests)

module _ (floors : List ℕ) (table floor : ℕ) (within : table < length floors) (low : slice_index floors table ≤ floor) where
  abbrev after : List ℕ
  after = slice_set floors table floor

  same_floor : (t : ℕ) → (t == table) ≡ true → slice_index after t ≡ floor
  same_floor t is =
      let e : t ≡ table = grind (arith, nat_tests, is) in ap (λ (n : ℕ). slice_index after n) e ∙ get_or-set_same floors table floor 0 within

  other_floor : (t : ℕ) → (t == table) ≡ false → slice_index after t ≡ slice_index floors t
  other_floor t is = get_or-set_other floors table t floor 0 (apart t table is)

  low_at : (t : ℕ) → (t == table) ≡ true → slice_index floors t ≤ floor
  low_at t is =
      let e : t ≡ table = grind (arith, nat_tests, is) in let same : slice_index floors t ≡ slice_index floors table = ap (λ (n : ℕ). slice_index floors n) e in omega (arith, same, low)

  abbrev pub stays : Live → Bool
  stays event = not (event.table.0 == table && nat_le event.number floor)

  test : (t n : ℕ) (b : Bool) → (t == table) ≡ b → nat_lt (slice_index after t) n ≡ (nat_lt (slice_index floors t) n && not (t == table && nat_le n floor))
  test t n true is =
      ap (λ (f : ℕ). nat_lt f n) (same_floor t is) ∙ beyond (slice_index floors t) floor n (low_at t is) ∙ ap (λ (b : Bool). nat_lt (slice_index floors t) n && not (b && nat_le n floor)) (sym is)
  test t n false is =
      ap (λ (f : ℕ). nat_lt f n) (other_floor t is) ∙ sym (and_yes (nat_lt (slice_index floors t) n)) ∙ ap (λ (b : Bool). nat_lt (slice_index floors t) n && not (b && nat_le n floor)) (sym is)

  events_now : (events : List Live) → filter (is_above (slice_index after)) events ≡ filter stays (filter (is_above (slice_index floors)) events)
  events_now events =
      filter_both stays (is_above (slice_index floors)) (is_above (slice_index after)) (λ event. test event.table.0 event.number (event.table.0 == table) refl) events

  -- the events of a part whose last one is gone
  none_above : (t : TableId) (moment last : ℕ) → slice_index after t.0 ≡ floor → last ≤ floor → (ns : List ℕ) (rows : List (List Value)) → AllByRecursion (λ (n : ℕ). n ≤ last) ns → filter (is_above (slice_index after)) (map (event_of t moment) (zip ns rows)) ≡ []
  none_above t moment last is le [] [] h = refl
  none_above t moment last is le [] (row ∷ rows) h = refl
  none_above t moment last is le (n ∷ ns) [] h = refl
  none_above t moment last is le (n ∷ ns) (row ∷ rows) h =
      let first = h.0 in
      let gone : nat_lt (slice_index after t.0) n ≡ false = grind (arith, nat_tests, is, le, first) in
      let rest = filter (is_above (slice_index after)) (map (event_of t moment) (zip ns rows)) in
      ap (λ (b : Bool). cond b (event_of t moment (n, row) ∷ rest) rest) gone ∙ none_above t moment last is le ns rows h.1

  abbrev pub is_left : LivePart → Bool
  is_left part = not (part.table.0 == table && nat_le (last_in part.numbers) floor)

  left_events : (parts : List LivePart) → AllByRecursion IsBounded parts → filter (is_above (slice_index after)) (flat_map events_of (filter is_left parts)) ≡ filter (is_above (slice_index after)) (flat_map events_of parts)
  left_events [] h = refl
  left_events (part ∷ parts) h = by (part.table.0 == table && nat_le (last_in part.numbers) floor) refl (left_events parts h.1)
    where
      by : (b : Bool) → (part.table.0 == table && nat_le (last_in part.numbers) floor) ≡ b
          → filter (is_above (slice_index after)) (flat_map events_of (filter is_left parts)) ≡ filter (is_above (slice_index after)) (flat_map events_of parts)
          → filter (is_above (slice_index after)) (flat_map events_of (cond (not b) (part ∷ filter is_left parts) (filter is_left parts))) ≡ filter (is_above (slice_index after)) (events_of part ++ flat_map events_of parts)
      by true is rest =
          let both = and_true (part.table.0 == table) (nat_le (last_in part.numbers) floor) is in
          let le : last_in part.numbers ≤ floor = (let second = both.1 in grind (arith, nat_tests, second)) in
          let gone = none_above part.table part.moment (last_in part.numbers) (same_floor part.table.0 both.0) le part.numbers part.rows h.0 in
          rest ∙ sym (filter-append (is_above (slice_index after)) (events_of part) (flat_map events_of parts) ∙ ap (λ (es : List Live). es ++ filter (is_above (slice_index after)) (flat_map events_of parts)) gone)
      by false is rest =
          filter-append (is_above (slice_index after)) (events_of part) (flat_map events_of (filter is_left parts))
          ∙ ap (λ (es : List Live). filter (is_above (slice_index after)) (events_of part) ++ es) rest ∙ sym (filter-append (is_above (slice_index after)) (events_of part) (flat_map events_of parts))

  own_left : (t : ℕ) (parts : List LivePart) (live : List Live) → AllByRecursion IsBounded parts → own t (events_in floors parts) ≡ own t live → own t (events_in after (filter is_left parts)) ≡ own t (filter stays live)
  own_left t parts live bounded same =
      let is_own = λ (event : Live). event.table.0 == t in
      ap (own t) (left_events parts bounded ∙ events_now (flat_map events_of parts)) ∙ filter_turned is_own stays (events_in floors parts) ∙ ap (filter stays) same ∙ filter_turned stays is_own live

  pub expired : (parts : List LivePart) (live : List Live) → KeepsLive floors parts live → KeepsLive after (filter is_left parts) (filter stays live)
  expired parts live keeps = record {
    held = all_kept IsLivePart is_left parts keeps.held;
    bounded = all_kept IsBounded is_left parts keeps.bounded;
    processes = own_left 0 parts live keeps.bounded keeps.processes;
    sockets = own_left 1 parts live keeps.bounded keeps.sockets;
    files = own_left 2 parts live keeps.bounded keeps.files;
  }
