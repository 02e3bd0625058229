-- What an image keeps beside what is known of every image.
use Rattle.std.proofs.Common.{◌≡◌, ◌⊎◌, ℕ, suc, ◌+◌, ◌<◌, ◌≤◌, ◌≢◌, ◌^◌, Bool, true, false, cond, List, [], ◌∷◌, ◌++◌, length, map, set, get_or, refl, sym, ap, ◌∙◌, subst, inl, inr, arith}
use Rattle.std.specs.Prelude.{All, ◌==◌, ◌&&◌, nat_lt, nat_le, slice_index, IfSome}
use Rattle.std.specs.List.{AllByRecursion}
use Rattle.std.proofs.lemmas.Bool.{cases_eq}
use Rattle.std.proofs.lemmas.Bool.Decides.{nat_tests}
use Rattle.std.proofs.lemmas.List.{get_or-set_same, get_or-set_other, get_or_past}
use Rattle.std.proofs.lemmas.List.Elements.{All-append, All-weaker, All-filter, All-set, All-from_recursion, recursion_from_All, filter_passes}
use Rattle.osq_value.specs.declared.value.Event.{Event}
use Rattle.entry_model.specs.declared.restored.Live.{Live}
use Rattle.entry_model.specs.declared.restored.Restored.{Restored}
use Rattle.entry_model.specs.Values.{numbered}
use Rattle.entry_model.specs.Fits.{LiveFits, Fits}
use Rattle.entry_model.specs.Legal.{IsEvent}
use Rattle.entry_model.specs.Views.{is_evented_table}
use Rattle.entry_model.proofs.Lists.{is_below, and_true}
use Rattle.event_store.specs.Queues.{events_of, above, new_events, placed}
use Rattle.event_store.specs.Contents.{Contents, floor_at, live_at, IsImage, HasFloors}
use Rattle.event_store.specs.Orders.{IsInOrder, AreInOrder}
use Rattle.event_store.specs.Owed.{owed_of}
use Rattle.event_store.specs.Inside.{IsKept}
use Rattle.event_store.proofs.Expiring.{owed_among}
use Rattle.event_store.proofs.Images.{length_placed, placed_at}
use Rattle.event_store.proofs.Orders.{order_filter, order_both}
use Rattle.event_store.proofs.Kept.{appended, image_appended, expired, expires, image_expired}
use Rattle.event_store.proofs.Restoring.{restored, live_is, image_restored}

evented : (table : ℕ) → is_evented_table table ≡ true → table < 3
evented table h = grind (arith, nat_tests, h)

numbers_above : (low n moment : ℕ) (events : List Event) → low < n → AllByRecursion (λ (e : Live). low < e.number) (numbered n (map (λ (event : Event). (moment, event)) events))
numbers_above low n moment [] up = tt
numbers_above low n moment (x ∷ xs) up = (up, numbers_above low (suc n) moment xs (omega (arith, up)))

same_moments : (n moment table : ℕ) (events : List Event) → AllByRecursion (λ (e : Live). e.moment ≡ moment) (events_of (numbered n (map (λ (event : Event). (moment, event)) events)) table)
same_moments n moment table [] = tt
same_moments n moment table (x ∷ xs) = by_table (x.table.0 == table) (same_moments (suc n) moment table xs)
  where
    new : Live
    new = record { number = n; table = x.table; moment = moment; row = x.row }

    by_table : (b : Bool) → AllByRecursion (λ (e : Live). e.moment ≡ moment) (events_of (numbered (suc n) (map (λ (event : Event). (moment, event)) xs)) table) → AllByRecursion (λ (e : Live). e.moment ≡ moment) (cond b (record { number = n; table = x.table; moment = moment; row = x.row } ∷ events_of (numbered (suc n) (map (λ (event : Event). (moment, event)) xs)) table) (events_of (numbered (suc n) (map (λ (event : Event). (moment, event)) xs)) table))
    by_table true rest = (refl, rest)
    by_table false rest = rest

module _ (image : Contents) (events : List Event) (moment : ℕ) (h : IsImage image) where
  at : (table : ℕ) → table < 3 → live_at (appended image events moment) table ≡ live_at image table ++ events_of (new_events image.last moment events) table
  at table lt = placed_at image.live (new_events image.last moment events) table (let a = h.live_count in omega (arith, a, lt))

  order_appended : (latest : ℕ) → latest ≤ moment → AreInOrder latest image.live → AreInOrder moment (appended image events moment).live
  order_appended latest later order table = by_place (is_below 3 table)
    where
      by_place : (3 ≤ table) ⊎ (table < 3) → IsInOrder 0 moment (get_or (placed image.live (new_events image.last moment events)) table [])
      by_place (inl past) =
          subst (IsInOrder 0 moment) (sym (get_or_past (placed image.live (new_events image.last moment events)) table [] (let a = length_placed image.live (new_events image.last moment events) in let b = h.live_count in omega (arith, a, b, past)))) (omega arith)
      by_place (inr lt) =
          subst (IsInOrder 0 moment) (sym (at table lt)) (order_both 0 latest moment (live_at image table) (events_of (new_events image.last moment events) table) later (order table) (same_moments (1 + image.last) moment table events))

  floors_appended : HasFloors image → HasFloors (appended image events moment)
  floors_appended floors = record {
    above = λ table is.
        let lt = evented table is in
        let floor = floors.known table 0 (let a = h.floor_count in omega (arith, a, lt)) in
        subst (All (λ (e : Live). floor_at image table < e.number)) (sym (at table lt)) (All-append (λ (e : Live). floor_at image table < e.number) (live_at image table) (events_of (new_events image.last moment events) table) (floors.above table is)
        (All-filter (λ (e : Live). e.table.0 == table) (λ (e : Live). floor_at image table < e.number) (new_events image.last moment events) (All-from_recursion (λ (e : Live). floor_at image table < e.number) (new_events image.last moment events) (numbers_above (floor_at image table) (1 + image.last) moment events (omega (arith, floor))))));
    known = All-weaker (λ (floor : ℕ). floor ≤ image.last) (λ (floor : ℕ). floor ≤ image.last + length events) (λ n k. omega (arith, k)) image.floors floors.known;
  }

pub kept_appended : (in_order : Bool) (latest moment : ℕ) (image : Contents) (events : List Event) → IsKept in_order latest image → All IsEvent events → image.last + length events ≤ 2 ^ 62 → IsKept (in_order && nat_le latest moment) moment (appended image events moment)
kept_appended in_order latest moment image events h good within = record {
  image = image_appended image events moment h.image good within;
  floors = floors_appended image events moment h.image h.floors;
  order = λ both. (let parts = and_true in_order (nat_le latest moment) both in let passes = parts.1 in let later : latest ≤ moment = grind (arith, nat_tests, passes) in order_appended image events moment h.image latest later (h.order parts.0));
}

module _ (image : Contents) (table floor : ℕ) (h : IsImage image) (is : is_evented_table table ≡ true) where
  order_expired : (latest : ℕ) → AreInOrder latest image.live → AreInOrder latest (expired image table floor).live
  order_expired latest order other =
      subst (IsInOrder 0 latest) (sym ((expires image table floor h is).live other)) (either (other == table))
    where
      either : (b : Bool) → IsInOrder 0 latest (cond b (above floor (live_at image other)) (live_at image other))
      either true = order_filter (λ (e : Live). nat_lt floor e.number) 0 latest (live_at image other) (order other)
      either false = order other

  floors_expired : floor ≤ image.last → HasFloors image → HasFloors (expired image table floor)
  floors_expired known floors = record {
    above = λ other mine. by_table other mine (cases_eq other table);
    known = All-set (λ (f : ℕ). f ≤ image.last) image.floors table floor known floors.known;
  }
    where
      by_table : (other : ℕ) → is_evented_table other ≡ true → (other ≡ table) ⊎ (other ≢ table) → All (λ (e : Live). floor_at (expired image table floor) other < e.number) (live_at (expired image table floor) other)
      by_table other mine (inl same) =
          let now : floor_at (expired image table floor) other ≡ floor = ap (λ (t : ℕ). slice_index (set image.floors table floor) t) same ∙ get_or-set_same image.floors table floor 0 (let a = h.floor_count in let b = evented table is in omega (arith, a, b)) in
          let yes : (other == table) ≡ true = grind (arith, nat_tests, same) in
          let live : live_at (expired image table floor) other ≡ above floor (live_at image other) = (expires image table floor h is).live other ∙ ap (λ (b : Bool). cond b (above floor (live_at image other)) (live_at image other)) yes in
          subst (All (λ (e : Live). floor_at (expired image table floor) other < e.number)) (sym live) (All-weaker (λ (e : Live). nat_lt floor e.number ≡ true) (λ (e : Live). floor_at (expired image table floor) other < e.number) (λ e k. (let b : floor < e.number = grind (arith, nat_tests, k) in omega (arith, b, now))) (above floor (live_at image other)) (filter_passes (λ (e : Live). nat_lt floor e.number) (live_at image other)))
      by_table other mine (inr apart) =
          let now : floor_at (expired image table floor) other ≡ floor_at image other = get_or-set_other image.floors table other floor 0 apart in
          let no : (other == table) ≡ false = grind (arith, nat_tests, apart) in
          let live : live_at (expired image table floor) other ≡ live_at image other = (expires image table floor h is).live other ∙ ap (λ (b : Bool). cond b (above floor (live_at image other)) (live_at image other)) no in
          subst (All (λ (e : Live). floor_at (expired image table floor) other < e.number)) (sym live) (All-weaker (λ (e : Live). floor_at image other < e.number) (λ (e : Live). floor_at (expired image table floor) other < e.number) (λ e k. omega (arith, k, now)) (live_at image other) (floors.above other mine))

pub kept_expired : (in_order : Bool) (latest table floor : ℕ) (image : Contents) → IsKept in_order latest image → is_evented_table table ≡ true → floor ≤ image.last → IsKept in_order latest (expired image table floor)
kept_expired in_order latest table floor image h is known = record {
  image = image_expired image table floor h.image is;
  floors = floors_expired image table floor h.image is known h.floors;
  order = λ yes. order_expired image table floor h.image is latest (h.order yes);
}

-- the events of a table are above its floor
of_table : (r : Restored) (table : ℕ) (events : List Live) → AllByRecursion (λ (e : Live). slice_index r.floors e.table.0 < e.number) events → AllByRecursion (λ (e : Live). slice_index r.floors table < e.number) (events_of events table)
of_table r table [] h = tt
of_table r table (x ∷ xs) h = by_table (x.table.0 == table) refl (of_table r table xs h.1)
  where
    by_table : (b : Bool) → (x.table.0 == table) ≡ b → AllByRecursion (λ (e : Live). slice_index r.floors table < e.number) (events_of xs table) → AllByRecursion (λ (e : Live). slice_index r.floors table < e.number) (cond b (x ∷ events_of xs table) (events_of xs table))
    by_table true e rest = (subst (λ (t : ℕ). slice_index r.floors t < x.number) (grind (arith, nat_tests, e)) h.0, rest)
    by_table false e rest = rest

pub kept_restored : (in_order : Bool) (latest : ℕ) (r : Restored) → Fits r → length r.floors ≡ 3 → (in_order ≡ true → IsInOrder 0 latest r.live) → IsKept in_order latest (restored r)
kept_restored in_order latest r h floors order = record {
  image = image_restored r h floors;
  floors = record {
    above = λ table is. subst (All (λ (e : Live). slice_index r.floors table < e.number)) (sym (live_is r table (evented table is))) (All-from_recursion (λ (e : Live). slice_index r.floors table < e.number) (events_of r.live table) (of_table r table r.live (recursion_from_All (λ (e : Live). slice_index r.floors e.table.0 < e.number) r.live (All-weaker (LiveFits r) (λ (e : Live). slice_index r.floors e.table.0 < e.number) (λ e k. k.above) r.live h.live))));
    known = h.floors;
  };
  order = λ so table. by_place so table (is_below 3 table);
}
  where
    by_place : in_order ≡ true → (table : ℕ) → (3 ≤ table) ⊎ (table < 3) → IsInOrder 0 latest (get_or (placed ([] ∷ [] ∷ [] ∷ []) r.live) table [])
    by_place so table (inl past) =
        subst (IsInOrder 0 latest) (sym (get_or_past (placed ([] ∷ [] ∷ [] ∷ []) r.live) table [] (let a = length_placed ([] ∷ [] ∷ [] ∷ []) r.live in omega (arith, a, past)))) (omega arith)
    by_place so table (inr lt) =
        subst (IsInOrder 0 latest) (sym (live_is r table lt)) (order_filter (λ (e : Live). e.table.0 == table) 0 latest r.live (order so))

-- what is owed is above the floor of the table
pub owed_moves : (in_order : Bool) (latest expiry max moment reached table : ℕ) (image : Contents) → IsKept in_order latest image → is_evented_table table ≡ true → IfSome (owed_of expiry max moment reached (live_at image table)) (λ (floor : ℕ). (floor_at image table < floor) × (floor ≤ image.last))
owed_moves in_order latest expiry max moment reached table image h is =
    owed_among (λ (floor : ℕ). (floor_at image table < floor) × (floor ≤ image.last)) expiry max moment reached (live_at image table) (λ k d within. (h.floors.above table is k d within, (h.image.live table).known k d within))
