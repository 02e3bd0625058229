-- An image goes with the values of a list.
use Rattle.std.proofs.Common.{◌≡◌, ℕ, ◌+◌, ◌-◌, ◌<◌, ◌≤◌, ◌≢◌, Bool, true, false, cond, List, [], ◌∷◌, ◌++◌, length, set, get_or, refl, sym, ap, ◌∙◌, subst, arith}
use Rattle.std.specs.Prelude.{filter, ◌==◌, ◌&&◌, ◌||◌, not, nat_lt, nat_le, if◌then◌else◌, unwrap_or, Option, Some, None}
use Rattle.std.proofs.lemmas.Bool.Decides.{nat_tests}
use Rattle.std.proofs.lemmas.List.{get_or-set_same, get_or-set_other}
use Rattle.std.proofs.lemmas.List.Elements.{filter-append}
use Rattle.osq_value.specs.declared.value.Event.{Event}
use Rattle.osq_value.specs.declared.value.TableId.{TableId}
use Rattle.osq_value.specs.declared.value.Value.{Value}
use Rattle.entry_model.specs.declared.entry.Entry.{Entry}
use Rattle.entry_model.specs.declared.entry.Entry.TheVariants.{Opened, Configured, Ticked, Appended, TableSet, Expired, Committed, Acked}
use Rattle.entry_model.specs.declared.restored.Live.{Live}
use Rattle.entry_model.specs.declared.restored.Restored.{Restored}
use Rattle.entry_model.specs.Values.{last_of, schedule_of, moment_of, live_events, rules_of}
use Rattle.entry_model.specs.Views.{is_evented_table, is_recorded_table, is_old, is_crowded_out, is_owed, reached_of}
use Rattle.entry_model.specs.Legal.{LegalNext}
use Rattle.entry_model.specs.Summary.{summary, recorded_tables}
use Rattle.entry_model.specs.Next.{rows_at, restored_next}
use Rattle.entry_model.proofs.Summaries.{look, set_is, floor_is, is_recorded}
use Rattle.entry_model.proofs.Nexts.{next_is}
use Rattle.event_store.specs.Queues.{events_of, above, new_events}
use Rattle.event_store.specs.Owed.{owed_of}
use Rattle.event_store.specs.Contents.{Contents, live_at, Holds, IsImage}
use Rattle.event_store.specs.Changes.{Appends, with_table, Expires}
use Rattle.event_store.specs.Laws.{Follows, KeepsUp, Values}

holds_appended : (r : Restored) (source : List ℕ) (taken : ℕ) (events : List Event) (skipped moment : ℕ) (old new : Contents) → Holds r old → Appends old events moment new → Holds (restored_next r (Appended source taken events skipped moment)) new
holds_appended r source taken events skipped moment old new h a = record {
  last = a.last ∙ ap (λ (n : ℕ). n + length events) h.last;
  floors = a.floors ∙ h.floors;
  live = λ table is. a.live table is ∙ ap (λ (es : List Live). es ++ events_of (new_events old.last moment events) table) (h.live table is) ∙ ap (λ (n : ℕ). events_of r.live table ++ events_of (new_events n moment events) table) h.last ∙ sym (filter-append (λ (event : Live). event.table.0 == table) r.live (new_events r.last moment events));
  rows = λ table is. ap (λ (tables : List (List (List Value))). get_or tables (table - 3) []) a.tables ∙ h.rows table is;
}

-- the live events after an expiry, table by table
abbrev stays : ℕ → ℕ → Live → Bool
stays table floor event = not (event.table.0 == table && nat_le event.number floor)

above_of : (table floor : ℕ) (events : List Live) → events_of (filter (stays table floor) events) table ≡ above floor (events_of events table)
above_of table floor [] = refl
above_of table floor (x ∷ xs) = by_table (x.table.0 == table) refl (above_of table floor xs)
  where
    low : nat_lt floor x.number ≡ not (nat_le x.number floor)
    low = grind (arith, nat_tests)

    by_number : (b : Bool) → x.table.0 ≡ table → events_of (filter (stays table floor) xs) table ≡ above floor (events_of xs table) → events_of (cond (not b) (x ∷ filter (stays table floor) xs) (filter (stays table floor) xs)) table ≡ cond (not b) (x ∷ above floor (events_of xs table)) (above floor (events_of xs table))
    by_number true same rest = rest
    by_number false same rest =
        let here : (x.table.0 == table) ≡ true = grind (arith, nat_tests, same) in
        ap (λ (t : Bool). cond t (x ∷ events_of (filter (stays table floor) xs) table) (events_of (filter (stays table floor) xs) table)) here ∙ ap (λ (es : List Live). x ∷ es) rest

    by_table : (a : Bool) → (x.table.0 == table) ≡ a → events_of (filter (stays table floor) xs) table ≡ above floor (events_of xs table) → events_of (filter (stays table floor) (x ∷ xs)) table ≡ above floor (events_of (x ∷ xs) table)
    by_table true e rest =
        ap (λ (a : Bool). events_of (cond (not (a && nat_le x.number floor)) (x ∷ filter (stays table floor) xs) (filter (stays table floor) xs)) table) e
        ∙ by_number (nat_le x.number floor) (grind (arith, nat_tests, e)) rest
        ∙ sym (ap (λ (b : Bool). cond b (x ∷ above floor (events_of xs table)) (above floor (events_of xs table))) low)
        ∙ sym (ap (λ (a : Bool). above floor (cond a (x ∷ events_of xs table) (events_of xs table))) e)
    by_table false e rest =
        ap (λ (a : Bool). events_of (cond (not (a && nat_le x.number floor)) (x ∷ filter (stays table floor) xs) (filter (stays table floor) xs)) table) e
        ∙ ap (λ (t : Bool). cond t (x ∷ events_of (filter (stays table floor) xs) table) (events_of (filter (stays table floor) xs) table)) e
        ∙ rest
        ∙ sym (ap (λ (a : Bool). above floor (cond a (x ∷ events_of xs table) (events_of xs table))) e)

other_of : (table floor other : ℕ) (events : List Live) → (other == table) ≡ false → events_of (filter (stays table floor) events) other ≡ events_of events other
other_of table floor other [] apart = refl
other_of table floor other (x ∷ xs) apart = by_table (x.table.0 == table) refl (other_of table floor other xs apart)
  where
    by_number : (b : Bool) → (x.table.0 == other) ≡ false → events_of (filter (stays table floor) xs) other ≡ events_of xs other → events_of (cond (not b) (x ∷ filter (stays table floor) xs) (filter (stays table floor) xs)) other ≡ events_of xs other
    by_number true e rest = rest
    by_number false e rest =
        ap (λ (t : Bool). cond t (x ∷ events_of (filter (stays table floor) xs) other) (events_of (filter (stays table floor) xs) other)) e ∙ rest

    by_table : (a : Bool) → (x.table.0 == table) ≡ a → events_of (filter (stays table floor) xs) other ≡ events_of xs other → events_of (filter (stays table floor) (x ∷ xs)) other ≡ events_of (x ∷ xs) other
    by_table true e rest =
        let away : (x.table.0 == other) ≡ false = grind (arith, nat_tests, e, apart) in
        ap (λ (a : Bool). events_of (cond (not (a && nat_le x.number floor)) (x ∷ filter (stays table floor) xs) (filter (stays table floor) xs)) other) e
        ∙ by_number (nat_le x.number floor) away rest
        ∙ sym (ap (λ (a : Bool). cond a (x ∷ events_of xs other) (events_of xs other)) away)
    by_table false e rest =
        ap (λ (a : Bool). events_of (cond (not (a && nat_le x.number floor)) (x ∷ filter (stays table floor) xs) (filter (stays table floor) xs)) other) e
        ∙ ap (λ (es : List Live). cond (x.table.0 == other) (x ∷ es) es) rest

holds_expired : (r : Restored) (table : TableId) (floor moment : ℕ) (old new : Contents) → Holds r old → Expires old table.0 floor new → Holds (restored_next r (Expired table floor moment)) new
holds_expired r table floor moment old new h a = record {
  last = a.last ∙ h.last;
  floors = a.floors ∙ ap (λ (floors : List ℕ). set floors table.0 floor) h.floors;
  live = λ other is. a.live other ∙ by_table other is (other == table.0) refl;
  rows = λ other is. ap (λ (tables : List (List (List Value))). get_or tables (other - 3) []) a.tables ∙ h.rows other is;
}
  where
    by_table : (other : ℕ) → is_evented_table other ≡ true → (b : Bool) → (other == table.0) ≡ b → cond (other == table.0) (above floor (live_at old other)) (live_at old other) ≡ events_of (filter (stays table.0 floor) r.live) other
    by_table other is true e =
        let same : other ≡ table.0 = grind (arith, nat_tests, e) in
        ap (λ (b : Bool). cond b (above floor (live_at old other)) (live_at old other)) e
        ∙ ap (above floor) (h.live other is)
        ∙ ap (λ (t : ℕ). above floor (events_of r.live t)) same
        ∙ sym (above_of table.0 floor r.live)
        ∙ ap (events_of (filter (stays table.0 floor) r.live)) (sym same)
    by_table other is false e =
        ap (λ (b : Bool). cond b (above floor (live_at old other)) (live_at old other)) e ∙ h.live other is ∙ sym (other_of table.0 floor other r.live e)

recorded : (table : ℕ) → is_recorded_table table ≡ true → (3 ≤ table) × (table < 12)
recorded table h = (grind (arith, nat_tests, h), grind (arith, nat_tests, h))

holds_set : (r : Restored) (source : List ℕ) (table : TableId) (rows : List (List Value)) (taken : ℕ) (old : Contents) → length old.tables ≡ 9 → is_recorded_table table.0 ≡ true → Holds r old → Holds (restored_next r (TableSet source table rows taken)) (with_table old table.0 rows)
holds_set r source table rows taken old count mine h = record {
  last = h.last;
  floors = h.floors;
  live = h.live;
  rows = λ other is. by_table other is (table.0 == other) refl ∙ sym (ap (λ (o : Option (List (List Value))). unwrap_or o []) (look given other recorded_tables ∙ ap (λ (b : Bool). cond b (given other) None) (is_recorded other ∙ is)));
}
  where
    given : ℕ → Option (List (List Value))
    given t = if table.0 == t then Some rows else rows_at r.tables t

    by_table : (other : ℕ) → is_recorded_table other ≡ true → (b : Bool) → (table.0 == other) ≡ b → get_or (set old.tables (table.0 - 3) rows) (other - 3) [] ≡ unwrap_or (cond (table.0 == other) (Some rows) (rows_at r.tables other)) []
    by_table other is true e =
        let same : table.0 ≡ other = grind (arith, nat_tests, e) in
        let at = recorded other is in
        let low = at.0 in
        let high = at.1 in
        ap (λ (t : ℕ). get_or (set old.tables (t - 3) rows) (other - 3) []) same
        ∙ get_or-set_same old.tables (other - 3) rows [] (omega (arith, count, low, high))
        ∙ sym (ap (λ (b : Bool). unwrap_or (cond b (Some rows) (rows_at r.tables other)) []) e)
    by_table other is false e =
        let low = (recorded other is).0 in
        let above = (recorded table.0 mine).0 in
        let apart : (other - 3) ≢ (table.0 - 3) = λ same. absurd (let k : table.0 ≡ other = omega (arith, low, above, same) in grind (arith, nat_tests, e, k)) in
        get_or-set_other old.tables (table.0 - 3) (other - 3) rows [] apart ∙ h.rows other is ∙ sym (ap (λ (b : Bool). unwrap_or (cond b (Some rows) (rows_at r.tables other)) []) e)

-- the values go with the entry as the image does
pub holds_next : (r : Restored) (entry : Entry) (old new : Contents) → ((table : TableId) (source : List ℕ) (rows : List (List Value)) (taken : ℕ) → entry ≡ TableSet source table rows taken → is_recorded_table table.0 ≡ true) → IsImage old → Holds r old → Follows entry old new → Holds (restored_next r entry) new
holds_next r (Opened session rules) old new may is h a = subst (Holds (restored_next r (Opened session rules))) (sym a) (record { last = h.last; floors = h.floors; live = h.live; rows = h.rows })
holds_next r (Configured document schedule moment) old new may is h a =
    subst (Holds (restored_next r (Configured document schedule moment))) (sym a) (record { last = h.last; floors = h.floors; live = h.live; rows = h.rows })
holds_next r (Ticked moment) old new may is h a = subst (Holds (restored_next r (Ticked moment))) (sym a) (record { last = h.last; floors = h.floors; live = h.live; rows = h.rows })
holds_next r (Appended source taken events skipped moment) old new may is h a = holds_appended r source taken events skipped moment old new h a
holds_next r (TableSet source table rows taken) old new may is h a =
    subst (Holds (restored_next r (TableSet source table rows taken))) (sym a) (holds_set r source table rows taken old is.table_count (may table source rows taken refl) h)
holds_next r (Expired table floor moment) old new may is h a = holds_expired r table floor moment old new h a
holds_next r (Committed batch) old new may is h a = subst (Holds (restored_next r (Committed batch))) (sym a) (record { last = h.last; floors = h.floors; live = h.live; rows = h.rows })
holds_next r (Acked upto) old new may is h a = subst (Holds (restored_next r (Acked upto))) (sym a) (record { last = h.last; floors = h.floors; live = h.live; rows = h.rows })

sets_recorded : (K : List Entry) (entry : Entry) → LegalNext K entry → (table : TableId) (source : List ℕ) (rows : List (List Value)) (taken : ℕ) → entry ≡ TableSet source table rows taken → is_recorded_table table.0 ≡ true
sets_recorded K entry may table source rows taken is = (subst (LegalNext K) is may).1

pub keeps_up : KeepsUp
keeps_up K e old new legal may is h a = subst (λ r. Holds r new) (sym (next_is K legal e may)) (holds_next (summary K) e old new (sets_recorded K e may) is h a)

-- by rules 2 the causes are those of the list
pub owed_by_rules : (K : List Entry) (table : ℕ) → rules_of K ≡ 2 → owed_of (schedule_of K).events_expiry (schedule_of K).events_max (moment_of K) (reached_of K table) (live_events K table) ≡ last_of (λ (event : Live). Some (Some event.number)) None (filter (is_owed K table) (live_events K table))
owed_by_rules K table rules =
    λ i. last_of (λ (event : Live). Some (Some event.number)) None (filter (λ (event : Live). is_old K event && (not (sym rules i == 2) || nat_le event.number (reached_of K table)) || is_crowded_out K table event) (live_events K table))

pub values : Values
values K image legal h = record {
  last = h.last;
  floor = λ table is. ap (λ (floors : List ℕ). get_or floors table 0) h.floors ∙ floor_is K legal table;
  live = h.live;
  rows = λ table is. h.rows table is ∙ ap (λ (o : Option (List (List Value))). unwrap_or o []) (set_is K legal table);
  owed = λ table is ticked rules.
      ap (owed_of (schedule_of K).events_expiry (schedule_of K).events_max (moment_of K) (reached_of K table)) (h.live table is)
      ∙ owed_by_rules K table rules
      ∙ sym (ap (λ (b : Bool). cond b (last_of (λ (event : Live). Some (Some event.number)) None (filter (is_owed K table) (live_events K table))) None) ticked);
}
