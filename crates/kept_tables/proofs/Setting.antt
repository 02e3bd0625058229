-- Recorded tables behind the statements that set one.
use Rattle.std.proofs.Common.{◌≡◌, ℕ, Bool, true, false, cond, List, [], ◌∷◌, ◌++◌, map, refl, sym, subst, ap, ap₂, ◌∙◌, arith}
use Rattle.std.specs.Prelude.{filter, filter_map, flat_map, not, ◌||◌, ◌==◌, if◌then◌else◌, Option, Some, None}
use Rattle.std.specs.List.{AllByRecursion, list_any, cons_option}
use Rattle.std.proofs.lemmas.Bool.Decides.{nat_tests}
use Rattle.std.proofs.lemmas.List.{append-nil}
use Rattle.std.proofs.lemmas.List.Elements.{filter-append}
use Rattle.std.proofs.lemmas.List.Folds.{flat_map-map}
use Rattle.osq_value.specs.declared.value.Value.{Value}
use Rattle.batch_frames.specs.Texts.{IsHeldValue}
use Rattle.entry_model.specs.declared.restored.SetTable.{SetTable}
use Rattle.entry_model.specs.Next.{rows_at}
use Rattle.entry_model.specs.Summary.{set_table, recorded_tables}
use Rattle.entry_model.specs.Views.{is_recorded_table}
use Rattle.entry_model.proofs.Summaries.{look}
use Rattle.kept_tables.specs.Edits.{is_full, set_groups}
use Rattle.kept_tables.specs.Groups.{groups, joined}
use Rattle.kept_tables.specs.Loads.{rows_from, rows_in, tables_in}
use Rattle.kept_tables.specs.Rows.{HoldsRows, IsSetPart}
use Rattle.kept_tables.proofs.Cutting.{groups_join, all_both, all_groups_hold, all_kept, all_mapped, all_weaker, filter_turned, filter_all, filter_none, filter_passed}

abbrev own_sets : ℕ → List SetTable → List SetTable
own_sets table parts = filter (λ (part : SetTable). part.table.0 == table) parts

abbrev all_rows : List SetTable → List (List Value)
all_rows parts = flat_map (λ (part : SetTable). part.rows) parts

abbrev some_rows : List SetTable → Option (List (List Value))
some_rows [] = None
some_rows (part ∷ parts) = Some (all_rows (part ∷ parts))

rows_are : (table : ℕ) (parts : List SetTable) → flat_map (rows_from table) parts ≡ all_rows (own_sets table parts)
rows_are table [] = refl
rows_are table (part ∷ parts) = by (part.table.0 == table) (rows_are table parts)
  where
    by : (b : Bool) → flat_map (rows_from table) parts ≡ all_rows (own_sets table parts) → cond b part.rows [] ++ flat_map (rows_from table) parts ≡ all_rows (cond b (part ∷ own_sets table parts) (own_sets table parts))
    by true rest = ap (λ (rows : List (List Value)). part.rows ++ rows) rest
    by false rest = rest

-- the rows of a table are those of its own parts
own_rows : (table : ℕ) (parts : List SetTable) → rows_in table parts ≡ some_rows (own_sets table parts)
own_rows table [] = refl
own_rows table (part ∷ parts) = by (part.table.0 == table) (rows_are table parts) (own_rows table parts)
  where
    by : (b : Bool) → flat_map (rows_from table) parts ≡ all_rows (own_sets table parts) → rows_in table parts ≡ some_rows (own_sets table parts)
        → cond (b || list_any (λ (p : SetTable). p.table.0 == table) parts) (Some (cond b part.rows [] ++ flat_map (rows_from table) parts)) None ≡ some_rows (cond b (part ∷ own_sets table parts) (own_sets table parts))
    by true rows rest = ap (λ (rows : List (List Value)). Some (part.rows ++ rows)) rows
    by false rows rest = rest

abbrev pub set_part : ℕ → List (List Value) → SetTable
set_part table rows = record { table = record { 0 = table }; rows = rows }

set_joined : (rows : List (List Value)) → joined (set_groups rows) ≡ rows
set_joined [] = refl
set_joined (row ∷ rows) = groups_join is_full (row ∷ rows)

rows_of_groups : (table : ℕ) (gs : List (List (List Value))) → all_rows (map (set_part table) gs) ≡ joined gs
rows_of_groups table gs = flat_map-map (λ (part : SetTable). part.rows) (set_part table) gs

not_none : (row : List Value) (rows : List (List Value)) → ◌≡◌ {A = List (List Value)} [] (row ∷ rows) → ⊥
not_none row rows e = cc

some_groups : (table : ℕ) (row : List Value) (rows : List (List Value)) (gs : List (List (List Value))) → joined gs ≡ row ∷ rows → some_rows (map (set_part table) gs) ≡ Some (row ∷ rows)
some_groups table row rows [] is = absurd (not_none row rows is)
some_groups table row rows (g ∷ gs) is = ap (λ (rs : List (List Value)). Some rs) (rows_of_groups table (g ∷ gs) ∙ is)

all_set : (table : ℕ) (rows : List (List Value)) → some_rows (map (set_part table) (set_groups rows)) ≡ Some rows
all_set table [] = refl
all_set table (row ∷ rows) = some_groups table row rows (groups is_full (row ∷ rows)) (groups_join is_full (row ∷ rows))

all_so : {X : Type 0} (P : Type 0) → P → (xs : List X) → AllByRecursion (λ (x : X). P) xs
all_so P h [] = tt
all_so P h (x ∷ xs) = (h, all_so P h xs)

module _ (table : ℕ) (set : List SetTable) (rows : List (List Value)) where
  abbrev is_other : SetTable → Bool
  is_other part = not (part.table.0 == table)

  abbrev pub set_after : List SetTable
  set_after = filter is_other set ++ map (set_part table) (set_groups rows)

  other_now : (t n : ℕ) → (table == t) ≡ true → not (n == table) ≡ true → (n == t) ≡ false
  other_now t n is other = grind (arith, nat_tests, is, other)

  same_now : (t n : ℕ) → (table == t) ≡ false → (n == t) ≡ true → not (n == table) ≡ true
  same_now t n is own = grind (arith, nat_tests, is, own)

  rows_now : (t : ℕ) (b : Bool) → (table == t) ≡ b → rows_in t set_after ≡ (if b then Some rows else rows_in t set)
  rows_now t true is =
      let left = filter_none (λ (p : SetTable). p.table.0 == t) (filter is_other set) (all_weaker (λ (p : SetTable). is_other p ≡ true) (λ (p : SetTable). (p.table.0 == t) ≡ false) (λ p other. other_now t p.table.0 is other) (filter is_other set) (filter_passed is_other set)) in
      let new = filter_all (λ (p : SetTable). p.table.0 == t) (map (set_part table) (set_groups rows)) (all_mapped (λ (p : SetTable). (p.table.0 == t) ≡ true) (set_part table) (set_groups rows) (all_so ((table == t) ≡ true) is (set_groups rows))) in
      own_rows t set_after
      ∙ ap some_rows (filter-append (λ (p : SetTable). p.table.0 == t) (filter is_other set) (map (set_part table) (set_groups rows)) ∙ ap₂ (λ (ps qs : List SetTable). ps ++ qs) left new)
      ∙ all_set table rows
  rows_now t false is =
      let left = filter_turned (λ (p : SetTable). p.table.0 == t) is_other set
      ∙ filter_all is_other (own_sets t set) (all_weaker (λ (p : SetTable). (p.table.0 == t) ≡ true) (λ (p : SetTable). is_other p ≡ true) (λ p own. same_now t p.table.0 is own) (own_sets t set) (filter_passed (λ (p : SetTable). p.table.0 == t) set)) in
      let new = filter_none (λ (p : SetTable). p.table.0 == t) (map (set_part table) (set_groups rows)) (all_mapped (λ (p : SetTable). (p.table.0 == t) ≡ false) (set_part table) (set_groups rows) (all_so ((table == t) ≡ false) is (set_groups rows))) in
      own_rows t set_after
      ∙ ap some_rows (filter-append (λ (p : SetTable). p.table.0 == t) (filter is_other set) (map (set_part table) (set_groups rows)) ∙ ap₂ (λ (ps qs : List SetTable). ps ++ qs) left new ∙ append-nil (own_sets t set))
      ∙ sym (own_rows t set)

  module _ (tables : List SetTable) (same : tables_in set ≡ tables) where
    before : (t : ℕ) → list_any (λ (u : ℕ). u == t) recorded_tables ≡ true → rows_at tables t ≡ rows_in t set
    before t recorded =
        ap (λ (ts : List SetTable). rows_at ts t) (sym same) ∙ look (λ (u : ℕ). rows_in u set) t recorded_tables ∙ ap (λ (b : Bool). cond b (rows_in t set) None) recorded

    choose : (b : Bool) (o p : Option (List (List Value))) → o ≡ p → (if b then Some rows else o) ≡ (if b then Some rows else p)
    choose b o p e = ap (λ (o : Option (List (List Value))). if b then Some rows else o) e

    now : (t : ℕ) → list_any (λ (u : ℕ). u == t) recorded_tables ≡ true → rows_in t set_after ≡ (if table == t then Some rows else rows_at tables t)
    now t recorded = rows_now t (table == t) refl ∙ choose (table == t) (rows_in t set) (rows_at tables t) (sym (before t recorded))

    each : (F G : ℕ → Option (List (List Value))) (ts : List ℕ) → AllByRecursion (λ (t : ℕ). F t ≡ G t) ts → filter_map (λ (t : ℕ). set_table t (F t)) ts ≡ filter_map (λ (t : ℕ). set_table t (G t)) ts
    each F G [] h = refl
    each F G (t ∷ ts) h = ap₂ (λ (o : Option SetTable) (rest : List SetTable). cons_option o rest) (ap (set_table t) h.0) (each F G ts h.1)

    pub tables_now : tables_in set_after ≡ filter_map (λ (t : ℕ). set_table t (if table == t then Some rows else rows_at tables t)) recorded_tables
    tables_now =
        each (λ (t : ℕ). rows_in t set_after) (λ (t : ℕ). if table == t then Some rows else rows_at tables t) recorded_tables
        (now 3 refl, (now 4 refl, (now 5 refl, (now 6 refl, (now 7 refl, (now 8 refl, (now 9 refl, (now 10 refl, (now 11 refl, tt)))))))))

  each_set : is_recorded_table table ≡ true → (gs : List (List (List Value))) → AllByRecursion HoldsRows gs → AllByRecursion IsSetPart (map (set_part table) gs)
  each_set recorded [] h = tt
  each_set recorded (g ∷ gs) h = (record { recorded = recorded; rows = h.0 }, each_set recorded gs h.1)

  pub held_now : is_recorded_table table ≡ true → HoldsRows rows → AllByRecursion IsSetPart set → AllByRecursion IsSetPart set_after
  held_now recorded holds held =
      all_both IsSetPart (filter is_other set) (map (set_part table) (set_groups rows)) (all_kept IsSetPart is_other set held)
      (each_set recorded (set_groups rows) (all_groups_hold (λ (row : List Value). AllByRecursion IsHeldValue row) (set_groups rows) (subst HoldsRows (sym (set_joined rows)) holds)))
