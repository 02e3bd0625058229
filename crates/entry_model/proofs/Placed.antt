-- A run that is changed in its place, and one that is new.
use Rattle.std.proofs.Common.{◌≡◌, ℕ, zero, suc, ◌+◌, ◌<◌, ◌≤◌, Bool, true, false, cond, List, [], ◌∷◌, ◌++◌, length, map, set, Option, Some, None, refl, sym, ap, ◌∙◌, arith}
use Rattle.std.specs.Prelude.{slice_get, ◌||◌, if◌then◌else◌}
use Rattle.std.specs.List.{list_any, position_from, AllByRecursion}
use Rattle.std.proofs.lemmas.List.Folds.{list_any-append}
use Rattle.pack_rules.specs.declared.schedule.QueryKey.{QueryKey}
use Rattle.pack_rules.specs.Keys.{same_key}
use Rattle.entry_model.specs.declared.restored.Run.{Run}
use Rattle.entry_model.specs.Fits.{IsDistinct}
use Rattle.entry_model.specs.Runs.{changed_run, with_batch}
use Rattle.entry_model.specs.Reserved.{HaveOwnKeys, place_of, has_run}
use Rattle.entry_model.proofs.Changes.{changes, none_changes, put_old, put_new}
use Rattle.entry_model.proofs.Fitting.{map_distinct}
use Rattle.entry_model.proofs.Firsts.{or_false, neither}
use Rattle.entry_model.proofs.Lasts.{same_key_is}
use Rattle.entry_model.proofs.Nexts.{flipped}
use Rattle.entry_model.proofs.Summaries.{same_key-Decides}

module _ (test : Run → Bool) where
  -- what is found stands in the list, and passes
  pub found_within : (from : ℕ) (runs : List Run) (place : ℕ) → position_from test from runs ≡ Some place → (from ≤ place) × (place < from + length runs) × (list_any test runs ≡ true)
  found_within from [] place h = absurd (cc)
  found_within from (run ∷ runs) place h = by_first (test run) h (found_within (from + 1) runs place)
    where
      by_first : (b : Bool) → cond b (Some from) (position_from test (from + 1) runs) ≡ Some place → (position_from test (from + 1) runs ≡ Some place → (from + 1 ≤ place) × (place < from + 1 + length runs) × (list_any test runs ≡ true)) → (from ≤ place) × (place < from + length (run ∷ runs)) × ((b || list_any test runs) ≡ true)
      by_first true e rest =
          let at : from ≡ place = cc in (omega (arith, at), omega (arith, at), refl)
      by_first false e rest =
          let r = rest e in
          let low = r.0 in
          let high = r.1 in (omega (arith, low), omega (arith, high), r.2)

  pub none_found : (from : ℕ) (runs : List Run) → position_from test from runs ≡ None → list_any test runs ≡ false
  none_found from [] h = refl
  none_found from (run ∷ runs) h = by_first (test run) h (none_found (from + 1) runs)
    where
      by_first : (b : Bool) → cond b (Some from) (position_from test (from + 1) runs) ≡ None → (position_from test (from + 1) runs ≡ None → list_any test runs ≡ false) → (b || list_any test runs) ≡ false
      by_first true e rest = absurd (cc)
      by_first false e rest = rest e

module _ (query : QueryKey) (number hi moment : ℕ) where
  abbrev of_query : Run → Bool
  of_query run = same_key run.key query

  abbrev changed : Run → Run
  changed = changes of_query (changed_run number hi moment)

  abbrev fresh : Run
  fresh = record { key = query; number = number; hi = hi; moment = moment; count = 1 }

  -- none of the runs that differ from one of the query is of it
  none_else : (run : Run) (runs : List Run) → same_key run.key query ≡ true → list_any (λ (other : Run). same_key other.key run.key) runs ≡ false → list_any of_query runs ≡ false
  none_else run runs same none =
      sym (ap (λ (k : QueryKey). list_any (λ (other : Run). same_key other.key k) runs) (same_key_is run.key query same)) ∙ none

  in_place : (from k : ℕ) (runs : List Run) (run : Run) → HaveOwnKeys runs → position_from of_query from runs ≡ Some (from + k) → slice_get runs k ≡ Some run → set runs k (changed_run number hi moment run) ≡ map changed runs
  in_place from k [] run own found at = absurd (cc)
  in_place from zero (x ∷ xs) run own found at = by_first (of_query x) refl
    where
      is : x ≡ run
      is = cc

      by_first : (b : Bool) → of_query x ≡ b → changed_run number hi moment run ∷ xs ≡ map changed (x ∷ xs)
      by_first true e =
          let none = none_changes of_query (changed_run number hi moment) xs (none_else x xs e own.0) in
          let here : changed_run number hi moment run ≡ changed x = ap (changed_run number hi moment) (sym is) ∙ sym (ap (λ (b : Bool). cond b (changed_run number hi moment x) x) e) in
          λ i. here i ∷ sym none i
      by_first false e =
          let late = found_within of_query (from + 1) xs (from + 0) (sym (ap (λ (b : Bool). cond b (Some from) (position_from of_query (from + 1) xs)) e) ∙ found) in
          absurd (omega (arith, late.0))
  in_place from (suc k) (x ∷ xs) run own found at = by_first (of_query x) refl (in_place (from + 1) k xs run own.1)
    where
      by_first : (b : Bool) → of_query x ≡ b → (position_from of_query (from + 1) xs ≡ Some (from + 1 + k) → slice_get xs k ≡ Some run → set xs k (changed_run number hi moment run) ≡ map changed xs) → x ∷ set xs k (changed_run number hi moment run) ≡ map changed (x ∷ xs)
      by_first true e rest =
          let here : Some from ≡ Some (from + suc k) = sym (ap (λ (b : Bool). cond b (Some from) (position_from of_query (from + 1) xs)) e) ∙ found in
          let same : from ≡ from + suc k = cc in
          absurd (omega (arith, same))
      by_first false e rest =
          let later : position_from of_query (from + 1) xs ≡ Some (from + 1 + k) = sym (ap (λ (b : Bool). cond b (Some from) (position_from of_query (from + 1) xs)) e) ∙ found ∙ ap (λ (n : ℕ). Some n) (omega arith) in
          let here : x ≡ changed x = sym (ap (λ (b : Bool). cond b (changed_run number hi moment x) x) e) in
          let whole = rest later at in
          λ i. here i ∷ whole i

  -- of different queries' runs, the one at the query's place alone is changed
  pub changed_in_place : (runs : List Run) (place : ℕ) (run : Run) → HaveOwnKeys runs → place_of runs query ≡ Some place → slice_get runs place ≡ Some run → set runs place (changed_run number hi moment run) ≡ with_batch runs query number hi moment
  changed_in_place runs place run own found at =
      let some = (found_within of_query 0 runs place found).2 in
      let whole = in_place 0 place runs run own (found ∙ ap (λ (n : ℕ). Some n) (omega arith)) at in
      put_old of_query (changed_run number hi moment) fresh runs (set runs place (changed_run number hi moment run)) whole some

  key_kept : (b : Bool) (run : Run) → (cond b (changed_run number hi moment run) run).key ≡ run.key
  key_kept true run = refl
  key_kept false run = refl

  units : (runs : List Run) → AllByRecursion (λ (run : Run). Unit {0}) runs
  units [] = tt
  units (run ∷ runs) = (tt, units runs)

  pushed : (runs : List Run) → HaveOwnKeys runs → list_any of_query runs ≡ false → HaveOwnKeys (runs ++ fresh ∷ [])
  pushed [] own none = (refl, tt)
  pushed (x ∷ xs) own none =
      let k = or_false (of_query x) (list_any of_query xs) none in
      let new : same_key query x.key ≡ false = flipped same_key same_key-Decides x.key query false k.0 in
      let like = λ (other : Run). same_key other.key x.key in
      let apart : list_any like (xs ++ fresh ∷ []) ≡ false = list_any-append like xs (fresh ∷ []) ∙ neither (list_any like xs) (same_key query x.key || false) own.0 (neither (same_key query x.key) false new refl) in (
        apart,
        pushed xs own.1 k.1,
      )

  -- the runs after a batch are of different queries too
  pub own_after : (runs : List Run) → HaveOwnKeys runs → HaveOwnKeys (with_batch runs query number hi moment)
  own_after runs own = by_any (list_any of_query runs) refl
    where
      same : Run → Run → Bool
      same s t = same_key s.key t.key

      by_any : (b : Bool) → list_any of_query runs ≡ b → HaveOwnKeys (cond b (map changed runs) (runs ++ fresh ∷ []))
      by_any true e =
          map_distinct same same changed (λ (run : Run). Unit {0}) (λ x y p q h. sym (λ i. same_key (key_kept (of_query y) y i) (key_kept (of_query x) x i)) ∙ h) runs (units runs) own
      by_any false e = pushed runs own e

  pub new_at_end : (runs : List Run) → place_of runs query ≡ None → runs ++ fresh ∷ [] ≡ with_batch runs query number hi moment
  new_at_end runs none =
      let e = none_found of_query 0 runs none in
      sym (ap (λ (b : Bool). cond b (map changed runs) (runs ++ fresh ∷ [])) e)
