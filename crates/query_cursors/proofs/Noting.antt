-- The places of runs after one more batch.
use Rattle.std.proofs.Common.{◌≡◌, ℕ, zero, suc, ◌+◌, Bool, true, false, cond, List, [], ◌∷◌, ◌++◌, length, map, set, Option, Some, None, refl, sym, ap, ◌∙◌, subst, arith}
use Rattle.std.specs.Prelude.{is_some, slice_get, if◌then◌else◌}
use Rattle.std.specs.List.{position_from}
use Rattle.std.specs.Cmp.Lexicographic.{slice_cmp, lists_total}
use Rattle.std.specs.Cmp.{nat_cmp_total}
use Rattle.std.specs.Ordering.{nat_cmp, is_lt, ordering_reverse}
use Rattle.std.specs.declared.cmp.Ordering.{Ordering}
use Rattle.std.specs.declared.cmp.Ordering.TheVariants.{Less, Equal, Greater}
use Rattle.std.proofs.lemmas.List.{length-map, length-append}
use Rattle.pack_rules.specs.declared.schedule.QueryKey.{QueryKey}
use Rattle.pack_rules.specs.declared.schedule.Scheduled.{Scheduled}
use Rattle.pack_rules.specs.Keys.{same_key}
use Rattle.entry_model.specs.declared.restored.Run.{Run}
use Rattle.entry_model.specs.Reserved.{has_run}
use Rattle.entry_model.specs.Runs.{changed_run, with_batch}
use Rattle.pack_rules.specs.ByName.{names_rise}
use Rattle.entry_model.proofs.Lists.{and_true}
use Rattle.entry_model.proofs.Lasts.{same_key_is}
use Rattle.entry_model.proofs.Placed.{found_within, none_found}
use Rattle.entry_model.proofs.Summaries.{same_key-Decides}
use Rattle.query_cursors.specs.Places.{place_of, places_of}

-- a later one of rising names is no earlier one
less_of : (r : Ordering) → is_lt r ≡ true → r ≡ Less
less_of Less h = refl
less_of Equal h = absurd (cc)
less_of Greater h = absurd (cc)

not_less : (name : List ℕ) → slice_cmp nat_cmp name name ≡ Less → true ≡ false
not_less name h =
    let both : Less ≡ Greater = sym h ∙ (lists_total nat_cmp_total).antisymm name name ∙ ap ordering_reverse h in
    ap (λ (r : Ordering). is_lt r) both

pub later_name : (q : Scheduled) (qs : List Scheduled) (place : ℕ) (s : Scheduled) → names_rise (q ∷ qs) ≡ true → slice_get qs place ≡ Some s → slice_cmp nat_cmp q.key.name s.key.name ≡ Less
later_name q [] place s rise at = absurd (cc)
later_name q (x ∷ xs) zero s rise at =
    let e : x ≡ s = cc in
    let h = and_true (is_lt (slice_cmp nat_cmp q.key.name x.key.name)) (names_rise (x ∷ xs)) rise in
    subst (λ (s : Scheduled). slice_cmp nat_cmp q.key.name s.key.name ≡ Less) e (less_of (slice_cmp nat_cmp q.key.name x.key.name) h.0)
later_name q (x ∷ xs) (suc place) s rise at =
    let h = and_true (is_lt (slice_cmp nat_cmp q.key.name x.key.name)) (names_rise (x ∷ xs)) rise in
    (lists_total nat_cmp_total).trans q.key.name x.key.name s.key.name (less_of (slice_cmp nat_cmp q.key.name x.key.name) h.0) (later_name x xs place s h.1 at)

pub rest_rises : (q : Scheduled) (qs : List Scheduled) → names_rise (q ∷ qs) ≡ true → names_rise qs ≡ true
rest_rises q [] rise = refl
rest_rises q (x ∷ xs) rise =
    (and_true (is_lt (slice_cmp nat_cmp q.key.name x.key.name)) (names_rise (x ∷ xs)) rise).1

pub apart : (q s : QueryKey) → slice_cmp nat_cmp q.name s.name ≡ Less → same_key s q ≡ false
apart q s less = by_same (same_key s q) refl
  where
    by_same : (b : Bool) → same_key s q ≡ b → b ≡ false
    by_same false e = refl
    by_same true e =
        let same = same_key_is s q e in
        not_less q.name (ap (λ (k : QueryKey). slice_cmp nat_cmp q.name k.name) (sym same) ∙ less)

pub apart_behind : (q s : QueryKey) → slice_cmp nat_cmp s.name q.name ≡ Less → same_key s q ≡ false
apart_behind q s less = by_same (same_key s q) refl
  where
    by_same : (b : Bool) → same_key s q ≡ b → b ≡ false
    by_same false e = refl
    by_same true e =
        let same = same_key_is s q e in
        not_less s.name (ap (λ (k : QueryKey). slice_cmp nat_cmp s.name k.name) same ∙ less)

-- a query whose run has a place has a run, and one whose run has none has none
pub run_there : (runs : List Run) (query : QueryKey) (place : Option ℕ) → place_of runs query ≡ place → is_some place ≡ true → has_run runs query ≡ true
run_there runs query None at some = absurd (cc)
run_there runs query (Some place) at some = (found_within (λ (run : Run). same_key run.key query) 0 runs place at).2

pub no_run_there : (runs : List Run) (query : QueryKey) → place_of runs query ≡ None → has_run runs query ≡ false
no_run_there runs query at = none_found (λ (run : Run). same_key run.key query) 0 runs at

module _ (query : QueryKey) (number hi moment : ℕ) where
  abbrev changed : Run → Run
  changed run = if same_key run.key query then changed_run number hi moment run else run

  abbrev fresh : Run
  fresh = record { key = query; number = number; hi = hi; moment = moment; count = 1 }

  key_kept : (b : Bool) (run : Run) → (cond b (changed_run number hi moment run) run).key ≡ run.key
  key_kept true run = refl
  key_kept false run = refl

  place_changed : (other : QueryKey) (from : ℕ) (runs : List Run) → position_from (λ (run : Run). same_key run.key other) from (map changed runs) ≡ position_from (λ (run : Run). same_key run.key other) from runs
  place_changed other from [] = refl
  place_changed other from (run ∷ runs) =
      λ i. cond (same_key (key_kept (same_key run.key query) run i) other) (Some from) (place_changed other (from + 1) runs i)

  place_pushed : (other : QueryKey) → same_key query other ≡ false → (from : ℕ) (runs : List Run) → position_from (λ (run : Run). same_key run.key other) from (runs ++ fresh ∷ []) ≡ position_from (λ (run : Run). same_key run.key other) from runs
  place_pushed other differs from [] = ap (λ (b : Bool). cond b (Some from) None) differs
  place_pushed other differs from (run ∷ runs) =
      ap (λ (o : Option ℕ). cond (same_key run.key other) (Some from) o) (place_pushed other differs (from + 1) runs)

  place_fresh : (from : ℕ) (runs : List Run) → has_run runs query ≡ false → position_from (λ (run : Run). same_key run.key query) from (runs ++ fresh ∷ []) ≡ Some (from + length runs)
  place_fresh from [] none =
      ap (λ (b : Bool). cond b (Some from) None) ((same_key-Decides query query).1 refl) ∙ ap (λ (n : ℕ). Some n) (omega arith)
  place_fresh from (run ∷ runs) none =
      let here : same_key run.key query ≡ false = grind arith in
      let rest : has_run runs query ≡ false = grind arith in
      ap (λ (b : Bool). cond b (Some from) (position_from (λ (run : Run). same_key run.key query) (from + 1) (runs ++ fresh ∷ []))) here
      ∙ place_fresh (from + 1) runs rest
      ∙ ap (λ (n : ℕ). Some n) (omega arith)

  -- another query has its run at the same place
  other_place : (runs : List Run) (other : QueryKey) → same_key query other ≡ false → place_of (with_batch runs query number hi moment) other ≡ place_of runs other
  other_place runs other differs = by_any (has_run runs query)
    where
      by_any : (b : Bool) → place_of (cond b (map changed runs) (runs ++ fresh ∷ [])) other ≡ place_of runs other
      by_any true = place_changed other 0 runs
      by_any false = place_pushed other differs 0 runs

  module _ (runs : List Run) where
    abbrev after : Scheduled → Option ℕ
    after scheduled = place_of (with_batch runs query number hi moment) scheduled.key

    abbrev before : Scheduled → Option ℕ
    before scheduled = place_of runs scheduled.key

    -- where the query is no other one's, the others keep their places
    all_keep : (qs : List Scheduled) → ((place : ℕ) (s : Scheduled) → slice_get qs place ≡ Some s → same_key query s.key ≡ false) → map before qs ≡ map after qs
    all_keep [] differ = refl
    all_keep (q ∷ qs) differ =
        λ i. sym (other_place runs q.key (differ 0 q refl)) i ∷ all_keep qs (λ place s at. differ (suc place) s at) i

    kept_from : (qs : List Scheduled) (place : ℕ) (scheduled : Scheduled) → has_run runs query ≡ false → names_rise qs ≡ true → slice_get qs place ≡ Some scheduled → scheduled.key ≡ query → set (map before qs) place (Some (length runs)) ≡ map after qs
    kept_from [] place scheduled none rise at same = absurd (cc)
    kept_from (q ∷ qs) zero scheduled none rise at same =
        let key : q.key ≡ query = (let e : q ≡ scheduled = cc in ap (λ (s : Scheduled). s.key) e ∙ same) in
        let at_end : 0 + length runs ≡ length runs = omega arith in
        let differ : (place : ℕ) (s : Scheduled) → slice_get qs place ≡ Some s → same_key query s.key ≡ false = λ place s found. subst (λ (k : QueryKey). same_key k s.key ≡ false) key (apart_behind s.key q.key (later_name q qs place s rise found)) in
        let here : Some (length runs) ≡ after q = sym (ap (place_of (with_batch runs query number hi moment)) key ∙ ap (λ (b : Bool). place_of (cond b (map changed runs) (runs ++ fresh ∷ [])) query) none ∙ place_fresh 0 runs none ∙ ap (λ (n : ℕ). Some n) at_end) in
        λ i. here i ∷ all_keep qs differ i
    kept_from (q ∷ qs) (suc place) scheduled none rise at same =
        let differs : same_key query q.key ≡ false = subst (λ (k : QueryKey). same_key k q.key ≡ false) same (apart q.key scheduled.key (later_name q qs place scheduled rise at)) in
        let rest = kept_from qs place scheduled none (rest_rises q qs rise) at same in
        λ i. sym (other_place runs q.key differs) i ∷ rest i

    all_changed : (qs : List Scheduled) → has_run runs query ≡ true → map before qs ≡ map after qs
    all_changed [] any = refl
    all_changed (q ∷ qs) any =
        let here : after q ≡ before q = ap (λ (b : Bool). place_of (cond b (map changed runs) (runs ++ fresh ∷ [])) q.key) any ∙ place_changed q.key 0 runs in
        λ i. sym here i ∷ all_changed qs any i

    -- a batch of the query that stands at this place of the schedule
    pub places_kept : (qs : List Scheduled) (place : ℕ) (scheduled : Scheduled) → names_rise qs ≡ true → slice_get qs place ≡ Some scheduled → scheduled.key ≡ query → (if has_run runs query then places_of runs qs else set (places_of runs qs) place (Some (length runs))) ≡ places_of (with_batch runs query number hi moment) qs
    places_kept qs place scheduled rise at same = by_any (has_run runs query) refl
      where
        by_any : (b : Bool) → has_run runs query ≡ b → cond b (map before qs) (set (map before qs) place (Some (length runs))) ≡ map after qs
        by_any true e = all_changed qs e
        by_any false e = kept_from qs place scheduled e rise at same

    -- there is a run more exactly where the query had none
    pub length_noted : length (with_batch runs query number hi moment) ≡ (if has_run runs query then length runs else length runs + 1)
    length_noted = by_any (has_run runs query)
      where
        by_any : (b : Bool) → length (cond b (map changed runs) (runs ++ fresh ∷ [])) ≡ cond b (length runs) (length runs + 1)
        by_any true = length-map runs changed
        by_any false = length-append runs (fresh ∷ [])
