-- A batch takes the room of one commit, and leaves that of each query that is still due.
use Rattle.std.proofs.Common.{◌≡◌, ℕ, zero, suc, ◌+◌, ◌≤◌, Bool, true, false, cond, List, [], ◌∷◌, ◌++◌, length, map, max, Option, Some, None, refl, sym, ap, ◌∙◌, arith}
use Rattle.std.specs.Prelude.{All, filter, find, is_some, not, nat_le, if◌then◌else◌, slice_get, ◌||◌}
use Rattle.std.specs.List.{list_any}
use Rattle.std.proofs.lemmas.Bool.Decides.{nat_tests}
use Rattle.std.proofs.lemmas.List.Elements.{All-nil, All-cons, All-head, All-tail}
use Rattle.osq_value.specs.declared.moment.TheConstants.{LAST_MOMENT}
use Rattle.pack_rules.specs.declared.schedule.QueryKey.{QueryKey}
use Rattle.pack_rules.specs.declared.schedule.Scheduled.{Scheduled}
use Rattle.pack_rules.specs.Keys.{same_key}
use Rattle.entry_model.specs.declared.restored.Run.{Run}
use Rattle.entry_model.specs.Runs.{changed_run, with_batch}
use Rattle.pack_rules.specs.Sound.{IsRunnable}
use Rattle.entry_model.proofs.Lasts.{same_key_is}
use Rattle.entry_model.proofs.Summaries.{same_key-Decides}
use Rattle.query_cursors.specs.Due.{run_of, is_due, is_due_by}
use Rattle.session_state.specs.Kept.{IsRun}
use Rattle.session_state.specs.Rooms.{all_due, is_new, all_new}

few : {X : Type 0} (p : X → Bool) (xs : List X) → length (filter p xs) ≤ length xs
few p [] = omega arith
few {X} p (x ∷ xs) = by_first (p x) (few p xs)
  where
    by_first : (b : Bool) → length (filter p xs) ≤ length xs → length (cond b (x ∷ filter p xs) (filter p xs)) ≤ length (x ∷ xs)
    by_first true h = omega (arith, h)
    by_first false h = omega (arith, h)

-- no more are due than there are queries
pub few_due : (runs : List Run) (moment room : ℕ) (queries : List Scheduled) → length (all_due runs moment queries) ≤ max room (length queries)
few_due runs moment room queries =
    let h = few (is_due_by runs moment) queries in omega (arith, h)

pub few_new : (runs : List Run) (room : ℕ) (queries : List Scheduled) → length (all_new runs queries) ≤ max room (length queries)
few_new runs room queries = let h = few (is_new runs) queries in omega (arith, h)

-- where what passes q passes p, no more pass q
fewer : {X : Type 0} (P : X → Type 0) (p q : X → Bool) → ((x : X) → P x → q x ≡ true → p x ≡ true) → (xs : List X) → All P xs → length (filter q xs) ≤ length (filter p xs)
fewer P p q keeps [] known = omega arith
fewer {X} P p q keeps (x ∷ xs) known =
    by_tests (p x) (q x) (keeps x (All-head P x xs known)) (fewer P p q keeps xs (All-tail P x xs known))
  where
    by_tests : (a b : Bool) → (b ≡ true → a ≡ true) → length (filter q xs) ≤ length (filter p xs) → length (cond b (x ∷ filter q xs) (filter q xs)) ≤ length (cond a (x ∷ filter p xs) (filter p xs))
    by_tests true true k h = omega (arith, h)
    by_tests true false k h = omega (arith, h)
    by_tests false true k h = absurd (let e = k refl in cc)
    by_tests false false k h = h

-- and where one passes p alone, fewer do
one_fewer : {X : Type 0} (P : X → Type 0) (p q : X → Bool) → ((x : X) → P x → q x ≡ true → p x ≡ true) → (x : X) → p x ≡ true → q x ≡ false → (xs : List X) (place : ℕ) → slice_get xs place ≡ Some x → All P xs → length (filter q xs) + 1 ≤ length (filter p xs)
one_fewer P p q keeps x was is [] place at known = absurd (cc)
one_fewer {X} P p q keeps x was is (y ∷ ys) zero at known =
    let e : y ≡ x = cc in
    by_here (p y) (q y) (ap p e ∙ was) (ap q e ∙ is) (fewer P p q keeps ys (All-tail P y ys known))
  where
    by_here : (a b : Bool) → a ≡ true → b ≡ false → length (filter q ys) ≤ length (filter p ys) → length (cond b (y ∷ filter q ys) (filter q ys)) + 1 ≤ length (cond a (y ∷ filter p ys) (filter p ys))
    by_here true false s t h = omega (arith, h)
    by_here true true s t h = absurd (cc)
    by_here false true s t h = absurd (cc)
    by_here false false s t h = absurd (cc)
one_fewer {X} P p q keeps x was is (y ∷ ys) (suc place) at known =
    by_tests (p y) (q y) (keeps y (All-head P y ys known)) (one_fewer P p q keeps x was is ys place at (All-tail P y ys known))
  where
    by_tests : (a b : Bool) → (b ≡ true → a ≡ true) → length (filter q ys) + 1 ≤ length (filter p ys) → length (cond b (y ∷ filter q ys) (filter q ys)) + 1 ≤ length (cond a (y ∷ filter p ys) (filter p ys))
    by_tests true true k h = omega (arith, h)
    by_tests true false k h = omega (arith, h)
    by_tests false true k h = absurd (let e = k refl in cc)
    by_tests false false k h = h

pub any_found : {X : Type 0} (p : X → Bool) (xs : List X) → list_any p xs ≡ is_some (find p xs)
any_found p [] = refl
any_found {X} p (x ∷ xs) = by_first (p x) (any_found p xs)
  where
    by_first : (b : Bool) → list_any p xs ≡ is_some (find p xs) → (b || list_any p xs) ≡ is_some (cond b (Some x) (find p xs))
    by_first true h = refl
    by_first false h = h

-- a run with this number and moment
pub record IsNoted (number moment : ℕ) (found : Option Run) : Type 0 where
  pub run : Run
  pub is : found ≡ Some run
  pub number_is : run.number ≡ number
  pub moment_is : run.moment ≡ moment

key_itself : (query : QueryKey) → same_key query query ≡ true
key_itself query = (same_key-Decides query query).1 refl

module _ (query : QueryKey) (number hi moment : ℕ) where
  abbrev of_query : Run → Bool
  of_query run = same_key run.key query

  abbrev changed : Run → Run
  changed run = if same_key run.key query then changed_run number hi moment run else run

  abbrev fresh : Run
  fresh = record { key = query; number = number; hi = hi; moment = moment; count = 1 }

  find_changed : (runs : List Run) → list_any of_query runs ≡ true → IsNoted number moment (find of_query (map changed runs))
  find_changed [] h = absurd (cc)
  find_changed (run ∷ runs) h = by_key (same_key run.key query) refl (find_changed runs)
    where
      by_key : (b : Bool) → same_key run.key query ≡ b → (list_any of_query runs ≡ true → IsNoted number moment (find of_query (map changed runs))) → IsNoted number moment (find of_query (map changed (run ∷ runs)))
      by_key true e rest =
          record {
            run = changed_run number hi moment run;
            is = ap (λ (b : Bool). cond (same_key (cond b (changed_run number hi moment run) run).key query) (Some (cond b (changed_run number hi moment run) run)) (find of_query (map changed runs))) e ∙ ap (λ (b : Bool). cond b (Some (changed_run number hi moment run)) (find of_query (map changed runs))) e;
            number_is = refl;
            moment_is = refl;
          }
      by_key false e rest =
          let noted = rest (sym (ap (λ (b : Bool). b || list_any of_query runs) e) ∙ h) in
          record {
            run = noted.run;
            is = ap (λ (b : Bool). cond (same_key (cond b (changed_run number hi moment run) run).key query) (Some (cond b (changed_run number hi moment run) run)) (find of_query (map changed runs))) e ∙ ap (λ (b : Bool). cond b (Some run) (find of_query (map changed runs))) e ∙ noted.is;
            number_is = noted.number_is;
            moment_is = noted.moment_is;
          }

  find_fresh : (runs : List Run) → list_any of_query runs ≡ false → find of_query (runs ++ fresh ∷ []) ≡ Some fresh
  find_fresh [] h = ap (λ (b : Bool). cond b (Some fresh) None) (key_itself query)
  find_fresh (run ∷ runs) h =
      let here : of_query run ≡ false = grind arith in
      let rest : list_any of_query runs ≡ false = grind arith in
      ap (λ (b : Bool). cond b (Some run) (find of_query (runs ++ fresh ∷ []))) here ∙ find_fresh runs rest

  -- the run of the query is the batch's
  pub noted_run : (runs : List Run) → IsNoted number moment (run_of (with_batch runs query number hi moment) query)
  noted_run runs = by_any (list_any of_query runs) refl
    where
      by_any : (b : Bool) → list_any of_query runs ≡ b → IsNoted number moment (find of_query (cond b (map changed runs) (runs ++ fresh ∷ [])))
      by_any true e = find_changed runs e
      by_any false e = record { run = fresh; is = find_fresh runs e; number_is = refl; moment_is = refl }

  module _ (other : QueryKey) (differs : same_key query other ≡ false) where
    abbrev of_other : Run → Bool
    of_other run = same_key run.key other

    find_kept : (runs : List Run) → find of_other (map changed runs) ≡ find of_other runs
    find_kept [] = refl
    find_kept (run ∷ runs) = by_key (same_key run.key query) refl (find_kept runs)
      where
        by_key : (b : Bool) → same_key run.key query ≡ b → find of_other (map changed runs) ≡ find of_other runs → find of_other (map changed (run ∷ runs)) ≡ find of_other (run ∷ runs)
        by_key false e rest =
            ap (λ (b : Bool). cond (same_key (cond b (changed_run number hi moment run) run).key other) (Some (cond b (changed_run number hi moment run) run)) (find of_other (map changed runs))) e ∙ ap (λ (o : Option Run). cond (of_other run) (Some run) o) rest
        by_key true e rest =
            let no : of_other run ≡ false = ap (λ (k : QueryKey). same_key k other) (same_key_is run.key query e) ∙ differs in
            ap (λ (b : Bool). cond (same_key (cond b (changed_run number hi moment run) run).key other) (Some (cond b (changed_run number hi moment run) run)) (find of_other (map changed runs))) e
            ∙ ap (λ (b : Bool). cond b (Some (changed_run number hi moment run)) (find of_other (map changed runs))) no
            ∙ rest
            ∙ sym (ap (λ (b : Bool). cond b (Some run) (find of_other runs)) no)

    find_past : (runs : List Run) → find of_other (runs ++ fresh ∷ []) ≡ find of_other runs
    find_past [] = ap (λ (b : Bool). cond b (Some fresh) None) differs
    find_past (run ∷ runs) = ap (λ (o : Option Run). cond (of_other run) (Some run) o) (find_past runs)

    -- the run of another query is as before
    pub other_run : (runs : List Run) → run_of (with_batch runs query number hi moment) other ≡ run_of runs other
    other_run runs = by_any (list_any of_query runs)
      where
        by_any : (b : Bool) → find of_other (cond b (map changed runs) (runs ++ fresh ∷ [])) ≡ find of_other runs
        by_any true = find_kept runs
        by_any false = find_past runs

  -- a query of the batch's key is not due at its moment
  pub not_due : (runs : List Run) (scheduled : Scheduled) → query ≡ scheduled.key → 1 ≤ scheduled.interval → is_due_by (with_batch runs query number hi moment) moment scheduled ≡ false
  not_due runs scheduled same least =
      let noted = noted_run runs in
      let at = noted.moment_is in
      let late : nat_le (noted.run.moment + scheduled.interval) moment ≡ false = grind (arith, nat_tests, at, least) in
      ap (λ (k : QueryKey). is_due scheduled (run_of (with_batch runs query number hi moment) k) moment) (sym same) ∙ ap (λ (o : Option Run). is_due scheduled o moment) noted.is ∙ late

  pub was_due : (runs : List Run) (scheduled : Scheduled) → 1 ≤ scheduled.interval → is_due_by (with_batch runs query number hi moment) moment scheduled ≡ true → is_due_by runs moment scheduled ≡ true
  was_due runs scheduled least h = by_key (same_key query scheduled.key) refl
    where
      by_key : (b : Bool) → same_key query scheduled.key ≡ b → is_due_by runs moment scheduled ≡ true
      by_key true e =
          absurd (let k = not_due runs scheduled (same_key_is query scheduled.key e) least in cc)
      by_key false e =
          sym (ap (λ (o : Option Run). is_due scheduled o moment) (other_run scheduled.key e runs)) ∙ h

  not_new : (runs : List Run) (scheduled : Scheduled) → query ≡ scheduled.key → is_new (with_batch runs query number hi moment) scheduled ≡ false
  not_new runs scheduled same =
      let noted = noted_run runs in
      ap (λ (k : QueryKey). not (is_some (run_of (with_batch runs query number hi moment) k))) (sym same) ∙ ap (λ (o : Option Run). not (is_some o)) noted.is

  was_new : (runs : List Run) (scheduled : Scheduled) → is_new (with_batch runs query number hi moment) scheduled ≡ true → is_new runs scheduled ≡ true
  was_new runs scheduled h = by_key (same_key query scheduled.key) refl
    where
      by_key : (b : Bool) → same_key query scheduled.key ≡ b → is_new runs scheduled ≡ true
      by_key true e = absurd (let k = not_new runs scheduled (same_key_is query scheduled.key e) in cc)
      by_key false e =
          sym (ap (λ (o : Option Run). not (is_some o)) (other_run scheduled.key e runs)) ∙ h

  module _ (runs : List Run) (queries : List Scheduled) (runnable : All IsRunnable queries) where
    module _ (place : ℕ) (scheduled : Scheduled) (stands : slice_get queries place ≡ Some scheduled) (same : scheduled.key ≡ query) where
      pub fewer_due : 1 ≤ scheduled.interval → is_due_by runs moment scheduled ≡ true → length (all_due (with_batch runs query number hi moment) moment queries) + 1 ≤ length (all_due runs moment queries)
      fewer_due least due =
          one_fewer IsRunnable (is_due_by runs moment) (is_due_by (with_batch runs query number hi moment) moment) (λ (x : Scheduled) (r : IsRunnable x). was_due runs x r.at_least) scheduled due (not_due runs scheduled (sym same) least) queries place stands runnable

      pub fewer_new : is_new runs scheduled ≡ true → length (all_new (with_batch runs query number hi moment) queries) + 1 ≤ length (all_new runs queries)
      fewer_new new =
          one_fewer IsRunnable (is_new runs) (is_new (with_batch runs query number hi moment)) (λ (x : Scheduled) (r : IsRunnable x). was_new runs x) scheduled new (not_new runs scheduled (sym same)) queries place stands runnable

    pub no_more_new : length (all_new (with_batch runs query number hi moment) queries) ≤ length (all_new runs queries)
    no_more_new =
        fewer IsRunnable (is_new runs) (is_new (with_batch runs query number hi moment)) (λ (x : Scheduled) (r : IsRunnable x). was_new runs x) queries runnable

  -- what is known of the runs after a batch
  pub known_after : (batches : ℕ) (runs : List Run) → number ≤ batches + 1 → moment ≤ LAST_MOMENT → All (IsRun batches) runs → All (IsRun (batches + 1)) (with_batch runs query number hi moment)
  known_after batches runs next past known = by_any (list_any of_query runs)
    where
      more : (run : Run) → IsRun batches run → IsRun (batches + 1) run
      more run is =
          let most = is.most in
          let given = is.given in
          record { some = is.some; most = omega (arith, most); given = omega (arith, given); past = is.past }

      changed_known : (run : Run) → IsRun batches run → IsRun (batches + 1) (changed run)
      changed_known run is = by_key (same_key run.key query)
        where
          by_key : (b : Bool) → IsRun (batches + 1) (cond b (changed_run number hi moment run) run)
          by_key true =
              let most = is.most in
              record { some = omega arith; most = omega (arith, most); given = next; past = past }
          by_key false = more run is

      all_changed : (rs : List Run) → All (IsRun batches) rs → All (IsRun (batches + 1)) (map changed rs)
      all_changed [] all = All-nil (IsRun (batches + 1))
      all_changed (run ∷ rs) all =
          All-cons (IsRun (batches + 1)) (changed run) (map changed rs) (changed_known run (All-head (IsRun batches) run rs all)) (all_changed rs (All-tail (IsRun batches) run rs all))

      all_pushed : (rs : List Run) → All (IsRun batches) rs → All (IsRun (batches + 1)) (rs ++ fresh ∷ [])
      all_pushed [] all =
          All-cons (IsRun (batches + 1)) fresh [] (record { some = omega arith; most = omega arith; given = next; past = past }) (All-nil (IsRun (batches + 1)))
      all_pushed (run ∷ rs) all =
          All-cons (IsRun (batches + 1)) run (rs ++ fresh ∷ []) (more run (All-head (IsRun batches) run rs all)) (all_pushed rs (All-tail (IsRun batches) run rs all))

      by_any : (b : Bool) → All (IsRun (batches + 1)) (cond b (map changed runs) (runs ++ fresh ∷ []))
      by_any true = all_changed runs known
      by_any false = all_pushed runs known
