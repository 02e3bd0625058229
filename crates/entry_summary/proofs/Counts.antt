-- How many batches a query of a list has.
use Rattle.std.proofs.Common.{◌≡◌, ℕ, ◌≤◌, Bool, List, [], ◌∷◌, length, map, refl, sym, subst, arith}
use Rattle.std.specs.Prelude.{All, filter, not}
use Rattle.std.specs.List.{AllByRecursion}
use Rattle.std.proofs.lemmas.List.Elements.{All-from_recursion}
use Rattle.std.proofs.lemmas.List.Filters.{length-filter_both}
use Rattle.pack_rules.specs.declared.schedule.QueryKey.{QueryKey}
use Rattle.entry_model.specs.declared.entry.Batch.{Batch}
use Rattle.entry_model.specs.declared.entry.Entry.{Entry}
use Rattle.entry_model.specs.declared.restored.Run.{Run}
use Rattle.entry_model.specs.declared.restored.Restored.{Restored}
use Rattle.entry_model.specs.Values.{same_key, commits, batches_of}
use Rattle.entry_model.specs.Summary.{run_from, queries}
use Rattle.entry_summary.specs.Under.{summary_under}

filter_shorter : {X : Type 0} (p : X → Bool) (xs : List X) → length (filter p xs) ≤ length xs
filter_shorter {X} p xs = omega (arith, length-filter_both p (λ (x : X). not (p x)) (λ x. refl) xs)

-- no query has more batches than there are
pub counts_within : (floor : ℕ → ℕ) (K : List Entry) (r : Restored) → r ≡ summary_under floor K → All (λ (run : Run). run.count ≤ r.batches) r.runs
counts_within floor K r is = subst (λ (r : Restored). All (λ (run : Run). run.count ≤ r.batches) r.runs) (sym is) (All-from_recursion (λ (run : Run). run.count ≤ length (commits K)) (map (λ (query : QueryKey). run_from query (batches_of K query)) (queries K)) (each (queries K)))
  where
    each : (qs : List QueryKey) → AllByRecursion (λ (run : Run). run.count ≤ length (commits K)) (map (λ (query : QueryKey). run_from query (batches_of K query)) qs)
    each [] = tt
    each (q ∷ qs) = (filter_shorter (λ (batch : Batch). same_key batch.query q) (commits K), each qs)
