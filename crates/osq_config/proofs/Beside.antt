-- A number of queries that stands for those that a configuration holds.
use Rattle.std.proofs.Common.{◌≡◌, ℕ, ◌+◌, ◌≤◌, ◌<◌, Bool, true, false, List, [], length, refl, sym, ap, ◌∙◌, subst, arith, codes, Option, Some, None, cond}
use Rattle.std.specs.Prelude.{nat_lt, Result, Ok, Err}
use Rattle.std.specs.Option.{option_or}
use Rattle.std.proofs.lemmas.Bool.{ltb-true, ltb-false, lt-ltb}
use Rattle.serde_json.specs.Data.{Data}
use Rattle.serde_json.specs.Find.{get}
use Rattle.osq_config.specs.declared.config.Config.{Config}
use Rattle.osq_config.specs.declared.config.Pack.{Pack}
use Rattle.osq_config.specs.declared.error.ConfigError.{ConfigError}
use Rattle.osq_config.specs.declared.error.ConfigError.TheVariants.{NotJson, WrongShape, OutOfRange, TooManyQueries, NoMemory}
use Rattle.osq_config.specs.Counts.{fault_of_count, query_count}
use Rattle.osq_config.specs.Faults.{fault_of}
use Rattle.osq_config.specs.Files.{fault_beside, fault_of_file, file_pack}
use Rattle.osq_config.specs.Kinds.{pack_kind}
use Rattle.osq_config.specs.Reads.{Answers}
use Rattle.osq_config.specs.Values.{entries_in}

over : (count : ℕ) → 10000 < count → fault_of_count count ≡ Some TooManyQueries
over count more = ap (λ t. cond t (Some TooManyQueries) None) (lt-ltb 10000 count more)

same_count : (count total added : ℕ) → (total ≤ 10000 → count ≡ total) → nat_lt 10000 count ≡ nat_lt 10000 total → fault_of_count (count + added) ≡ fault_of_count (total + added)
same_count count total added exact same = by (nat_lt 10000 total) refl where
  by : (t : Bool) → nat_lt 10000 total ≡ t → fault_of_count (count + added) ≡ fault_of_count (total + added)
  by false is = ap (λ (n : ℕ). fault_of_count (n + added)) (exact (ltb-false 10000 total is))
  by true is =
      let total_over = ltb-true 10000 total is in
      let count_over = ltb-true 10000 count (same ∙ is) in
      over (count + added) (omega arith) ∙ sym (over (total + added) (omega arith))

same_beside : (count total : ℕ) → (total ≤ 10000 → count ≡ total) → nat_lt 10000 count ≡ nat_lt 10000 total → (d : Data) → fault_beside count d ≡ fault_beside total d
unfolding fault_beside
same_beside count total exact same d =
    ap (option_or (fault_of pack_kind [] d)) (same_count count total (length (entries_in (get (codes "queries") d))) exact same)

-- what is answered beside that number is what the configuration answers
pub answers_beside : (count : ℕ) (config : Config) → (query_count config.schedule config.packs ≤ 10000 → count ≡ query_count config.schedule config.packs)
    → nat_lt 10000 count ≡ nat_lt 10000 (query_count config.schedule config.packs) → (document : List ℕ) (read : Result Pack ConfigError)
    → Answers (fault_beside count) file_pack document read → Answers (fault_of_file config) file_pack document read
answers_beside count config exact same document read answer =
    subst (λ (fault : Data → Option ConfigError). Answers fault file_pack document read) (λ i d. same_beside count (query_count config.schedule config.packs) exact same d i) answer

-- the same fault, whatever a value without one would be
pub refused_alike : {X Y : Type 0} → (fault : Data → Option ConfigError) (one : Data → X) (other : Data → Y) (document : List ℕ) (error : ConfigError) → Answers fault one document (Err error) → Answers fault other document (Err error)
refused_alike fault one other document NotJson answer = answer
refused_alike fault one other document (WrongShape key) answer = answer
refused_alike fault one other document (OutOfRange key) answer = answer
refused_alike fault one other document TooManyQueries answer = answer
refused_alike fault one other document NoMemory answer = answer
