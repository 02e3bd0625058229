-- What is read lies between its bounds.
use Rattle.std.proofs.Common.{◌≡◌, ℕ, ◌+◌, ◌≤◌, Bool, true, false, List, [], ◌∷◌, length, refl, sym, subst, arith, codes, bytes_eq, Option, Some, None, cond}
use Rattle.std.specs.Prelude.{◌&&◌, All, nat_le, nat_lt, option_and_then, unwrap_or, IfOk, Result, Ok, Err, ℤ, pos, negsuc}
use Rattle.std.specs.Option.{option_or, option_map_or}
use Rattle.std.proofs.lemmas.Bool.{leb-true, ltb-false, and_parts}
use Rattle.std.proofs.lemmas.List.Elements.{All-nil, All-cons, All-head, All-tail}
use Rattle.std.proofs.lemmas.List.Sums.{sum_by-cons}
use Rattle.serde_json.specs.Data.{Data, Members, no_members, member}
use Rattle.serde_json.specs.Find.{get, as_str, as_object}
use Rattle.osq_config.specs.declared.config.Config.{Config}
use Rattle.osq_config.specs.declared.config.Pack.{Pack}
use Rattle.osq_config.specs.declared.error.ConfigError.{ConfigError}
use Rattle.osq_config.specs.declared.error.ConfigError.TheVariants.{TooManyQueries}
use Rattle.osq_config.specs.Bounds.{IsFromTo, IsBoundedEntry, IsBoundedPack, IsBounded}
use Rattle.osq_config.specs.Counts.{packed_count, query_count, fault_of_count, fault_of_config}
use Rattle.osq_config.specs.Faults.{fault_of, number_of, within}
use Rattle.osq_config.specs.Files.{file_pack, filled, left_out, refilled, fault_beside, fault_of_file}
use Rattle.osq_config.specs.Kinds.{config_kind, pack_kind}
use Rattle.osq_config.specs.Reads.{Answers}
use Rattle.osq_config.specs.Values.{number_in, entry_of, entries_of, entries_in, pack_with, pack_by_path, pack_of, packs_of, packs_in, config_of}

-- a number between its bounds, or the one that stands for it
chosen_bounded : (least most default : ℕ) → IsFromTo least most default → (number : Option ℤ)
    → IsFromTo least most (unwrap_or (option_and_then (within least most) number) default)
chosen_bounded least most default stands None = stands
chosen_bounded least most default stands (Some (negsuc n)) = stands
chosen_bounded least most default stands (Some (pos n)) = by (nat_le least n && nat_le n most) refl where
  by : (t : Bool) → (nat_le least n && nat_le n most) ≡ t → IsFromTo least most (unwrap_or (cond t (Some n) None) default)
  by true is = let parts = and_parts (nat_le least n) (nat_le n most) is in (leb-true least n parts.0, leb-true n most parts.1)
  by false is = stands

number_bounded : (least most default : ℕ) → IsFromTo least most default → (found : Option Data) → IsFromTo least most (number_in least most default found)
number_bounded least most default stands found = chosen_bounded least most default stands (option_and_then number_of found)

entry_bounded : (name : List ℕ) (d : Data) → IsBoundedEntry (entry_of name d)
entry_bounded name d = record {
  interval = number_bounded 1 604800 3600 (omega arith, omega arith) (get (codes "interval") d);
  shard = number_bounded 1 100 100 (omega arith, omega arith) (get (codes "shard") d);
}

entries_bounded : (ms : Members) → All IsBoundedEntry (entries_of ms)
entries_bounded no_members = All-nil IsBoundedEntry
entries_bounded (member name d ms) = All-cons IsBoundedEntry (entry_of name d) (entries_of ms) (entry_bounded name d) (entries_bounded ms)

all_entries_bounded : (members : Option Members) → All IsBoundedEntry (option_map_or entries_of members [])
all_entries_bounded None = All-nil IsBoundedEntry
all_entries_bounded (Some ms) = entries_bounded ms

entries_in_bounded : (found : Option Data) → All IsBoundedEntry (entries_in found)
entries_in_bounded found = all_entries_bounded (option_and_then as_object found)

pack_with_bounded : (name : List ℕ) (path : Option (List ℕ)) (d : Data) → IsBoundedPack (pack_with name path d)
pack_with_bounded name path d = record {
  queries = entries_in_bounded (get (codes "queries") d);
  shard = number_bounded 1 100 100 (omega arith, omega arith) (get (codes "shard") d);
}

pack_bounded : (name : List ℕ) (d : Data) → IsBoundedPack (pack_of name d)
pack_bounded name d = by (as_str d) where
  by : (path : Option (List ℕ)) → IsBoundedPack (option_map_or (pack_by_path name) path (pack_with name None d))
  by None = pack_with_bounded name None d
  by (Some path) = record { queries = All-nil IsBoundedEntry; shard = (omega arith, omega arith) }

packs_bounded : (ms : Members) → All IsBoundedPack (packs_of ms)
packs_bounded no_members = All-nil IsBoundedPack
packs_bounded (member name d ms) = All-cons IsBoundedPack (pack_of name d) (packs_of ms) (pack_bounded name d) (packs_bounded ms)

packs_in_bounded : (found : Option Data) → All IsBoundedPack (packs_in found)
packs_in_bounded found = by (option_and_then as_object found) where
  by : (members : Option Members) → All IsBoundedPack (option_map_or packs_of members [])
  by None = All-nil IsBoundedPack
  by (Some ms) = packs_bounded ms

-- a count that is no fault
count_allowed : (count : ℕ) (first : Option ConfigError) → option_or first (fault_of_count count) ≡ None → count ≤ 10000
count_allowed count (Some error) none = absurd (let no : ⊥ = cc in no)
count_allowed count None none = by (nat_lt 10000 count) refl none where
  by : (t : Bool) → nat_lt 10000 count ≡ t → cond t (Some TooManyQueries) None ≡ None → count ≤ 10000
  by true is e = absurd (let no : ⊥ = cc in no)
  by false is e = ltb-false 10000 count is

config_bounded : (d : Data) → fault_of_config d ≡ None → IsBounded (config_of d)
unfolding fault_of_config config_of
config_bounded d none = record {
  events_expiry = number_bounded 1 4294967295 3600 (omega arith, omega arith) (option_and_then (get (codes "events_expiry")) (get (codes "options") d));
  events_max = number_bounded 1 1000000 50000 (omega arith, omega arith) (option_and_then (get (codes "events_max")) (get (codes "options") d));
  schedule = entries_in_bounded (get (codes "schedule") d);
  packs = packs_in_bounded (get (codes "packs") d);
  count = count_allowed _ (fault_of config_kind [] d) none;
}

-- an answered configuration
pub answer_bounded : (document : List ℕ) (read : Result Config ConfigError) → Answers fault_of_config config_of document read → IfOk read IsBounded
answer_bounded document (Ok config) (d, has, none, is) = subst IsBounded (sym is) (config_bounded d none)
answer_bounded document (Err error) answer = tt

-- a pack with what a file says
filled_packs : (name : List ℕ) (read : Pack) (packs : List Pack) → IsBoundedPack read → All IsBoundedPack packs → All IsBoundedPack (filled name read packs)
filled_packs name read [] fits all = All-nil IsBoundedPack
filled_packs name read (pack ∷ packs) fits all =
    elim (bytes_eq pack.name name) as (λ t. All IsBoundedPack (cond t (refilled pack read ∷ packs) (pack ∷ filled name read packs))) [
      | true ↦ All-cons IsBoundedPack (refilled pack read) packs (record { queries = fits.queries; shard = fits.shard }) (All-tail IsBoundedPack pack packs all)
      | false ↦
          All-cons IsBoundedPack pack (filled name read packs) (All-head IsBoundedPack pack packs all)
          (filled_packs name read packs fits (All-tail IsBoundedPack pack packs all))
    ]

pub packed_count-cons : (pack : Pack) (packs : List Pack) → packed_count (pack ∷ packs) ≡ length pack.queries + packed_count packs
packed_count-cons pack packs = sum_by-cons (λ (pack : Pack). length pack.queries) pack packs

-- at most as many queries as before and those of the file
filled_count : (name : List ℕ) (read : Pack) (packs : List Pack) → packed_count (filled name read packs) ≤ packed_count packs + length read.queries
filled_count name read [] = omega arith
filled_count name read (pack ∷ packs) = by (filled_count name read packs) (bytes_eq pack.name name) where
  by : packed_count (filled name read packs) ≤ packed_count packs + length read.queries
      → (t : Bool) → packed_count (cond t (refilled pack read ∷ packs) (pack ∷ filled name read packs)) ≤ packed_count (pack ∷ packs) + length read.queries
  by rest true = omega (arith, packed_count-cons (refilled pack read) packs, packed_count-cons pack packs)
  by rest false = omega (arith, rest, packed_count-cons pack (filled name read packs), packed_count-cons pack packs)

left_packs : (name : List ℕ) (packs : List Pack) → All IsBoundedPack packs → All IsBoundedPack (left_out name packs)
left_packs name [] all = All-nil IsBoundedPack
left_packs name (pack ∷ packs) all =
    elim (bytes_eq pack.name name) as (λ t. All IsBoundedPack (cond t packs (pack ∷ left_out name packs))) [
      | true ↦ All-tail IsBoundedPack pack packs all
      | false ↦ All-cons IsBoundedPack pack (left_out name packs) (All-head IsBoundedPack pack packs all) (left_packs name packs (All-tail IsBoundedPack pack packs all))
    ]

left_count : (name : List ℕ) (packs : List Pack) → packed_count (left_out name packs) ≤ packed_count packs
left_count name [] = omega arith
left_count name (pack ∷ packs) = by (left_count name packs) (bytes_eq pack.name name) where
  by : packed_count (left_out name packs) ≤ packed_count packs
      → (t : Bool) → packed_count (cond t packs (pack ∷ left_out name packs)) ≤ packed_count (pack ∷ packs)
  by rest true = omega (arith, packed_count-cons pack packs)
  by rest false = omega (arith, rest, packed_count-cons pack (left_out name packs), packed_count-cons pack packs)

-- a configuration with other packs
with_packs : (config : Config) (packs : List Pack) → IsBounded config → All IsBoundedPack packs → query_count config.schedule packs ≤ 10000 → IsBounded (record config { packs = packs })
with_packs config packs old all count = record {
  events_expiry = old.events_expiry;
  events_max = old.events_max;
  schedule = old.schedule;
  packs = all;
  count = count;
}

pub filled_bounded : (config : Config) (name : List ℕ) (d : Data) → fault_of_file config d ≡ None → IsBounded config → IsBounded (record config { packs = filled name (file_pack d) config.packs })
unfolding fault_beside file_pack
filled_bounded config name d none old =
    let read = pack_with [] None d in
    let allowed = count_allowed (query_count config.schedule config.packs + length (entries_in (get (codes "queries") d))) (fault_of pack_kind [] d) none in
    let more = filled_count name read config.packs in
    with_packs config (filled name read config.packs) old (filled_packs name read config.packs (pack_with_bounded [] None d) old.packs) (omega (arith, allowed, more))

pub left_bounded : (config : Config) (name : List ℕ) → IsBounded config → IsBounded (record config { packs = left_out name config.packs })
left_bounded config name old =
    let count = old.count in
    let fewer = left_count name config.packs in
    with_packs config (left_out name config.packs) old (left_packs name config.packs old.packs) (omega (arith, count, fewer))
