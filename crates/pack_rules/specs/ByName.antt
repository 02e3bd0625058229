-- Queries in the order of their names, the first of each name alone.
use Rattle.std.specs.Prelude.{◌≡◌, ℕ, Bool, true, List, map, bytes_eq, find}
use Rattle.std.specs.Ordering.{nat_cmp, is_lt}
use Rattle.std.specs.Cmp.Lexicographic.{slice_cmp}
use Rattle.osq_config.specs.Names as names
use Rattle.pack_rules.specs.declared.schedule.Scheduled.{Scheduled}

-- a name stands before another by their bytes
abbrev pub is_before : Scheduled → Scheduled → Bool
is_before first second = is_lt (slice_cmp nat_cmp first.key.name second.key.name)

-- the names rise by their bytes
abbrev pub names_rise : List Scheduled → Bool
names_rise queries = names.names_rise (map (λ (scheduled : Scheduled). scheduled.key.name) queries)

abbrev pub has_name : List ℕ → Scheduled → Bool
has_name name scheduled = bytes_eq name scheduled.key.name

-- the names rise, and each name has the query that is offered first under it
pub record IsByName (offered queries : List Scheduled) : Type 0 where
  pub rise : names_rise queries ≡ true
  pub first : (name : List ℕ) → find (has_name name) queries ≡ find (has_name name) offered
