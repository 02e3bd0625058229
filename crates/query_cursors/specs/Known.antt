-- Places that are known by the hash of a key.
use Rattle.std.specs.Prelude.{ℕ, Bool, if◌then◌else◌, Option, Some, None}
use Rattle.std.specs.HashMap.{HashMap, get_by}
use Rattle.pack_rules.specs.declared.schedule.QueryKey.{QueryKey}
use Rattle.pack_rules.specs.Keys.{same_key}
use Rattle.query_cursors.specs.declared.index.Lent.{Lent}

-- the place of a key
abbrev pub known_at : {S : Type 0} → HashMap Lent ℕ S → QueryKey → Option ℕ
known_at known query = get_by (λ (lent : Lent). same_key query lent.key.now) known

-- a place that was known before, or else this one, where it is the query's
abbrev pub first_known : Option ℕ → Bool → ℕ → Option ℕ
first_known (Some before) same place = Some before
first_known None same place = if same then Some place else None
