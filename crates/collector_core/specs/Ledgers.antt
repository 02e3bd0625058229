-- What a ledger keeps of a host.
use Rattle.std.specs.Prelude.{ℕ, List, [], unwrap_or}
use Rattle.std.specs.BTreeMap.{get_by_text}
use Rattle.collector_core.specs.declared.ledger.Ledger.{Ledger}

-- the digests of a host's recorded frames, from number 1 on
unfoldable pub digests_of : Ledger → List ℕ → List (List ℕ)
digests_of ledger host = unwrap_or (get_by_text ledger.hosts host) []
