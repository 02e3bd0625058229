-- On which hosts the rules of an entry or of a pack hold.
use Rattle.std.specs.Prelude.{ℕ, ◌%◌, ◌&&◌, nat_lt, Bool, List, take}
use Rattle.std.specs.Int.{from_be_bytes, w64}
use Rattle.sha2.specs.Sha256.{sha256}
use Rattle.osq_config.specs.declared.config.Rules.{Rules}
use Rattle.pack_rules.specs.declared.host.Host.{Host}
use Rattle.pack_rules.specs.Platforms.{platform_holds}
use Rattle.pack_rules.specs.Versions.{version_holds}

-- the first eight bytes of the SHA-256 digest, the most significant first, modulo 100
unfoldable pub host_number_of : List ℕ → ℕ
host_number_of identifier = from_be_bytes w64 (take 8 (sha256 identifier)) % 100

abbrev pub shard_holds : List ℕ → ℕ → Bool
shard_holds identifier shard = nat_lt (host_number_of identifier) shard

abbrev pub rules_hold : Host → Rules → Bool
rules_hold host rules =
    platform_holds host.platform rules.platform && (version_holds host.agent rules.version && shard_holds host.identifier rules.shard)
