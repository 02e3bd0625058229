-- By what sets are hashed.
use Rattle.std.specs.Prelude.{◌≡◌, ℕ, List, ◌++◌, length, codes}
use Rattle.std.specs.Hash.DefaultHasher as keyed
use Rattle.std.specs.Hash.FoldHasher as fast
use Rattle.std.specs.Int.{w64, cast_unsigned, to_le_bytes}
use Rattle.osq_value.specs.declared.value.Value.{Value}
use Rattle.osq_value.specs.declared.value.Value.TheVariants.{Int, Null, Text}
use Rattle.set_keys.specs.declared.hasher.SetHasher.{SetHasher}
use Rattle.set_keys.specs.declared.hasher.SetHasher.TheVariants.{Fast, Keyed}
use Rattle.set_keys.specs.declared.hasher.SetKey.{SetKey}

-- one write goes to the hasher that it is
abbrev pub write : SetHasher → List ℕ → SetHasher
write (Fast state) bytes = Fast (fast.write state bytes)
write (Keyed state) bytes = Keyed (keyed.write state bytes)

abbrev pub finish : SetHasher → ℕ
finish (Fast state) = fast.finish state
finish (Keyed state) = keyed.finish state

abbrev pub plain : SetKey
plain = record { initial = Fast fast.initial }

-- SipHash behind a digest
abbrev pub drawn : List ℕ → SetKey
drawn digest = record { initial = Keyed (keyed.write keyed.initial digest) }

-- SipHash behind some digest
abbrev pub IsDrawn : SetKey → Type 0
IsDrawn key = (digest : List ℕ) × (key ≡ drawn digest)

-- a value as a digest takes it
abbrev pub spelled : Value → List ℕ
spelled Null = codes "n"
spelled (Int number) = codes "i" ++ to_le_bytes w64 (cast_unsigned w64 number)
spelled (Text text) = codes "t" ++ to_le_bytes w64 (length text) ++ text
