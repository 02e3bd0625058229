-- Fields by their keys.
use Rattle.std.specs.Prelude.{ℕ, List, bytes_eq, if◌then◌else◌, Option, Some, None, option_copied}
use Rattle.std.specs.BTreeMap.{BTreeMap, get_by}
use Rattle.std.specs.Borrow.{Bor}
use Rattle.std.specs.Cmp.Lexicographic.{slice_cmp}
use Rattle.std.specs.Ordering.{nat_cmp}
use Rattle.audit_records.specs.declared.line.Field.{Field}

-- the field that an index has for a key
abbrev pub indexed : BTreeMap (Bor (List ℕ)) (Bor Field) → List ℕ → Option Field
indexed index key = option_copied (get_by (λ k. slice_cmp nat_cmp key k.now) index)

-- the field, where this is its key
abbrev pub with_key : List ℕ → Field → Option Field
with_key key field = if bytes_eq field.key key then Some field else None
