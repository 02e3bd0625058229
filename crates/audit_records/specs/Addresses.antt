-- The addresses that socket lines tell of.
use Rattle.std.specs.Prelude.{ℕ, ◌+◌, ◌*◌, ◌==◌, ◌&&◌, nat_le, if◌then◌else◌, false, List, [], ◌∷◌, codes, decimal, drop, length, map, slice_index, Option, Some, None, option_and_then}
use Rattle.std.specs.Fmt.{digits}
use Rattle.std.specs.List.{before_first, join_with_byte}
use Rattle.std.specs.Str.{is_utf8}
use Rattle.hex.specs.Hex.{encode_lower}
use Rattle.audit_records.specs.declared.address.Address.{Address}
use Rattle.audit_records.specs.declared.line.AuditLine.{AuditLine}
use Rattle.audit_records.specs.FieldValues.{first_some, has_kind, hex_bytes, text_of}

-- the number of the first two bytes, the low one first
abbrev pub family_of : List ℕ → ℕ
family_of bytes = 256 * slice_index bytes 1 + slice_index bytes 0

-- the number of two bytes from a place on, the high one first
abbrev pub pair_at : List ℕ → ℕ → ℕ
pair_at bytes place = 256 * slice_index bytes place + slice_index bytes (place + 1)

abbrev pub byte_text : List ℕ → ℕ → List ℕ
byte_text bytes place = decimal (slice_index bytes place)

-- four decimals with dots
abbrev pub inet_text : List ℕ → List ℕ
inet_text bytes = join_with_byte 46 (map (byte_text bytes) (4 ∷ 5 ∷ 6 ∷ 7 ∷ []))

-- two bytes in lower-case hexadecimal, without leading zeros
abbrev pub group_text : List ℕ → ℕ → List ℕ
group_text bytes place = digits 16 false (pair_at bytes place)

-- the groups from these places on, with colons
abbrev pub groups_text : List ℕ → List ℕ → List ℕ
groups_text bytes places = join_with_byte 58 (map (group_text bytes) places)

-- eight groups of two bytes, of which none is left out
abbrev pub inet6_text : List ℕ → List ℕ
inet6_text bytes = groups_text bytes (8 ∷ 10 ∷ 12 ∷ 14 ∷ 16 ∷ 18 ∷ 20 ∷ 22 ∷ [])

-- the bytes behind the family, up to the first zero
abbrev pub path_of : List ℕ → List ℕ
path_of bytes = before_first (λ byte. byte == 0) (drop 2 bytes)

-- bytes that are not UTF-8 are shown in lower-case hexadecimal
abbrev pub path_text : List ℕ → List ℕ
path_text path = if is_utf8 path then path else encode_lower path

abbrev pub local_address : List ℕ → Address
local_address bytes = record { family = 1; address = []; port = 0; socket = path_text (path_of bytes) }

abbrev pub inet_address : List ℕ → Address
inet_address bytes = record { family = 2; address = inet_text bytes; port = pair_at bytes 2; socket = [] }

abbrev pub inet6_address : List ℕ → Address
inet6_address bytes = record { family = 10; address = inet6_text bytes; port = pair_at bytes 2; socket = [] }

-- the address of the bytes of a `sockaddr`: family 1 (AF_UNIX), 2 (AF_INET) or 10 (AF_INET6), where the bytes are long enough
abbrev pub address_of : List ℕ → Option Address
address_of bytes = if family_of bytes == 1 && nat_le 2 (length bytes) then Some (local_address bytes)
    else if family_of bytes == 2 && nat_le 8 (length bytes) then Some (inet_address bytes)
    else if family_of bytes == 10 && nat_le 24 (length bytes) then Some (inet6_address bytes)
    else None

-- the address of a SOCKADDR line
abbrev pub line_address : AuditLine → Option Address
line_address line = if has_kind (codes "SOCKADDR") line then option_and_then address_of (option_and_then hex_bytes (text_of (codes "saddr") line)) else None

-- that of the first such line that has one
unfoldable pub address_in : List AuditLine → Option Address
address_in lines = first_some line_address lines
