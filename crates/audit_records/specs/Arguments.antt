-- The command line of a group.
use Rattle.std.specs.Prelude.{ℕ, zero, suc, ◌+◌, ◌-◌, ◌^◌, if◌then◌else◌, ℤ, pos, negsuc, Bool, List, [], ◌∷◌, ◌++◌, codes, decimal, find, Option, None, option_map, option_and_then, unwrap_or}
use Rattle.std.specs.List.{concat, join_with_byte}
use Rattle.std.specs.Option.{option_map_or, option_or}
use Rattle.audit_records.specs.declared.line.AuditLine.{AuditLine}
use Rattle.audit_records.specs.declared.line.Field.{Field}
use Rattle.audit_records.specs.FieldValues.{field_of, first_some, has_kind, spelled_number, string_value}

abbrev pub is_execve : AuditLine → Bool
is_execve line = has_kind (codes "EXECVE") line

-- the field with this key in a line of type EXECVE
abbrev pub field_in : List ℕ → AuditLine → Option Field
field_in key line = if is_execve line then field_of key line else None

-- the first field with this key in the EXECVE lines
abbrev pub execve_field : List ℕ → List AuditLine → Option Field
execve_field key lines = first_some (field_in key) lines

-- Null is shown as `(null)`
abbrev pub shown_text : Field → List ℕ
shown_text field = unwrap_or (string_value (codes "EXECVE") field) (codes "(null)")

abbrev pub execve_text : List ℕ → List AuditLine → Option (List ℕ)
execve_text key lines = option_map shown_text (execve_field key lines)

abbrev pub argument_key : ℕ → List ℕ
argument_key place = codes "a" ++ decimal place

abbrev pub piece_key : ℕ → ℕ → List ℕ
piece_key place piece = codes "a" ++ decimal place ++ codes "[" ++ decimal piece ++ codes "]"

-- what a function gives at a place and the places behind it, so many of them, and none from the first on at which it gives nothing
abbrev pub until_missing : {X : Type 0} → ℕ → ℕ → (ℕ → Option X) → List X
until_missing zero place f = []
until_missing (suc count) place f = option_map_or (λ x. x ∷ until_missing count (place + 1) f) (f place) []

-- no group has as many fields, so that pieces end where one is missing, as proofs/PiecesEnd.antt shows
unfoldable pub most_pieces : ℕ
most_pieces = 2 ^ 64 - 1

-- the pieces of an argument that the kernel cut
abbrev pub pieces : ℕ → List AuditLine → List (List ℕ)
pieces place lines = until_missing most_pieces 0 (λ piece. execve_text (piece_key place piece) lines)

abbrev pub cut_argument : ℕ → List AuditLine → Option (List ℕ)
cut_argument place lines = option_map (λ _. concat (pieces place lines)) (execve_field (piece_key place 0) lines)

-- the argument as it stands, or else the joined pieces, where there is a first one
abbrev pub argument : ℕ → List AuditLine → Option (List ℕ)
argument place lines = option_or (execve_text (argument_key place) lines) (cut_argument place lines)

abbrev pub count_of : ℤ → ℕ
count_of (pos n) = n
count_of (negsuc n) = 0

-- as many arguments as the first EXECVE line says
abbrev pub argument_count : List AuditLine → ℕ
argument_count lines = option_map_or count_of (option_and_then (spelled_number (codes "argc")) (find is_execve lines)) 0

abbrev pub arguments : List AuditLine → List (List ℕ)
arguments lines = until_missing (argument_count lines) 0 (λ place. argument place lines)

-- the arguments, with a space between each two
unfoldable pub command_line : List AuditLine → List ℕ
command_line lines = join_with_byte 32 (arguments lines)
