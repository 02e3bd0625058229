-- The groups of a list of audit lines.
use Rattle.std.specs.Prelude.{◌≡◌, ◌-◌, ◌==◌, ◌&&◌, ◌||◌, not, nat_le, if◌then◌else◌, Bool, true, false, List, [], ◌∷◌, ◌++◌, codes, length, bytes_eq, slice_get, Option, Some, None}
use Rattle.std.specs.Option.{option_map_or}
use Rattle.audit_records.specs.declared.line.AuditId.{AuditId}
use Rattle.audit_records.specs.declared.line.AuditLine.{AuditLine}

abbrev pub same_id : AuditId → AuditId → Bool
same_id a b = a.seconds == b.seconds && a.millis == b.millis && a.serial == b.serial

abbrev pub ends_by_kind : AuditLine → Bool
ends_by_kind line = bytes_eq line.kind (codes "EOE") || bytes_eq line.kind (codes "PROCTITLE")

-- the last of the lines ends their group: it is the 4096th, or ends by its type
abbrev pub is_ended : List AuditLine → Bool
is_ended lines = option_map_or (λ last. nat_le 4096 (length lines) || ends_by_kind last) (slice_get lines (length lines - 1)) false

-- the group goes on with the line: it has no line yet, or it has the line's id and is not ended
abbrev pub goes_on : List AuditLine → AuditLine → Bool
goes_on [] line = true
goes_on (first ∷ lines) line = same_id first.id line.id && not (is_ended (first ∷ lines))

-- the one group of these lines, where there are any
abbrev pub whole : List AuditLine → List (List AuditLine)
whole [] = []
whole (first ∷ lines) = (first ∷ lines) ∷ []

-- the groups of lines, where the first group has some lines before these
abbrev pub groups_behind : List AuditLine → List AuditLine → List (List AuditLine)
groups_behind begun [] = whole begun
groups_behind begun (line ∷ lines) = if goes_on begun line then groups_behind (begun ++ line ∷ []) lines else begun ∷ groups_behind (line ∷ []) lines

unfoldable pub groups_of : List AuditLine → List (List AuditLine)
groups_of lines = groups_behind [] lines

-- the group that the last of the lines ended itself
abbrev pub own_group : List AuditLine → Option (List AuditLine)
own_group lines = if is_ended lines then Some lines else None

-- These groups were given for these lines: whatever lines come, the groups given and those of the lines that are held and come are the
-- groups of all lines.
abbrev pub HasGrouped : List (List AuditLine) → List AuditLine → List AuditLine → Type 0
HasGrouped given pushed held = (coming : List AuditLine) → given ++ groups_behind held coming ≡ groups_of (pushed ++ coming)
