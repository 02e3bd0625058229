-- What tells the groups of lines apart from every other way to cut them.
use Rattle.std.specs.Prelude.{◌≡◌, ◌<◌, true, false, List, [], ◌∷◌, ◌++◌, length, flat_map}
use Rattle.audit_records.specs.declared.line.AuditLine.{AuditLine}
use Rattle.audit_records.specs.Groups.{goes_on}

-- each of the lines goes on with those before it, the first with the lines begun
abbrev pub IsRun : List AuditLine → List AuditLine → Type 0
IsRun begun [] = Unit {0}
IsRun begun (line ∷ lines) = (goes_on begun line ≡ true) × IsRun (begun ++ line ∷ []) lines

-- the first of these groups begins with a line that does not go on with the group before
abbrev pub BeginsAnew : List AuditLine → List (List AuditLine) → Type 0
BeginsAnew before [] = Unit {0}
BeginsAnew before ([] ∷ groups) = ⊥
BeginsAnew before ((line ∷ lines) ∷ groups) = goes_on before line ≡ false

-- each group is a run that has a line, and none could be longer
abbrev pub AreWholeRuns : List (List AuditLine) → Type 0
AreWholeRuns [] = Unit {0}
AreWholeRuns (group ∷ groups) = (0 < length group) × (IsRun [] group × (BeginsAnew group groups × AreWholeRuns groups))

-- the groups are the lines, cut into runs as long as can be
pub record AreRunsOf (lines : List AuditLine) (groups : List (List AuditLine)) : Type 0 where
  pub joined : flat_map (λ group. group) groups ≡ lines
  pub runs : AreWholeRuns groups
