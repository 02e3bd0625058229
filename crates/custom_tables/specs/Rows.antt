-- The rows of a custom table.
use Rattle.std.specs.Prelude.{ℕ, List, [], ◌∷◌, ◌++◌, map, find, Option, None}
use Rattle.std.specs.Option.{option_map}
use Rattle.osq_value.specs.declared.value.Value.{Value}
use Rattle.audit_records.specs.declared.line.AuditLine.{AuditLine}
use Rattle.audit_records.specs.FieldValues.{has_kind, value_text, time_of}
use Rattle.publisher_core.specs.declared.record.Record.{Record}
use Rattle.publisher_core.specs.declared.record.Record.TheVariants.{Group, Change}
use Rattle.custom_tables.specs.declared.rule.Rule.{Rule}

-- the values of the rule's keys in a line, and then its second
abbrev pub row_of_line : Rule → AuditLine → List Value
row_of_line rule line = map (λ (key : List ℕ). value_text key line) rule.keys ++ time_of line ∷ []

-- the row of a group's first line of the rule's type
abbrev pub row_of_group : Rule → List AuditLine → Option (List Value)
row_of_group rule group = option_map (row_of_line rule) (find (has_kind rule.line) group)

-- a change of a file gives none
abbrev pub row_of_record : Rule → Record → Option (List Value)
row_of_record rule (Group group) = row_of_group rule group
row_of_record rule (Change change) = None
