-- How many ticks are enough for a source.
use Rattle.std.specs.Prelude.{ℕ, ◌+◌, ◌/◌, ◌≤◌, List, length, drop}
use Rattle.record_lines.specs.Lines.{lines_of}
use Rattle.record_lines.specs.Limits.{STEP_BYTES}
use Rattle.entry_model.specs.declared.entry.Entry.{Entry}
use Rattle.entry_model.specs.Values.{taken_from}
use Rattle.session_model.specs.Given.{Source}

-- the bytes that this list has not yet of the source
abbrev pub left_of : List Entry → Source → List ℕ
left_of kept source = drop (taken_from kept source.name) source.bytes

-- A full step gives so many records, or reads 16777216 bytes: of so many lines and bytes no more than the quotients can be full, and one more finds
-- the end.
abbrev pub steps_for : (records lines bytes : ℕ) → ℕ
steps_for records lines bytes = lines / records + bytes / STEP_BYTES + 1

-- for the source behind this list, by the lines and the bytes that it has there
abbrev pub enough_for : (records : ℕ) → List Entry → Source → ℕ
enough_for records kept source = steps_for records (length (lines_of (left_of kept source))) (length (left_of kept source))

-- so many ticks are enough for the source
abbrev pub AreEnough : (records : ℕ) → List Entry → (ticks : ℕ) → Source → Type 0
AreEnough records kept ticks source = enough_for records kept source ≤ ticks
