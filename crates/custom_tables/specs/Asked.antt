-- What the calls of a text ask for.
use Rattle.std.specs.Prelude.{ℕ, List}
use Rattle.sql_scope.specs.Spelling.{literal_text, name_text}
use Rattle.custom_tables.specs.declared.asked.Asked.{Asked}
use Rattle.custom_tables.specs.declared.call.Call.{Call}

-- a call by its texts, and where its pattern stands
abbrev pub asked_in : List ℕ → Call → Asked
asked_in text call = record { column = name_text text call.column; pattern = literal_text text call.pattern; quote = call.pattern.start; group = call.group }
