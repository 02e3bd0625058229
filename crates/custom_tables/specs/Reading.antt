-- A text as it is read: each call is the name of its hidden column.
use Rattle.std.specs.Prelude.{ℕ, ◌+◌, ◌-◌, List, [], ◌∷◌, ◌++◌, codes, decimal, length, take, drop, replicate, Option, Some, None}
use Rattle.sql_tree.specs.declared.tree.Name.{Name}
use Rattle.custom_tables.specs.declared.call.Call.{Call}

-- the bytes from one place to before another
abbrev pub between : List ℕ → ℕ → ℕ → List ℕ
between text start end = take (end - start) (drop start text)

-- the name of the hidden column of the call of that number
abbrev pub call_name : ℕ → List ℕ
call_name number = codes "#r" ++ decimal number

-- the bytes of the name before the dot, and the dot
abbrev pub table_part : List ℕ → Option Name → List ℕ
table_part text None = []
table_part text (Some name) = between text name.span.start name.span.end ++ codes "."

-- what a call is read as: the name of its hidden column in quotes
abbrev pub replacement : List ℕ → ℕ → Call → List ℕ
replacement text number call = table_part text call.table ++ codes "\"" ++ call_name number ++ codes "\""

-- blanks up to the length of the call
abbrev pub padding : List ℕ → ℕ → Call → List ℕ
padding text number call = replicate (call.span.end - call.span.start - length (replacement text number call)) 32

-- the text from a place on, whose calls have numbers from that one on
abbrev pub read_from : List ℕ → ℕ → ℕ → List Call → List ℕ
read_from text place number [] = between text place (length text)
read_from text place number (call ∷ calls) = between text place call.span.start ++ replacement text number call ++ padding text number call ++ read_from text call.span.end (number + 1) calls
