-- A text of bytes and its least fault.
use Rattle.std.specs.Prelude.{ℕ, nat_lt, if◌then◌else◌, List, length, Option, Some}
use Rattle.sql_faults.specs.declared.error.ParseError.{ParseError}
use Rattle.sql_faults.specs.declared.error.ParseKind.TheVariants.{TextTooLong}
use Rattle.sql_tokens.specs.Lexing.{tokens_of}
use Rattle.sql_faults.specs.Reading.{first_fault, whole, whole_select}

abbrev pub too_long : ParseError
too_long = record { place = 65536; kind = TextTooLong }

-- the fault of least place, where there is one
abbrev pub expression_fault : List ℕ → Option ParseError
expression_fault text = if nat_lt 65536 (length text) then Some too_long else first_fault whole (tokens_of text)

-- the same of a select
abbrev pub select_fault : List ℕ → Option ParseError
select_fault text = if nat_lt 65536 (length text) then Some too_long else first_fault whole_select (tokens_of text)
