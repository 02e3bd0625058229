-- The patterns of calls.
use Rattle.std.specs.Prelude.{ℕ, nat_le, not, if◌then◌else◌, Bool, List, chars, find, Option, Some, None}
use Rattle.std.specs.Option.{is_some, option_and_then, option_map, unwrap_or}
use Rattle.regex.specs.Patterns.{Re, empty, default_config}
use Rattle.regex_syntax.specs.Brackets.{Nested}
use Rattle.regex_syntax.specs.Grammar.{Names, read}
use Rattle.custom_tables.specs.declared.asked.Asked.{Asked}

abbrev pub within_limit : Nested Re × Names → Option Re
within_limit found = if nat_le found.0.depth default_config.nest_limit then Some found.0.value else None

-- What the grammar of the regex crate reads in a text. None where the text is no pattern, or nests deeper than one may.
unfoldable pub pattern_read : List ℕ → Option Re
pattern_read text = option_and_then within_limit (read default_config (chars text))

abbrev pub is_pattern : List ℕ → Bool
is_pattern text = is_some (pattern_read text)

-- what a pattern stands for; a text that is none stands for the empty one
abbrev pub pattern_in : List ℕ → Re
pattern_in text = unwrap_or (pattern_read text) empty

-- where the first call stands whose text is no pattern
abbrev pub pattern_fault : List Asked → Option ℕ
pattern_fault asked = option_map (λ (call : Asked). call.quote) (find (λ (call : Asked). not (is_pattern call.pattern)) asked)
