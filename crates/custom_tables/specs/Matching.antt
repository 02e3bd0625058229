-- What a call of regex_match gives for a value.
use Rattle.std.specs.Prelude.{ℕ, ◌==◌, if◌then◌else◌, List, slice_range, Option, Some}
use Rattle.std.specs.Option.{option_map, option_map_or, option_and_then}
use Rattle.osq_value.specs.declared.value.Value.{Value}
use Rattle.osq_value.specs.declared.value.Value.TheVariants.{Null, Int, Text}
use Rattle.osq_value.specs.Casts.{cast_text_of}
use Rattle.regex.specs.Patterns.{Re, Match, find_str, span}
use Rattle.regex.specs.Writes.{group_of}

-- what a group of a match spans, group 0 being the whole match
abbrev pub group_in : ℕ → Match → Option (ℕ × ℕ)
group_in group m = if group == 0 then Some (span m) else group_of m group

abbrev pub group_text : ℕ → List ℕ → Match → Option (List ℕ)
group_text group text m = option_map (λ (s : ℕ × ℕ). slice_range text s.0 s.1) (group_in group m)

-- the text of a group of the first match in a text
abbrev pub found_text : Re → ℕ → List ℕ → Option (List ℕ)
found_text re group text = option_and_then (group_text group text) (find_str re text 0)

abbrev pub of_text : Re → ℕ → Value → Value
of_text re group Null = Null
of_text re group (Int n) = Null
of_text re group (Text text) = option_map_or Text (found_text re group text) Null

-- a value's text is searched
unfoldable pub match_value : Re → ℕ → Value → Value
match_value re group value = of_text re group (cast_text_of value)
