-- Patterns that match alike give the same texts of groups.
use Rattle.std.proofs.Common.{◌≡◌, ℕ, ◌+◌, ◌*◌, ◌<◌, ◌==◌, ap, refl, sym, List, get_or, Option, Some, None, cond, slice_range}
use Rattle.std.specs.Option.{option_and_then, option_map}
use Rattle.std.proofs.lemmas.List.{get_or_default}
use Rattle.std.proofs.lemmas.Option.{none-some, same_Some}
use Rattle.regex.specs.Patterns.{Re, Match, SameCaptures, find_str}
use Rattle.regex.specs.Writes.{both}
use Rattle.regex_syntax.proofs.CapturesLemmas.{spans, find_str_alike}
use Rattle.custom_tables.specs.Matching.{found_text, group_text}

abbrev Seen : Type 0
Seen = ℕ × ℕ × (ℕ → Option ℕ)

-- what a group of a match spans, by what a caller sees of the match
abbrev seen_group : ℕ → Seen → Option (ℕ × ℕ)
seen_group group seen = cond (group == 0) (Some (seen.0, seen.1)) (both (seen.2 (2 * group)) (seen.2 (2 * group + 1)))

text_alike : (group : ℕ) (text : List ℕ) (one other : Option Match) → option_map spans one ≡ option_map spans other → option_and_then (group_text group text) one ≡ option_and_then (group_text group text) other
text_alike group text None None is = refl
text_alike group text None (Some m) is = absurd (none-some (spans m) is)
text_alike group text (Some m) None is = absurd (none-some (spans m) (sym is))
text_alike group text (Some m) (Some n) is = ap (λ (seen : Seen). option_map (λ (s : ℕ × ℕ). slice_range text s.0 s.1) (seen_group group seen)) (same_Some (spans m) (spans n) is)

pub found_alike : (one other : Re) → SameCaptures one other → (group : ℕ) (text : List ℕ) → ((k : ℕ) → get_or text k 0 < 256) → found_text one group text ≡ found_text other group text
found_alike one other same group text bytes = text_alike group text (find_str one text 0) (find_str other text 0) (find_str_alike one other same text (λ k d below. rw (get_or_default text k d 0 below) (bytes k)) 0)
