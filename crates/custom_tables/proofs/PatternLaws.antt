-- What the grammar of the regex crate reads in a text.
use Rattle.std.proofs.Common.{◌≡◌, ◌≢◌, ℕ, ◌<◌, ◌≤◌, ap, arith, refl, subst, sym, true, false, List, chars, length, Option, Some, None, is_some, unwrap_or, IsSomeAnd, IfSome, nat_le, ⊎_elim}
use Rattle.std.specs.Option.{option_and_then}
use Rattle.std.proofs.lemmas.Bool.{cond-true, cond-false}
use Rattle.regex.specs.Patterns.{Re, SameCaptures, Reads, Refuses, default_config, empty}
use Rattle.regex.specs.Strings.{regex_config, regex_names, regex_pattern, regex_source, IsReadFromSource}
use Rattle.regex.specs.declared.string.regex.Regex.{Regex}
use Rattle.regex_syntax.specs.Brackets.{Nested}
use Rattle.regex_syntax.specs.Grammar.{Names, group_count, read}
use Rattle.regex_syntax.specs.declared.error.ErrorKind.{ErrorKind}
use Rattle.regex_syntax.specs.declared.error.ErrorKind.TheVariants.{OutOfMemory}
use Rattle.custom_tables.specs.Patterns.{is_pattern, pattern_in, pattern_read, within_limit}

abbrev Found : Type 0
Found = Nested Re × Names

low : (n : ℕ) → n ≤ 250 → nat_le n 250 ≡ true
low n le = grind (arith, le)

high : (n : ℕ) → 250 < n → nat_le n 250 ≡ false
high n lt = grind (arith, lt)

read_by : (o : Option Found) (re : Re) (names : Names) → IsSomeAnd o (λ (found : Found). (found.0.depth ≤ 250) × SameCaptures re found.0.value × (names ≡ found.1) × (group_count re ≤ length names))
    → (is_some (option_and_then within_limit o) ≡ true) × SameCaptures re (unwrap_or (option_and_then within_limit o) empty)
read_by None re names is = absurd is
read_by (Some found) re names is =
    let some : within_limit found ≡ Some found.0.value = cond-true (nat_le found.0.depth 250) (Some found.0.value) None (low found.0.depth is.0) in
    (ap is_some some, subst (λ (o : Option Re). SameCaptures re (unwrap_or o empty)) (sym some) is.1)

-- the text of a compiled pattern is one, and it matches as what is read there
pub is_read : (r : Regex) → regex_config r ≡ default_config → IsReadFromSource r → (is_pattern (regex_source r) ≡ true) × SameCaptures (regex_pattern r) (pattern_in (regex_source r))
unfolding Reads pattern_read
is_read r is reads = read_by (read default_config (chars (regex_source r))) (regex_pattern r) (regex_names r) (rw is at reads)

deep_by : (o : Option Found) → IfSome o (λ (found : Found). 250 < found.0.depth) → is_some (option_and_then within_limit o) ≡ false
deep_by None deep = refl
deep_by (Some found) deep = ap is_some (cond-false (nat_le found.0.depth 250) (Some found.0.value) None (high found.0.depth deep))

-- a text that is refused for its syntax is no pattern
pub is_refused : (text : List ℕ) (kind : ErrorKind) → kind ≢ OutOfMemory → Refuses default_config text kind → is_pattern text ≡ false
unfolding Refuses pattern_read
is_refused text kind other refused = ⊎_elim
    (λ memory. absurd (other memory))
    (⊎_elim (λ none. ap (λ (o : Option Found). is_some (option_and_then within_limit o)) none) (λ deep. deep_by (read default_config (chars text)) deep.1))
    refused
