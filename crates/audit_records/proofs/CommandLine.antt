-- The command line, argument by argument.
use Rattle.std.proofs.Common.{◌≡◌, ℕ, zero, suc, ◌+◌, ◌-◌, ◌<◌, ◌≤◌, ◌==◌, Bool, true, false, cond, List, [], ◌∷◌, ◌++◌, refl, arith, ap, sym, ◌∙◌, subst, append_assoc, Option, Some, None, flat_map}
use Rattle.std.proofs.lemmas.Fmt.{decimal_digit}
use Rattle.std.proofs.lemmas.List.{append-nil}
use Rattle.std.proofs.lemmas.Bool.{false≢true}
use Rattle.std.proofs.lemmas.Bool.Decides.{nat_tests}
use Rattle.std.specs.Prelude.{option_map}
use Rattle.std.specs.List.{join_with_byte}
use Rattle.std.specs.Option.{option_or}
use Rattle.audit_records.specs.declared.line.AuditLine.{AuditLine}
use Rattle.audit_records.specs.declared.line.Field.{Field}
use Rattle.audit_records.specs.Arguments.{argument, argument_count, argument_key, command_line, cut_argument, execve_field, shown_text, until_missing}
use Rattle.audit_records.specs.Joins.{separator, AddsArgument}
use Rattle.audit_records.proofs.UntilMissing.{until_missing-all, until_missing-more, until_missing-stop}

abbrev spaced : List (List ℕ) → List ℕ
spaced xs = flat_map (λ x. 32 ∷ x) xs

-- what these arguments add to a line, the first of them being at a place
abbrev pub joined_from : ℕ → List (List ℕ) → List ℕ
joined_from place xs = cond (place == 0) (join_with_byte 32 xs) (spaced xs)

join-cons : (x : List ℕ) (xs : List (List ℕ)) → join_with_byte 32 (x ∷ xs) ≡ x ++ spaced xs
join-cons x [] = sym (append-nil x)
join-cons x (y ∷ ys) = ap (λ t. x ++ 32 ∷ t) (join-cons y ys)

behind_first : (place : ℕ) → (suc place == 0) ≡ false
behind_first place = grind (arith, nat_tests)

joined_from-behind : (place : ℕ) (xs : List (List ℕ)) → joined_from (suc place) xs ≡ spaced xs
joined_from-behind place xs = ap (λ t. cond t (join_with_byte 32 xs) (spaced xs)) (behind_first place)

separator-behind : (place : ℕ) → separator (suc place) ≡ 32 ∷ []
separator-behind place = ap (λ t. cond t [] (32 ∷ [])) (behind_first place)

joined_from-more : (place : ℕ) (x : List ℕ) (xs : List (List ℕ)) → joined_from place (x ∷ xs) ≡ (separator place ++ x) ++ joined_from (place + 1) xs
joined_from-more zero x xs = join-cons x xs
joined_from-more (suc place) x xs =
    let next : suc place + 1 ≡ suc (suc place) = omega arith in
    joined_from-behind place (x ∷ xs)
    ∙ sym (ap (λ t. (32 ∷ x) ++ t) (ap (λ n. joined_from n xs) next ∙ joined_from-behind (suc place) xs))
    ∙ sym (ap (λ t. (t ++ x) ++ joined_from (suc place + 1) xs) (separator-behind place))

joined_from-none : (place : ℕ) → joined_from place [] ≡ []
joined_from-none zero = refl
joined_from-none (suc place) = joined_from-behind place []

abbrev pub left : List AuditLine → ℕ → List (List ℕ)
left lines place = until_missing (argument_count lines - place) place (λ (k : ℕ). argument k lines)

pub line-begun : (lines : List AuditLine) (text : List ℕ) → text ≡ [] → text ++ joined_from 0 (left lines 0) ≡ command_line lines
unfolding command_line
line-begun lines text empty =
    let all : argument_count lines - 0 ≡ argument_count lines = omega arith in
    ap (λ t. t ++ joined_from 0 (left lines 0)) empty ∙ ap (λ n. join_with_byte 32 (until_missing n 0 (λ (k : ℕ). argument k lines))) all

ended : (lines : List AuditLine) (place : ℕ) (text : List ℕ) → left lines place ≡ [] → text ++ joined_from place (left lines place) ≡ command_line lines → text ≡ command_line lines
ended lines place text none before =
    sym (append-nil text) ∙ ap (λ t. text ++ t) (sym (joined_from-none place)) ∙ ap (λ xs. text ++ joined_from place xs) (sym none) ∙ before

pub line-all : (lines : List AuditLine) (place : ℕ) (text : List ℕ) → argument_count lines ≤ place → text ++ joined_from place (left lines place) ≡ command_line lines → text ≡ command_line lines
line-all lines place text past before = ended lines place text (until_missing-all (argument_count lines) place (λ (k : ℕ). argument k lines) past) before

-- at a missing argument the line is whole
pub line-stop : (lines : List AuditLine) (place : ℕ) (text next : List ℕ) (there : Bool) → place < argument_count lines → AddsArgument place (argument place lines) text next there → there ≡ false → text ++ joined_from place (left lines place) ≡ command_line lines → next ≡ command_line lines
line-stop lines place text next there within adds stops before = by_argument (argument place lines) refl adds where
  by_argument : (o : Option (List ℕ)) → argument place lines ≡ o → AddsArgument place o text next there → next ≡ command_line lines
  by_argument None is added = added.1 ∙ ended lines place text (until_missing-stop (argument_count lines) place (λ (k : ℕ). argument k lines) within is) before
  by_argument (Some x) is added = absurd (false≢true (sym stops ∙ added.0))

pub line-more : (lines : List AuditLine) (place : ℕ) (text next : List ℕ) (there : Bool) → place < argument_count lines → AddsArgument place (argument place lines) text next there → there ≡ true → text ++ joined_from place (left lines place) ≡ command_line lines → next ++ joined_from (place + 1) (left lines (place + 1)) ≡ command_line lines
line-more lines place text next there within adds goes before = by_argument (argument place lines) refl adds where
  by_argument : (o : Option (List ℕ)) → argument place lines ≡ o → AddsArgument place o text next there → next ++ joined_from (place + 1) (left lines (place + 1)) ≡ command_line lines
  by_argument None is added = absurd (false≢true (sym added.0 ∙ goes))
  by_argument (Some x) is added =
      let rest = joined_from (place + 1) (left lines (place + 1)) in
      let one : (separator place ++ x) ++ rest ≡ joined_from place (left lines place) =
      sym (joined_from-more place x (left lines (place + 1))) ∙ ap (joined_from place) (sym (until_missing-more (argument_count lines) place (λ (k : ℕ). argument k lines) x within is)) in
      ap (λ t. t ++ rest) (added.1 ∙ append_assoc text (separator place) x) ∙ append_assoc text (separator place ++ x) rest ∙ ap (λ t. text ++ t) one ∙ before

-- an argument that is not cut is added
pub adds-uncut : (lines : List AuditLine) (place : ℕ) (field : Field) (text next : List ℕ) → execve_field (argument_key place) lines ≡ Some field → next ≡ (text ++ separator place) ++ shown_text field → AddsArgument place (argument place lines) text next true
adds-uncut lines place field text next is added =
    subst (λ o. AddsArgument place (option_or (option_map shown_text o) (cut_argument place lines)) text next true) (sym is) (refl, added)

-- the key of an argument with a number of one digit
pub early-key : (digit place : ℕ) → place ≡ digit → digit < 10 → 97 ∷ (48 + digit) ∷ [] ≡ argument_key place
early-key digit place is small = sym (ap argument_key is ∙ ap (λ t. 97 ∷ t) (decimal_digit digit small))
