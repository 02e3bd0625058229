-- A value behind the sign `=`, and as the next word.
use Rattle.std.proofs.Common.{◌≡◌, ℕ, ◌+◌, not, Bool, true, false, cond, nat_lt, length, List, [], ◌∷◌, ◌++◌, Option, Some, None, refl, ap, sym, ◌∙◌, arith, take, drop, subst}
use Rattle.std.specs.Prelude.{bytes_eq}
use Rattle.std.specs.Option.{option_map_or}
use Rattle.std.specs.List.{after_first, before_first, find, list_all, position_or_len}
use Rattle.std.proofs.Math.Seq.{take-append_seam, drop-append-add}
use Rattle.std.proofs.lemmas.Bool.{cond-true}
use Rattle.std.proofs.lemmas.Bool.Decides.{nat_tests}
use Rattle.std.proofs.lemmas.List.{length-append}
use Rattle.std.proofs.lemmas.Slice.Eq.{bytes_eq-Decides}
use Rattle.program_words.specs.declared.name.Name.{Name}
use Rattle.program_words.specs.declared.name.Name.TheVariants.{Other}
use Rattle.program_words.specs.Names.{name_of, names, takes}
use Rattle.program_words.specs.Given.{Given, awaits, behind_dashes, is_sign, option_of, options_of, takes_word, with_value}
use Rattle.program_words.proofs.Conditions.{first, second}
use Rattle.program_words.specs.Laws.{BothSpellings}

-- no byte of the text is the sign
abbrev no_sign : List ℕ → Bool
no_sign text = list_all (λ b. not (is_sign b)) text

-- the name of the entry that was found, or Other
abbrev name_in : Option (List ℕ × Name) → Name
name_in found = option_map_or (λ entry. entry.1) found Other

found_by : (same : Bool) (text : List ℕ) (entry : List ℕ × Name) (found : Option (List ℕ × Name)) → bytes_eq text entry.0 ≡ same → no_sign entry.0 ≡ true → (takes_word (takes (name_in found)) ≡ true → no_sign text ≡ true) → takes_word (takes (name_in (cond same (Some entry) found))) ≡ true → no_sign text ≡ true
found_by true text entry found same clean rest taken = subst (λ t. no_sign t ≡ true) (sym ((bytes_eq-Decides text entry.0).0 same)) clean
found_by false text entry found same clean rest taken = rest taken

-- a name that a table has is without the sign, where all of its names are
found_no_sign : (table : List (List ℕ × Name)) (text : List ℕ) → list_all (λ entry. no_sign entry.0) table ≡ true → takes_word (takes (name_in (find (λ entry. bytes_eq text entry.0) table))) ≡ true → no_sign text ≡ true
unfolding takes
found_no_sign [] text clean taken = absurd cc
found_no_sign (entry ∷ table) text clean taken =
    found_by (bytes_eq text entry.0) text entry (find (λ e. bytes_eq text e.0) table) refl (first (no_sign entry.0) _ clean) (found_no_sign table text (second (no_sign entry.0) _ clean)) taken

name_no_sign : (text : List ℕ) → takes_word (takes (name_of text)) ≡ true → no_sign text ≡ true
unfolding name_of names
name_no_sign text taken = found_no_sign names text refl taken

-- the first sign stands behind the name
sign_at : (name value : List ℕ) → no_sign name ≡ true → position_or_len is_sign (name ++ 61 ∷ value) ≡ length name
sign_at [] value clean = refl
sign_at (b ∷ bs) value clean =
    let here = cond-true (not (is_sign b)) (1 + position_or_len is_sign (bs ++ 61 ∷ value)) 0 (first (not (is_sign b)) _ clean) in
    let behind = sign_at bs value (second (not (is_sign b)) _ clean) in
    here ∙ omega (arith, behind)

no_sign_at : (name : List ℕ) → no_sign name ≡ true → position_or_len is_sign name ≡ length name
no_sign_at [] clean = refl
no_sign_at (b ∷ bs) clean =
    let here = cond-true (not (is_sign b)) (1 + position_or_len is_sign bs) 0 (first (not (is_sign b)) _ clean) in
    let behind = no_sign_at bs (second (not (is_sign b)) _ clean) in
    here ∙ omega (arith, behind)

abbrev given_with : List ℕ → Option (List ℕ) → Given
given_with name value = record { name = name_of name; value = value }

joined : (name value : List ℕ) → no_sign name ≡ true → behind_dashes (name ++ 61 ∷ value) ≡ given_with name (Some value)
unfolding behind_dashes
joined name value clean =
    let at = sign_at name value clean in
    let whole = length-append name (61 ∷ value) in
    let within : nat_lt (position_or_len is_sign (name ++ 61 ∷ value)) (length (name ++ 61 ∷ value)) ≡ true = grind (arith, nat_tests) in
    let before : before_first is_sign (name ++ 61 ∷ value) ≡ name = ap (λ n. take n (name ++ 61 ∷ value)) at ∙ take-append_seam name (61 ∷ value) in
    let after : after_first is_sign (name ++ 61 ∷ value) ≡ value = ap (λ n. drop (n + 1) (name ++ 61 ∷ value)) at ∙ drop-append-add name (61 ∷ value) 1 in
    cond-true _ _ _ within ∙ cc (before, after)

alone : (name : List ℕ) → no_sign name ≡ true → behind_dashes name ≡ given_with name None
unfolding behind_dashes
alone name clean =
    let at = no_sign_at name clean in
    let beyond : nat_lt (position_or_len is_sign name) (length name) ≡ false = grind (arith, nat_tests) in
    ap (λ b. cond b (given_with (before_first is_sign name) (Some (after_first is_sign name))) (given_with name None)) beyond

-- an option that has its value takes no further word
taken : (word : List ℕ) (name value : List ℕ) (words : List (List ℕ)) → option_of word ≡ given_with name (Some value) → options_of (word ∷ words) ≡ given_with name (Some value) ∷ options_of words
unfolding options_of awaits
taken word name value [] is = ap (λ g. g ∷ []) is
taken word name value (next ∷ words) is =
    ap (λ g. cond (awaits g) (with_value g next ∷ options_of words) (g ∷ options_of (next ∷ words))) is

waiting : (word : List ℕ) (name value : List ℕ) (words : List (List ℕ)) → takes_word (takes (name_of name)) ≡ true → option_of word ≡ given_with name None → options_of (word ∷ value ∷ words) ≡ given_with name (Some value) ∷ options_of words
unfolding options_of awaits with_value
waiting word name value words takes is =
    ap (λ g. cond (awaits g) (with_value g value ∷ options_of words) (g ∷ options_of (value ∷ words))) is
    ∙ ap (λ b. cond b (given_with name (Some value) ∷ options_of words) (given_with name None ∷ options_of (value ∷ words))) takes

dashed : (text : List ℕ) → option_of (45 ∷ 45 ∷ text) ≡ behind_dashes text
unfolding option_of
dashed text = refl

pub both_spellings : BothSpellings
both_spellings name value words takes =
    let clean = name_no_sign name takes in
    taken (45 ∷ 45 ∷ (name ++ 61 ∷ value)) name value words (dashed (name ++ 61 ∷ value) ∙ joined name value clean)
    ∙ sym (waiting (45 ∷ 45 ∷ name) name value words takes (dashed name ∙ alone name clean))
