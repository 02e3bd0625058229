-- A text begins with another one in bytes exactly where it does in characters.
use Rattle.std.proofs.Common.{◌≡◌, ◌≢◌, ℕ, ◌==◌, ◌&&◌, Bool, true, false, List, [], ◌∷◌, ◌++◌, refl, ap, sym, ◌∙◌, eqb-true, eq-eqb, ◌+◌, length}
use Rattle.std.specs.Str.{chars, IsUtf8, encode_utf8_all}
use Rattle.std.proofs.lemmas.Str.{chars-append, encodes-chars, encodes-append}
use Rattle.std.proofs.lemmas.Bool.{false_from_ne_true}
use Rattle.sql_scalar.specs.Finds.{begins, first_position}

same_number : (n : ℕ) → (n == n) ≡ true
same_number n = eq-eqb n n refl

pub begins-append : (wanted rest : List ℕ) → begins wanted (wanted ++ rest) ≡ true
begins-append [] rest = refl
begins-append (item ∷ others) rest = ap (λ b. b && begins others (others ++ rest)) (same_number item) ∙ begins-append others rest

and-left : (a b : Bool) → (a && b) ≡ true → a ≡ true
and-left true b e = refl
and-left false b e = cc

and-right : (a b : Bool) → (a && b) ≡ true → b ≡ true
and-right true b e = e
and-right false b e = cc

pub begins-split : (wanted whole : List ℕ) → begins wanted whole ≡ true → (rest : List ℕ) × (whole ≡ wanted ++ rest)
begins-split [] whole e = (whole, refl)
begins-split (item ∷ others) [] e = absurd (let no : ⊥ = cc in no)
begins-split (item ∷ others) (found ∷ rest) e =
    let same = eqb-true item found (and-left (item == found) (begins others rest) e) in
    let behind = begins-split others rest (and-right (item == found) (begins others rest) e) in
    (behind.0, ap (λ xs. found ∷ xs) behind.1 ∙ ap (λ n. n ∷ (others ++ behind.0)) (sym same))

pub begins_text : (wanted whole rest : List ℕ) → IsUtf8 wanted → whole ≡ wanted ++ rest → begins (chars wanted) (chars whole) ≡ true
begins_text wanted whole rest told split =
    ap (λ s. begins (chars wanted) s) (ap chars split ∙ chars-append wanted rest told) ∙ begins-append (chars wanted) (chars rest)

pub begins_no_text : (wanted whole : List ℕ) → IsUtf8 wanted → IsUtf8 whole → ((rest : List ℕ) → whole ≢ wanted ++ rest)
    → begins (chars wanted) (chars whole) ≡ false
begins_no_text wanted whole told whole_told none =
    false_from_ne_true _ (λ e.
    let found = begins-split (chars wanted) (chars whole) e in
    none (encode_utf8_all found.0)
    (sym (encodes-chars whole whole_told) ∙ ap encode_utf8_all found.1 ∙ encodes-append (chars wanted) found.0
    ∙ ap (λ s. s ++ encode_utf8_all found.0) (encodes-chars wanted told)))

pub first_is : (wanted : List ℕ) (position : ℕ) (text : List ℕ) → begins wanted text ≡ true → first_position wanted position text ≡ position
first_is wanted position [] e = rw e refl
first_is wanted position (char ∷ rest) e = rw e refl

pub first_is_later : (wanted : List ℕ) (position char : ℕ) (rest : List ℕ) → begins wanted (char ∷ rest) ≡ false
    → first_position wanted position (char ∷ rest) ≡ first_position wanted (position + 1) rest
first_is_later wanted position char rest e = rw e refl

pub first_is_nowhere : (wanted : List ℕ) (position : ℕ) → wanted ≢ [] → first_position wanted position [] ≡ 0
first_is_nowhere [] position some = absurd (some refl)
first_is_nowhere (char ∷ rest) position some = refl

pub some_char : (text : List ℕ) → IsUtf8 text → length text ≢ 0 → chars text ≢ []
some_char text told some none = some (ap length (sym (encodes-chars text told) ∙ ap encode_utf8_all none))
