-- A piece of a pattern, which has no `%`, against what a text begins or ends with.
use Rattle.std.proofs.Common.{◌≡◌, ◌≢◌, ℕ, ◌+◌, ◌<◌, ◌≤◌, ◌==◌, ◌||◌, ◌&&◌, if◌then◌else◌, Bool, true, false, Option, Some, None, List, [], ◌∷◌, ◌++◌, length, take, drop, take_at, refl, ap, sym, subst, ◌∙◌, arith, eqb-true, eq-eqb, append_assoc, append-nil, length-append}
use Rattle.std.specs.Char.{encode_utf8, to_ascii_lowercase}
use Rattle.std.specs.Str.{chars, IsUtf8, encode_utf8_all}
use Rattle.std.proofs.Math.Seq.{drop-append-add, drop-length}
use Rattle.std.proofs.lemmas.Bool.{or_right}
use Rattle.std.proofs.lemmas.Str.{chars-nil, chars-append, encodes-chars, encodes-append, length-encode, len_utf8_bounds, IsUtf8-append, IsUtf8-nil, IsUtf8-take, IsCharBoundary-at_seam}
use Rattle.sql_scalar.specs.Likeness.{somewhere, one_and, fits_one, is_empty, is_like}
use Rattle.sql_scalar.specs.Pieces.{behind, Lacks, IsLower, IsEnd}
use Rattle.sql_scalar.proofs.CharSteps.{no_char}
use Rattle.sql_scalar.proofs.Retries.{here, twice, behind_first, somewhere-alike, as_one}

-- the pattern goes on behind a piece that fits
pub piece_fits : (piece others text rest : List ℕ) → Lacks 37 piece → behind piece text ≡ Some rest
    → is_like (piece ++ others) text ≡ is_like others rest
piece_fits [] others text rest plain e = ap (is_like others) (let same : text ≡ rest = cc in same)
piece_fits (sign ∷ piece) others [] rest plain e = absurd (let no : ⊥ = cc in no)
piece_fits (sign ∷ piece) others (char ∷ text) rest plain e = by (fits_one sign char) refl (piece_fits piece others text rest plain.1) where
  by : (b : Bool) → fits_one sign char ≡ b → (behind piece text ≡ Some rest → is_like (piece ++ others) text ≡ is_like others rest)
      → is_like (sign ∷ (piece ++ others)) (char ∷ text) ≡ is_like others rest
  by true fits on =
      as_one sign (piece ++ others) plain.0 (char ∷ text) ∙ ap (λ b. b && is_like (piece ++ others) text) fits
      ∙ on (sym (ap (λ b. if b then behind piece text else None) fits) ∙ e)
  by false fits on = absurd (let none : None ≡ Some rest = sym (ap (λ b. if b then behind piece text else None) fits) ∙ e in let no : ⊥ = cc in no)

pub piece_misses : (piece others text : List ℕ) → Lacks 37 piece → behind piece text ≡ None → is_like (piece ++ others) text ≡ false
piece_misses [] others text plain e = absurd (let no : ⊥ = cc in no)
piece_misses (sign ∷ piece) others [] plain e = as_one sign (piece ++ others) plain.0 []
piece_misses (sign ∷ piece) others (char ∷ text) plain e = by (fits_one sign char) refl (piece_misses piece others text plain.1) where
  by : (b : Bool) → fits_one sign char ≡ b → (behind piece text ≡ None → is_like (piece ++ others) text ≡ false)
      → is_like (sign ∷ (piece ++ others)) (char ∷ text) ≡ false
  by true fits on =
      as_one sign (piece ++ others) plain.0 (char ∷ text) ∙ ap (λ b. b && is_like (piece ++ others) text) fits
      ∙ on (sym (ap (λ b. if b then behind piece text else None) fits) ∙ e)
  by false fits on = as_one sign (piece ++ others) plain.0 (char ∷ text) ∙ ap (λ b. b && is_like (piece ++ others) text) fits

-- a later place of the piece leaves no more of the text
onward : (piece others text rest : List ℕ) → Lacks 37 piece → behind piece text ≡ Some rest
    → somewhere (is_like (piece ++ 37 ∷ others)) text ≡ true → somewhere (is_like others) rest ≡ true
onward [] others text rest plain e h =
    let same : text ≡ rest = cc in
    subst (λ u. somewhere (is_like others) u ≡ true) same
    (twice (is_like others) text (sym (somewhere-alike (is_like (37 ∷ others)) (somewhere (is_like others)) (λ u. refl) text) ∙ h))
onward (sign ∷ piece) others [] rest plain e h = absurd (let no : ⊥ = cc in no)
onward (sign ∷ piece) others (char ∷ text) rest plain e h = by (fits_one sign char) refl (onward piece others text rest plain.1) where
  by : (b : Bool) → fits_one sign char ≡ b
      → (behind piece text ≡ Some rest → somewhere (is_like (piece ++ 37 ∷ others)) text ≡ true → somewhere (is_like others) rest ≡ true)
      → somewhere (is_like others) rest ≡ true
  by true fits on =
      on (sym (ap (λ b. if b then behind piece text else None) fits) ∙ e)
      (behind_first sign (is_like (piece ++ 37 ∷ others)) char text
      (sym (somewhere-alike (is_like (sign ∷ (piece ++ 37 ∷ others))) (one_and sign (is_like (piece ++ 37 ∷ others)))
      (as_one sign (piece ++ 37 ∷ others) plain.0) (char ∷ text)) ∙ h))
  by false fits on = absurd (let none : None ≡ Some rest = sym (ap (λ b. if b then behind piece text else None) fits) ∙ e in let no : ⊥ = cc in no)

pub equal_by : (a b : Bool) → (a ≡ true → b ≡ true) → (b ≡ true → a ≡ true) → a ≡ b
equal_by true b f g = sym (f refl)
equal_by false true f g = g refl
equal_by false false f g = refl

-- so where a piece fits, what is left behind it decides
pub first_fit : (piece others text rest : List ℕ) → Lacks 37 piece → behind piece text ≡ Some rest
    → somewhere (is_like (piece ++ 37 ∷ others)) text ≡ somewhere (is_like others) rest
first_fit piece others text rest plain e =
    equal_by _ _ (onward piece others text rest plain e)
    (λ h. here (is_like (piece ++ 37 ∷ others)) text (piece_fits piece (37 ∷ others) text rest plain e ∙ h))

pub no_fit : (piece others text rest : List ℕ) (char : ℕ) → Lacks 37 piece → behind piece text ≡ None → text ≡ char ∷ rest
    → somewhere (is_like (piece ++ 37 ∷ others)) text ≡ somewhere (is_like (piece ++ 37 ∷ others)) rest
no_fit piece others text rest char plain e is =
    let test = is_like (piece ++ 37 ∷ others) in
    ap (somewhere test) is ∙ ap (λ b. b || somewhere test rest) (sym (ap test is) ∙ piece_misses piece (37 ∷ others) text plain e)

pub no_fit_at_all : (piece others text : List ℕ) → Lacks 37 piece → behind piece text ≡ None → text ≡ []
    → somewhere (is_like (piece ++ 37 ∷ others)) text ≡ false
no_fit_at_all piece others text plain e is =
    let test = is_like (piece ++ 37 ∷ others) in ap (somewhere test) is ∙ sym (ap test is) ∙ piece_misses piece (37 ∷ others) text plain e

-- parts of a text

pub end_trans : (text middle rest : List ℕ) → IsEnd text middle → IsEnd middle rest → IsEnd text rest
end_trans text middle rest first second =
    (first.0 ++ second.0, first.1 ∙ ap (λ l. first.0 ++ l) second.1 ∙ sym (append_assoc first.0 second.0 rest))

pub behind_end : (piece text rest : List ℕ) → behind piece text ≡ Some rest → IsEnd text rest
behind_end [] text rest e = ([], let same : text ≡ rest = cc in same)
behind_end (sign ∷ piece) [] rest e = absurd (let no : ⊥ = cc in no)
behind_end (sign ∷ piece) (char ∷ text) rest e = by (fits_one sign char) refl (behind_end piece text rest) where
  by : (b : Bool) → fits_one sign char ≡ b → (behind piece text ≡ Some rest → IsEnd text rest) → IsEnd (char ∷ text) rest
  by true fits on =
      let end = on (sym (ap (λ b. if b then behind piece text else None) fits) ∙ e) in
      (char ∷ end.0, ap (λ l. char ∷ l) end.1)
  by false fits on = absurd (let none : None ≡ Some rest = sym (ap (λ b. if b then behind piece text else None) fits) ∙ e in let no : ⊥ = cc in no)

pub lower_end : (front rest : List ℕ) → IsLower (front ++ rest) → IsLower rest
lower_end [] rest h = h
lower_end (char ∷ front) rest h = lower_end front rest h.1

pub lower_front : (front rest : List ℕ) → IsLower (front ++ rest) → IsLower front
lower_front [] rest h = tt
lower_front (char ∷ front) rest h = (h.0, lower_front front rest h.1)

pub lacks_end : (sign : ℕ) (front rest : List ℕ) → Lacks sign (front ++ rest) → Lacks sign rest
lacks_end sign [] rest h = h
lacks_end sign (char ∷ front) rest h = lacks_end sign front rest h.1

pub lacks_front : (sign : ℕ) (front rest : List ℕ) → Lacks sign (front ++ rest) → Lacks sign front
lacks_front sign [] rest h = tt
lacks_front sign (char ∷ front) rest h = (h.0, lacks_front sign front rest h.1)

-- in lower case a sign that isn't `_` fits itself alone

same_char : (sign char : ℕ) → (sign == 95) ≡ false → to_ascii_lowercase sign ≡ sign → to_ascii_lowercase char ≡ char
    → fits_one sign char ≡ true → sign ≡ char
same_char sign char exact low low' fits =
    sym low ∙ eqb-true _ _ (sym (ap (λ b. b || (to_ascii_lowercase sign == to_ascii_lowercase char)) exact) ∙ fits) ∙ low'

spelled : (piece text rest : List ℕ) → Lacks 95 piece → IsLower piece → IsLower text → behind piece text ≡ Some rest → text ≡ piece ++ rest
spelled [] text rest exact low low' e = let same : text ≡ rest = cc in same
spelled (sign ∷ piece) [] rest exact low low' e = absurd (let no : ⊥ = cc in no)
spelled (sign ∷ piece) (char ∷ text) rest exact low low' e = by (fits_one sign char) refl (spelled piece text rest exact.1 low.1 low'.1) where
  by : (b : Bool) → fits_one sign char ≡ b → (behind piece text ≡ Some rest → text ≡ piece ++ rest) → char ∷ text ≡ sign ∷ (piece ++ rest)
  by true fits on =
      ap (λ c. c ∷ text) (sym (same_char sign char exact.0 low.0 low'.0 fits))
      ∙ ap (λ l. sign ∷ l) (on (sym (ap (λ b. if b then behind piece text else None) fits) ∙ e))
  by false fits on = absurd (let none : None ≡ Some rest = sym (ap (λ b. if b then behind piece text else None) fits) ∙ e in let no : ⊥ = cc in no)

fits_itself : (sign : ℕ) → fits_one sign sign ≡ true
fits_itself sign = or_right (sign == 95) (to_ascii_lowercase sign == to_ascii_lowercase sign) (eq-eqb _ _ refl)

behind_itself : (piece rest : List ℕ) → behind piece (piece ++ rest) ≡ Some rest
behind_itself [] rest = refl
behind_itself (sign ∷ piece) rest = ap (λ b. if b then behind piece (piece ++ rest) else None) (fits_itself sign) ∙ behind_itself piece rest

-- a piece whose bytes stand at no place of a text before its end fits at none of its characters before it
module _ (piece back others : List ℕ) (told : IsUtf8 piece) (back_told : IsUtf8 back) (plain : Lacks 37 (chars piece)) (exact : Lacks 95 (chars piece)) (low : IsLower (chars piece)) where
  misses_here : (text : List ℕ) → IsLower text → ((rest : List ℕ) → encode_utf8_all text ≢ piece ++ rest) → behind (chars piece) text ≡ None
  misses_here text low' none = by (behind (chars piece) text) refl where
    by : (r : Option (List ℕ)) → behind (chars piece) text ≡ r → behind (chars piece) text ≡ None
    by None e = e
    by (Some rest) e = absurd (none (encode_utf8_all rest)
        (ap encode_utf8_all (spelled (chars piece) text rest exact low low' e) ∙ encodes-append (chars piece) rest
        ∙ ap (λ l. l ++ encode_utf8_all rest) (encodes-chars piece told)))

  spells : (cs : List ℕ) → encode_utf8_all (cs ++ chars back) ≡ encode_utf8_all cs ++ back
  spells cs = encodes-append cs (chars back) ∙ ap (λ l. encode_utf8_all cs ++ l) (encodes-chars back back_told)

  skip_front : (cs : List ℕ) → IsLower (cs ++ chars back)
      → ((n : ℕ) → n < length (encode_utf8_all cs) → (rest : List ℕ) → drop n (encode_utf8_all cs ++ back) ≢ piece ++ rest)
      → somewhere (is_like (chars piece ++ 37 ∷ others)) (cs ++ chars back) ≡ somewhere (is_like (chars piece ++ 37 ∷ others)) (chars back)
  skip_front [] low' none = refl
  skip_front (char ∷ cs) low' none =
      let wide = length-append (encode_utf8 char) (encode_utf8_all cs) in
      let some = (len_utf8_bounds char).0 in
      let size = length-encode char in
      no_fit (chars piece) others (char ∷ (cs ++ chars back)) (cs ++ chars back) char plain
      (misses_here (char ∷ (cs ++ chars back)) low' (λ rest is. none 0 (omega (arith, wide, some, size)) rest (sym (spells (char ∷ cs)) ∙ is)))
      refl
      ∙ skip_front cs low'.1 (λ n within rest is. none (length (encode_utf8 char) + n) (omega (arith, wide, within)) rest
      (ap (drop (length (encode_utf8 char) + n)) (append_assoc (encode_utf8 char) (encode_utf8_all cs) back)
      ∙ drop-append-add (encode_utf8 char) (encode_utf8_all cs ++ back) n ∙ is))

front_text : (text front back : List ℕ) → IsUtf8 text → IsUtf8 back → text ≡ front ++ back → IsUtf8 front
front_text text front back told back_told split =
    subst IsUtf8 (ap (take (length front)) split ∙ take_at front back (length front) refl)
    (IsUtf8-take text (length front) told (IsCharBoundary-at_seam text front back split back_told))

-- the place before which the piece stands nowhere
pub found_piece : (piece text front rest : List ℕ) → IsUtf8 piece → IsUtf8 text → IsUtf8 rest → Lacks 37 (chars piece) → Lacks 95 (chars piece)
    → IsLower (chars piece) → IsLower (chars text) → text ≡ front ++ (piece ++ rest)
    → ((n : ℕ) → n < length front → (more : List ℕ) → drop n text ≢ piece ++ more)
    → ((others : List ℕ) → somewhere (is_like (chars piece ++ 37 ∷ others)) (chars text) ≡ somewhere (is_like others) (chars rest))
    × IsEnd (chars text) (chars rest)
found_piece piece text front rest told text_told rest_told plain exact low low' split none =
    let back = piece ++ rest in
    let back_told : IsUtf8 (piece ++ rest) = IsUtf8-append piece rest told rest_told in
    let front_told : IsUtf8 front = front_text text front back text_told back_told split in
    let parts : chars text ≡ chars front ++ chars back = ap chars split ∙ chars-append front back front_told in
    let spelt : encode_utf8_all (chars front) ≡ front = encodes-chars front front_told in (
      (λ others.
          ap (somewhere (is_like (chars piece ++ 37 ∷ others))) parts
          ∙ skip_front piece back others told back_told plain exact low (chars front) (subst IsLower parts low')
          (λ n within more is. none n (subst (λ l. n < length l) spelt within) more
          (ap (drop n) (split ∙ ap (λ l. l ++ back) (sym spelt)) ∙ is))
          ∙ first_fit (chars piece) others (chars back) (chars rest) plain
          (ap (behind (chars piece)) (chars-append piece rest told) ∙ behind_itself (chars piece) (chars rest))),
      (
        chars front ++ chars piece,
        parts ∙ ap (λ l. chars front ++ l) (chars-append piece rest told) ∙ sym (append_assoc (chars front) (chars piece) (chars rest)),
      ),
    )

-- the piece stands nowhere
pub found_nowhere : (piece text others : List ℕ) → IsUtf8 piece → IsUtf8 text → Lacks 37 (chars piece) → Lacks 95 (chars piece)
    → IsLower (chars piece) → IsLower (chars text) → ((n : ℕ) → n ≤ length text → (more : List ℕ) → drop n text ≢ piece ++ more)
    → somewhere (is_like (chars piece ++ 37 ∷ others)) (chars text) ≡ false
found_nowhere piece text others told text_told plain exact low low' none =
    let test = is_like (chars piece ++ 37 ∷ others) in
    let spelt = encodes-chars text text_told in
    let whole : chars text ++ chars [] ≡ chars text = ap (λ l. chars text ++ l) chars-nil ∙ append-nil (chars text) in
    ap (somewhere test) (sym whole)
    ∙ skip_front piece [] others told IsUtf8-nil plain exact low (chars text) (subst IsLower (sym whole) low')
    (λ n within more is. none n (let le : n ≤ length text = omega (arith, ap length spelt, within) in le) more
    (ap (drop n) (sym (append-nil text) ∙ ap (λ l. l ++ []) (sym spelt)) ∙ is))
    ∙ ap (somewhere test) chars-nil
    ∙ piece_misses (chars piece) (37 ∷ others) [] plain
    (misses_here piece [] others told IsUtf8-nil plain exact low [] tt
    (λ more is. none (length text) (let le : length text ≤ length text = omega arith in le) more (drop-length text ∙ is)))

-- the end of a text

and-true : (b : Bool) → (b && true) ≡ b
and-true true = refl
and-true false = refl

and-false : (b : Bool) → (b && false) ≡ false
and-false true = refl
and-false false = refl

and-assoc : (a b c : Bool) → (a && (b && c)) ≡ ((a && b) && c)
and-assoc true b c = refl
and-assoc false b c = refl

no_sign_left : (piece : List ℕ) (sign : ℕ) → Lacks 37 piece → (sign == 37) ≡ false → is_like (piece ++ sign ∷ []) [] ≡ false
no_sign_left [] sign plain last = as_one sign [] last []
no_sign_left (other ∷ piece) sign plain last = as_one other (piece ++ sign ∷ []) plain.0 []

last_fits : (piece text : List ℕ) (sign char : ℕ) → Lacks 37 piece → (sign == 37) ≡ false
    → is_like (piece ++ sign ∷ []) (text ++ char ∷ []) ≡ (is_like piece text && fits_one sign char)
last_fits [] [] sign char plain last = as_one sign [] last (char ∷ []) ∙ and-true (fits_one sign char)
last_fits [] (first ∷ []) sign char plain last = as_one sign [] last (first ∷ char ∷ []) ∙ and-false (fits_one sign first)
last_fits [] (first ∷ second ∷ text) sign char plain last =
    as_one sign [] last (first ∷ second ∷ (text ++ char ∷ [])) ∙ and-false (fits_one sign first)
last_fits (other ∷ piece) [] sign char plain last =
    as_one other (piece ++ sign ∷ []) plain.0 (char ∷ [])
    ∙ ap (λ b. fits_one other char && b) (no_sign_left piece sign plain.1 last) ∙ and-false (fits_one other char)
    ∙ ap (λ b. b && fits_one sign char) (sym (as_one other piece plain.0 []))
last_fits (other ∷ piece) (first ∷ text) sign char plain last =
    as_one other (piece ++ sign ∷ []) plain.0 (first ∷ (text ++ char ∷ []))
    ∙ ap (λ b. fits_one other first && b) (last_fits piece text sign char plain.1 last)
    ∙ and-assoc (fits_one other first) (is_like piece text) (fits_one sign char)
    ∙ ap (λ b. b && fits_one sign char) (sym (as_one other piece plain.0 (first ∷ text)))

shared : (a b f : Bool) → ((a && f) || (f && b)) ≡ (f && (a || b))
shared true b true = refl
shared false b true = refl
shared true b false = refl
shared false b false = refl

alone : (a f : Bool) → ((a && f) || false) ≡ (f && a)
alone true true = refl
alone false true = refl
alone true false = refl
alone false false = refl

somewhere_last : (piece text : List ℕ) (sign char : ℕ) → Lacks 37 piece → (sign == 37) ≡ false
    → somewhere (is_like (piece ++ sign ∷ [])) (text ++ char ∷ []) ≡ (fits_one sign char && somewhere (is_like piece) text)
somewhere_last piece [] sign char plain last =
    ap (λ b. is_like (piece ++ sign ∷ []) (char ∷ []) || b) (no_sign_left piece sign plain last)
    ∙ ap (λ b. b || false) (last_fits piece [] sign char plain last)
    ∙ alone (is_like piece []) (fits_one sign char)
somewhere_last piece (first ∷ text) sign char plain last =
    ap (λ b. b || somewhere (is_like (piece ++ sign ∷ [])) (text ++ char ∷ [])) (last_fits piece (first ∷ text) sign char plain last)
    ∙ ap (λ b. (is_like piece (first ∷ text) && fits_one sign char) || b) (somewhere_last piece text sign char plain last)
    ∙ shared (is_like piece (first ∷ text)) (somewhere (is_like piece) text) (fits_one sign char)

-- the last sign against the last character
pub at_last : (signs piece whole text : List ℕ) (sign char : ℕ) → signs ≡ piece ++ sign ∷ [] → whole ≡ text ++ char ∷ [] → Lacks 37 signs
    → somewhere (is_like signs) whole ≡ (fits_one sign char && somewhere (is_like piece) text)
at_last signs piece whole text sign char is has plain =
    let parts = subst (Lacks 37) is plain in
    ap (λ s. somewhere (is_like s) whole) is ∙ ap (somewhere (is_like (piece ++ sign ∷ []))) has
    ∙ somewhere_last piece text sign char (lacks_front 37 piece (sign ∷ []) parts) (lacks_end 37 piece (sign ∷ []) parts).0

pub none_at_last : (signs piece whole : List ℕ) (sign : ℕ) → signs ≡ piece ++ sign ∷ [] → whole ≡ [] → Lacks 37 signs
    → somewhere (is_like signs) whole ≡ false
none_at_last signs piece whole sign is has plain =
    let parts = subst (Lacks 37) is plain in
    ap (λ s. somewhere (is_like s) whole) is ∙ ap (somewhere (is_like (piece ++ sign ∷ []))) has
    ∙ no_sign_left piece sign (lacks_front 37 piece (sign ∷ []) parts) (lacks_end 37 piece (sign ∷ []) parts).0

-- a pattern without `%`, and the piece before the first one

pub whole_fits : (piece text rest : List ℕ) → Lacks 37 piece → behind piece text ≡ Some rest → is_like piece text ≡ is_empty rest
whole_fits piece text rest plain e = ap (λ s. is_like s text) (sym (append-nil piece)) ∙ piece_fits piece [] text rest plain e

pub whole_misses : (piece text : List ℕ) → Lacks 37 piece → behind piece text ≡ None → is_like piece text ≡ false
whole_misses piece text plain e = ap (λ s. is_like s text) (sym (append-nil piece)) ∙ piece_misses piece [] text plain e

nothing : (cs : List ℕ) → is_empty cs ≡ true → cs ≡ []
nothing [] e = refl
nothing (char ∷ cs) e = absurd (let no : ⊥ = cc in no)

pub empty_text : (text : List ℕ) → IsUtf8 text → (length text == 0) ≡ is_empty (chars text)
empty_text text told =
    equal_by _ _ (λ e. ap is_empty (no_char text (eqb-true (length text) 0 e)))
    (λ e. eq-eqb (length text) 0 (ap length (sym (encodes-chars text told)) ∙ ap (λ cs. length (encode_utf8_all cs)) (nothing (chars text) e)))
