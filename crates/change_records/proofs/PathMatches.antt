-- How a path is matched part by part.
use Rattle.std.proofs.Common.{◌≡◌, ◌≢◌, ℕ, ◌+◌, ◌<◌, ◌==◌, Bool, true, false, cond, List, [], ◌∷◌, ◌++◌, length, take, drop, refl, sym, ap, ◌∙◌, subst, arith, append_assoc, Some, None, MatchBool, bytes_eq, length-drop, not, IsTrue, Option, is_some}
use Rattle.std.proofs.lemmas.List.{append-nil}
use Rattle.std.proofs.lemmas.Bool.{false_from_ne_true}
use Rattle.std.proofs.lemmas.Bool.Decides.{Decides-eqb}
use Rattle.memchr.specs.Find.{IsFirstByte, is_byte}
use Rattle.change_records.specs.Patterns.{parts_behind, parts_of, HasBytes, MatchesPart, MatchesParts, MatchesPath, any_rest}
use Rattle.change_records.proofs.PartMatches.{HasNone, none-found, one-found}

no_slash : (x : ℕ) → x ≢ 47 → (x == 47) ≡ false
no_slash x other = false_from_ne_true _ (λ same. other ((Decides-eqb x 47).0 same))

parts_behind-plain : (b xs : List ℕ) → HasNone 47 xs → parts_behind b xs ≡ (b ++ xs) ∷ []
parts_behind-plain b [] plain = ap (λ ys. ys ∷ []) (sym (append-nil b))
parts_behind-plain b (x ∷ xs) plain = rw (no_slash x plain.0) (parts_behind-plain (b ++ x ∷ []) xs plain.1 ∙ ap (λ ys. ys ∷ []) (append_assoc b (x ∷ []) xs))

parts_behind-part : (b xs ys : List ℕ) → HasNone 47 xs → parts_behind b (xs ++ 47 ∷ ys) ≡ (b ++ xs) ∷ parts_behind [] ys
parts_behind-part b [] ys plain = ap (λ zs. zs ∷ parts_behind [] ys) (sym (append-nil b))
parts_behind-part b (x ∷ xs) ys plain = rw (no_slash x plain.0) (parts_behind-part (b ++ x ∷ []) xs ys plain.1 ∙ ap (λ zs. zs ∷ parts_behind [] ys) (append_assoc b (x ∷ []) xs))

some_part : (b xs : List ℕ) → (part : List ℕ) × (parts : List (List ℕ)) × (parts_behind b xs ≡ part ∷ parts)
some_part b [] = (b, [], refl)
some_part b (x ∷ xs) =
    elim (x == 47) as (λ t. (part : List ℕ) × (parts : List (List ℕ)) × (cond t (b ∷ parts_behind [] xs) (parts_behind (b ++ x ∷ []) xs) ≡ part ∷ parts)) [
      | true ↦ (b, parts_behind [] xs, refl)
      | false ↦ some_part (b ++ x ∷ []) xs
    ]

pub one_part : (text : List ℕ) → IsFirstByte (is_byte 47) text None → parts_of text ≡ text ∷ []
unfolding parts_of
one_part text nowhere = parts_behind-plain [] text (none-found 47 text nowhere)

pub first_part : (text part rest : List ℕ) (at : ℕ) → IsFirstByte (is_byte 47) text (Some at) → part ≡ take at text → rest ≡ drop 1 (drop at text) → parts_of text ≡ part ∷ parts_of rest
unfolding parts_of
first_part text part rest at found part_is rest_is =
    let (within, plain, is) = one-found 47 text at found in
    ap (parts_behind []) is ∙ parts_behind-part [] (take at text) (drop 1 (drop at text)) plain
    ∙ ap (λ p. p ∷ parts_behind [] (drop 1 (drop at text))) (sym part_is) ∙ ap (λ r. part ∷ parts_behind [] r) (sym rest_is)

nonempty : (text : List ℕ) → (part : List ℕ) × (parts : List (List ℕ)) × (parts_of text ≡ part ∷ parts)
unfolding parts_of
nonempty text = some_part [] text

-- no part is left for a pattern
no_parts : (pattern : List (List ℕ)) → MatchesParts pattern [] → ⊥
no_parts [] m = m
no_parts (last ∷ []) m =
    by_rest (bytes_eq last any_rest) m where
      by_rest : (t : Bool) → MatchBool t (HasBytes []) ((part : List ℕ) × ([] ≡ part ∷ []) × MatchesPart last part) → ⊥
      by_rest true m = m
      by_rest false (part, is, m) = cc
no_parts (first ∷ next ∷ pattern) (part, rest, is, m, ms) = cc

-- one part of both
pub parts_step : (first : List ℕ) (pattern : List ℕ) (part : List ℕ) (path : List ℕ) → (MatchesPart first part → MatchesParts (parts_of pattern) (parts_of path) → MatchesParts (first ∷ parts_of pattern) (part ∷ parts_of path)) × (MatchesParts (first ∷ parts_of pattern) (part ∷ parts_of path) → MatchesPart first part × MatchesParts (parts_of pattern) (parts_of path))
parts_step first pattern part path = by_next (parts_of pattern) (nonempty pattern) where
  by_next : (ps : List (List ℕ)) → (q : List ℕ) × (qs : List (List ℕ)) × (ps ≡ q ∷ qs) → (MatchesPart first part → MatchesParts ps (parts_of path) → MatchesParts (first ∷ ps) (part ∷ parts_of path)) × (MatchesParts (first ∷ ps) (part ∷ parts_of path) → MatchesPart first part × MatchesParts ps (parts_of path))
  by_next [] (q, qs, e) = absurd (let no : ⊥ = cc in no)
  by_next (next ∷ ps) _ = (
    λ m ms. (part, parts_of path, refl, m, ms),
    λ (part2, rest, is, m, ms). let e : part2 ≡ part = cc in let f : rest ≡ parts_of path = cc in (subst (MatchesPart first) e m, subst (MatchesParts (next ∷ ps)) f ms),
  )

-- a pattern of more parts doesn't match a path of one
pub parts_stop : (first : List ℕ) (pattern : List ℕ) (path : List ℕ) → MatchesParts (first ∷ parts_of pattern) (path ∷ []) → ⊥
parts_stop first pattern path = by_next (parts_of pattern) (nonempty pattern) where
  by_next : (ps : List (List ℕ)) → (q : List ℕ) × (qs : List (List ℕ)) × (ps ≡ q ∷ qs) → MatchesParts (first ∷ ps) (path ∷ []) → ⊥
  by_next [] (q, qs, e) _ = absurd (let no : ⊥ = cc in no)
  by_next (next ∷ ps) _ (part2, rest, is, m, ms) = let f : rest ≡ [] = cc in no_parts (next ∷ ps) (subst (MatchesParts (next ∷ ps)) f ms)

more_parts : (part : List ℕ) (parts : List (List ℕ)) → (q : List ℕ) × (qs : List (List ℕ)) × (parts ≡ q ∷ qs) → HasBytes (part ∷ parts)
more_parts part parts (q, qs, e) = subst (λ ps. HasBytes (part ∷ ps)) (sym e) tt

-- a text with bytes has a part with bytes, or more parts than one
has_bytes : (byte : ℕ) (begun text : List ℕ) → HasBytes (parts_behind (byte ∷ begun) text)
has_bytes byte begun [] = omega arith
has_bytes byte begun (x ∷ xs) =
    elim (x == 47) as (λ t. HasBytes (cond t ((byte ∷ begun) ∷ parts_behind [] xs) (parts_behind ((byte ∷ begun) ++ x ∷ []) xs))) [
      | true ↦ more_parts (byte ∷ begun) (parts_behind [] xs) (some_part [] xs)
      | false ↦ has_bytes byte (begun ++ x ∷ []) xs
    ]

path_bytes : (byte : ℕ) (text : List ℕ) → HasBytes (parts_of (byte ∷ text))
unfolding parts_of
path_bytes byte text =
    elim (byte == 47) as (λ t. HasBytes (cond t ([] ∷ parts_behind [] text) (parts_behind (byte ∷ []) text))) [
      | true ↦ more_parts [] (parts_behind [] text) (some_part [] text)
      | false ↦ has_bytes byte [] text
    ]

no_bytes : HasBytes (parts_of []) → ⊥
unfolding parts_of
no_bytes h = omega arith

pub bytes_there : (text : List ℕ) → 0 < length text → HasBytes (parts_of text)
bytes_there [] h = absurd (let no : ⊥ = omega arith in no)
bytes_there (x ∷ xs) h = path_bytes x xs

pub there_bytes : (text : List ℕ) → HasBytes (parts_of text) → 0 < length text
there_bytes [] h = absurd (no_bytes h)
there_bytes (x ∷ xs) h = omega arith

-- the last part, where it stands for any rest
pub last_any : (last path : List ℕ) (e : Bool) → bytes_eq last any_rest ≡ true → e ≡ (length path == 0) → (IsTrue (not e) → MatchesParts (last ∷ []) (parts_of path)) × (MatchesParts (last ∷ []) (parts_of path) → IsTrue (not e))
last_any last path e is empty = (
  λ h. subst (λ b. MatchBool b (HasBytes (parts_of path)) ((part : List ℕ) × (parts_of path ≡ part ∷ []) × MatchesPart last part)) (sym is) (bytes_there path (long path (sym empty ∙ not_true e h))),
  λ m. ap not empty ∙ short path (there_bytes path (subst (λ b. MatchBool b (HasBytes (parts_of path)) ((part : List ℕ) × (parts_of path ≡ part ∷ []) × MatchesPart last part)) is m)),
) where
  not_true : (b : Bool) → IsTrue (not b) → b ≡ false
  not_true true h = cc
  not_true false h = refl

  long : (text : List ℕ) → (length text == 0) ≡ false → 0 < length text
  long [] h = absurd (let no : ⊥ = cc in no)
  long (x ∷ xs) h = omega arith

  short : (text : List ℕ) → 0 < length text → not (length text == 0) ≡ true
  short [] h = absurd (let no : ⊥ = omega arith in no)
  short (x ∷ xs) h = ap not (false_from_ne_true (length (x ∷ xs) == 0) (λ same. let e : length (x ∷ xs) ≡ 0 = (Decides-eqb (length (x ∷ xs)) 0).0 same in let no : ⊥ = omega arith in no))

-- the last part against the only one
pub last_one : (last path : List ℕ) (found : Option ℕ) → bytes_eq last any_rest ≡ false → IsFirstByte (is_byte 47) path found → is_some found ≡ false → (MatchesPart last path → MatchesParts (last ∷ []) (parts_of path)) × (MatchesParts (last ∷ []) (parts_of path) → MatchesPart last path)
last_one last path (Some at) other first none = absurd (let no : ⊥ = cc in no)
last_one last path None other first none =
    let one = one_part path first in (
      λ m. subst (λ b. MatchBool b (HasBytes (parts_of path)) ((part : List ℕ) × (parts_of path ≡ part ∷ []) × MatchesPart last part)) (sym other) (path, one, m),
      λ m. only one (subst (λ b. MatchBool b (HasBytes (parts_of path)) ((part : List ℕ) × (parts_of path ≡ part ∷ []) × MatchesPart last part)) other m),
    ) where
      only : parts_of path ≡ path ∷ [] → (part : List ℕ) × (parts_of path ≡ part ∷ []) × MatchesPart last part → MatchesPart last path
      only one (part, is, m) = let same : part ≡ path = cc in subst (MatchesPart last) same m

pub last_many : (last path : List ℕ) (found : Option ℕ) → bytes_eq last any_rest ≡ false → IsFirstByte (is_byte 47) path found → is_some found ≡ true → MatchesParts (last ∷ []) (parts_of path) → ⊥
last_many last path None other first some m = let no : ⊥ = cc in no
last_many last path (Some at) other first some m =
    many (first_part path (take at path) (drop 1 (drop at path)) at first refl refl) (nonempty (drop 1 (drop at path)))
    (subst (λ b. MatchBool b (HasBytes (parts_of path)) ((part : List ℕ) × (parts_of path ≡ part ∷ []) × MatchesPart last part)) other m) where
      many : parts_of path ≡ take at path ∷ parts_of (drop 1 (drop at path)) → (part : List ℕ) × (parts : List (List ℕ)) × (parts_of (drop 1 (drop at path)) ≡ part ∷ parts) → (part : List ℕ) × (parts_of path ≡ part ∷ []) × MatchesPart last part → ⊥
      many first_is (q, qs, more) (part, is, m2) = let no : ⊥ = cc in no

-- a pattern with a slash doesn't match a path without one
pub path_stop : (P T : List ℕ) (at : ℕ) → IsFirstByte (is_byte 47) P (Some at) → IsFirstByte (is_byte 47) T None → MatchesParts (parts_of P) (parts_of T) → ⊥
path_stop P T at first nowhere m =
    parts_stop (take at P) (drop 1 (drop at P)) T
    (subst (λ ps. MatchesParts ps (T ∷ [])) (first_part P (take at P) (drop 1 (drop at P)) at first refl refl) (subst (MatchesParts (parts_of P)) (one_part T nowhere) m))

-- one part of pattern and path
pub path_step : (P T first part nextP nextT : List ℕ) (at end : ℕ) → IsFirstByte (is_byte 47) P (Some at) → first ≡ take at P → nextP ≡ drop 1 (drop at P) → IsFirstByte (is_byte 47) T (Some end) → part ≡ take end T → nextT ≡ drop 1 (drop end T) → (MatchesPart first part → MatchesParts (parts_of nextP) (parts_of nextT) → MatchesParts (parts_of P) (parts_of T)) × (MatchesParts (parts_of P) (parts_of T) → MatchesPart first part × MatchesParts (parts_of nextP) (parts_of nextT))
path_step P T first part nextP nextT at end foundP first_is nextP_is foundT part_is nextT_is =
    let parts_P = first_part P first nextP at foundP first_is nextP_is in
    let parts_T = first_part T part nextT end foundT part_is nextT_is in
    let step = parts_step first nextP part nextT in (
      λ m ms. subst (λ ps. MatchesParts ps (parts_of T)) (sym parts_P) (subst (MatchesParts (first ∷ parts_of nextP)) (sym parts_T) (step.0 m ms)),
      λ m. step.1 (subst (MatchesParts (first ∷ parts_of nextP)) parts_T (subst (λ ps. MatchesParts ps (parts_of T)) parts_P m)),
    )

-- what stands behind a path's first slash
pub any_behind : (path : List ℕ) (at : ℕ) → IsFirstByte (is_byte 47) path (Some at) → (at + 1 < length path → HasBytes (drop 1 (parts_of path))) × (HasBytes (drop 1 (parts_of path)) → at + 1 < length path)
any_behind path at first =
    let rest = drop 1 (drop at path) in
    let parts = ap (drop 1) (first_part path (take at path) rest at first refl refl) in
    let one = length-drop 1 (drop at path) in
    let all = length-drop at path in (
      λ h. subst HasBytes (sym parts) (bytes_there rest (let g : 0 < length rest = omega arith in g)),
      λ h. let g = there_bytes rest (subst HasBytes parts h) in omega arith,
    )

pub none_behind : (path : List ℕ) → IsFirstByte (is_byte 47) path None → HasBytes (drop 1 (parts_of path)) → ⊥
none_behind path nowhere h = subst HasBytes (ap (drop 1) (one_part path nowhere)) h

-- a pattern that stands for any rest
pub path_any : (pattern path : List ℕ) → bytes_eq pattern any_rest ≡ true → (HasBytes (drop 1 (parts_of path)) → MatchesPath pattern path) × (MatchesPath pattern path → HasBytes (drop 1 (parts_of path)))
path_any pattern path is = (
  λ h. subst (λ b. MatchBool b (HasBytes (drop 1 (parts_of path))) (MatchesParts (parts_of pattern) (parts_of path))) (sym is) h,
  λ m. subst (λ b. MatchBool b (HasBytes (drop 1 (parts_of path))) (MatchesParts (parts_of pattern) (parts_of path))) is m,
)
