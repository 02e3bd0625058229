-- The lines of a text, from one line feed to the next.
use Rattle.std.proofs.Common.{◌≡◌, ◌≢◌, ℕ, suc, ◌<◌, ◌==◌, Bool, true, false, List, [], ◌∷◌, ◌++◌, length, length-append, get_or, refl, sym, ap, ◌∙◌, arith, append_assoc, bytes_eq, nat_eq}
use Rattle.std.specs.Prelude.{◌||◌, codes}
use Rattle.std.specs.List.{flat_map, starts_with}
use Rattle.std.proofs.lemmas.List.{append-nil}
use Rattle.std.proofs.lemmas.Bool.{false_from_ne_true}
use Rattle.std.proofs.lemmas.Bool.Decides.{Decides-eqb}
use Rattle.std.proofs.lemmas.Slice.Eq.{bytes_eq-Decides}
use Rattle.osq_config.specs.Documents.{lines_of, in_first, without_continuation, behind_blanks, is_comment, unless_comment}

-- no line feed stands in it
abbrev pub IsLine : List ℕ → Type 0
IsLine xs = (i : ℕ) → i < length xs → get_or xs i 0 ≢ 10

first_other : (x : ℕ) (xs : List ℕ) → IsLine (x ∷ xs) → (x == 10) ≡ false
first_other x xs plain = false_from_ne_true _ (λ same. plain 0 (omega arith) ((Decides-eqb x 10).0 same))

rest_plain : (x : ℕ) (xs : List ℕ) → IsLine (x ∷ xs) → IsLine xs
rest_plain x xs plain = λ i h. plain (suc i) (omega arith)

-- a text without a line feed is one line
pub lines_of-line : (xs : List ℕ) → IsLine xs → lines_of xs ≡ xs ∷ []
lines_of-line [] plain = refl
lines_of-line (x ∷ xs) plain = rw (first_other x xs plain) (ap (in_first x) (lines_of-line xs (rest_plain x xs plain)))

-- the first line, and those behind it
pub lines_of-more : (xs ys : List ℕ) → IsLine xs → lines_of (xs ++ 10 ∷ ys) ≡ (xs ++ 10 ∷ []) ∷ lines_of ys
lines_of-more [] ys plain = refl
lines_of-more (x ∷ xs) ys plain = rw (first_other x xs plain) (ap (in_first x) (lines_of-more xs ys (rest_plain x xs plain)))

same_not : (xs ys : List ℕ) → xs ≢ ys → bytes_eq xs ys ≡ false
same_not xs ys other = false_from_ne_true _ (λ same. other ((bytes_eq-Decides xs ys).0 same))

-- a line that goes on
pub joined-next : (xs : List ℕ) → without_continuation (xs ++ 92 ∷ 10 ∷ []) ≡ xs
joined-next [] = refl
joined-next (x ∷ xs) = rw (same_not (x ∷ (xs ++ 92 ∷ 10 ∷ [])) (92 ∷ 10 ∷ []) (longer xs)) (ap (λ ys. x ∷ ys) (joined-next xs)) where
  longer : (zs : List ℕ) → x ∷ (zs ++ 92 ∷ 10 ∷ []) ≢ 92 ∷ 10 ∷ []
  longer [] = λ e. let no : ⊥ = cc in no
  longer (z ∷ []) = λ e. let no : ⊥ = cc in no
  longer (z ∷ w ∷ zs) = λ e. let no : ⊥ = cc in no

-- a line that doesn't go on
pub joined-whole : (xs : List ℕ) → ((front : List ℕ) → xs ≢ front ++ 92 ∷ []) → without_continuation (xs ++ 10 ∷ []) ≡ xs ++ 10 ∷ []
joined-whole [] other = refl
joined-whole (x ∷ xs) other =
    rw (same_not (x ∷ (xs ++ 10 ∷ [])) (92 ∷ 10 ∷ []) (longer xs (other []))) (ap (λ ys. x ∷ ys) (joined-whole xs (λ front e. other (x ∷ front) (ap (λ ys. x ∷ ys) e)))) where
      longer : (zs : List ℕ) → x ∷ zs ≢ 92 ∷ [] → x ∷ (zs ++ 10 ∷ []) ≢ 92 ∷ 10 ∷ []
      longer [] unlike = λ e. unlike (cc)
      longer (z ∷ []) unlike = λ e. let no : ⊥ = cc in no
      longer (z ∷ w ∷ zs) unlike = λ e. let no : ⊥ = cc in no

-- the last line has no line feed to leave out
pub joined-last : (xs : List ℕ) → IsLine xs → without_continuation xs ≡ xs
joined-last [] plain = refl
joined-last (x ∷ xs) plain =
    rw (same_not (x ∷ xs) (92 ∷ 10 ∷ []) (λ e. plain 1 (second e) (found e))) (ap (λ ys. x ∷ ys) (joined-last xs (rest_plain x xs plain))) where
      second : x ∷ xs ≡ 92 ∷ 10 ∷ [] → 1 < length (x ∷ xs)
      second e = let size = ap (λ (ys : List ℕ). length ys) e in omega arith

      found : x ∷ xs ≡ 92 ∷ 10 ∷ [] → get_or (x ∷ xs) 1 0 ≡ 10
      found e = ap (λ (ys : List ℕ). get_or ys 1 0) e

-- the line feed of a line is no part of what makes it a comment
behind-end : (xs : List ℕ) → behind_blanks (xs ++ 10 ∷ []) ≡ behind_blanks xs ++ 10 ∷ []
behind-end [] = refl
behind-end (x ∷ xs) = by_blank x xs (behind-end xs) (x == 32 || x == 9) refl where
  by_blank : (x : ℕ) (xs : List ℕ) → behind_blanks (xs ++ 10 ∷ []) ≡ behind_blanks xs ++ 10 ∷ [] → (b : Bool) → (x == 32 || x == 9) ≡ b → behind_blanks (x ∷ (xs ++ 10 ∷ [])) ≡ behind_blanks (x ∷ xs) ++ 10 ∷ []
  by_blank x xs rest true is = rw is rest
  by_blank x xs rest false is = rw is refl

starts-end : (xs : List ℕ) → (starts_with nat_eq (xs ++ 10 ∷ []) (codes "//") || starts_with nat_eq (xs ++ 10 ∷ []) (codes "#")) ≡ (starts_with nat_eq xs (codes "//") || starts_with nat_eq xs (codes "#"))
starts-end [] = refl
starts-end (x ∷ []) = refl
starts-end (x ∷ y ∷ xs) = refl

pub comment-end : (xs : List ℕ) → is_comment (xs ++ 10 ∷ []) ≡ is_comment xs
unfolding is_comment
comment-end xs = ap (λ (ys : List ℕ). starts_with nat_eq ys (codes "//") || starts_with nat_eq ys (codes "#")) (behind-end xs) ∙ starts-end (behind_blanks xs)

pub unless-comment : (xs : List ℕ) → is_comment xs ≡ true → unless_comment (xs ++ 10 ∷ []) ≡ []
unless-comment xs is = rw (comment-end xs ∙ is) refl

pub unless-kept : (xs : List ℕ) → is_comment xs ≡ false → unless_comment (xs ++ 10 ∷ []) ≡ xs ++ 10 ∷ []
unless-kept xs is = rw (comment-end xs ∙ is) refl

pub joined-front : (line front : List ℕ) → line ≡ front ++ 92 ∷ [] → without_continuation (line ++ 10 ∷ []) ≡ front
joined-front line front is =
    ap (λ (xs : List ℕ). without_continuation (xs ++ 10 ∷ [])) is ∙ ap without_continuation (append_assoc front (92 ∷ []) (10 ∷ [])) ∙ joined-next front

-- a line and its line feed were added
pub with_feed : (old line mid feed new : List ℕ) → mid ≡ old ++ line → new ≡ mid ++ feed → feed ≡ 10 ∷ [] → new ≡ old ++ (line ++ 10 ∷ [])
with_feed old line mid feed new mid_is new_is feed_is =
    new_is ∙ ap (λ (xs : List ℕ). mid ++ xs) feed_is ∙ ap (λ (xs : List ℕ). xs ++ 10 ∷ []) mid_is ∙ append_assoc old line (10 ∷ [])

-- one more line was changed
pub line_step : (f : List ℕ → List ℕ) (whole done rest line behind new : List ℕ) → flat_map f (lines_of whole) ≡ done ++ flat_map f (lines_of rest) → rest ≡ line ++ 10 ∷ behind → IsLine line → new ≡ done ++ f (line ++ 10 ∷ []) → flat_map f (lines_of whole) ≡ new ++ flat_map f (lines_of behind)
line_step f whole done rest line behind new so_far is plain made =
    so_far ∙ ap (λ (xs : List ℕ). done ++ flat_map f (lines_of xs)) is
    ∙ ap (λ (ls : List (List ℕ)). done ++ flat_map f ls) (lines_of-more line behind plain)
    ∙ sym (append_assoc done (f (line ++ 10 ∷ [])) (flat_map f (lines_of behind)))
    ∙ ap (λ (xs : List ℕ). xs ++ flat_map f (lines_of behind)) (sym made)

pub line_last : (f : List ℕ → List ℕ) (whole done rest new : List ℕ) → flat_map f (lines_of whole) ≡ done ++ flat_map f (lines_of rest) → IsLine rest → new ≡ done ++ f rest → new ≡ flat_map f (lines_of whole)
line_last f whole done rest new so_far plain made =
    made ∙ ap (λ (xs : List ℕ). done ++ xs) (sym (append-nil (f rest)))
    ∙ ap (λ (ls : List (List ℕ)). done ++ flat_map f ls) (sym (lines_of-line rest plain)) ∙ sym so_far

pub shorter : (rest line behind : List ℕ) → rest ≡ line ++ 10 ∷ behind → length behind < length rest
shorter rest line behind is = let size = ap (λ (xs : List ℕ). length xs) is ∙ length-append line (10 ∷ behind) in omega arith

-- the last line, where it is left out
pub line_dropped : (f : List ℕ → List ℕ) (whole done rest : List ℕ) → flat_map f (lines_of whole) ≡ done ++ flat_map f (lines_of rest) → IsLine rest → f rest ≡ [] → done ≡ flat_map f (lines_of whole)
line_dropped f whole done rest so_far plain none = line_last f whole done rest done so_far plain (sym (append-nil done) ∙ ap (λ (xs : List ℕ). done ++ xs) (sym none))

pub comment-dropped : (xs : List ℕ) → is_comment xs ≡ true → unless_comment xs ≡ []
comment-dropped xs is = rw is refl

pub comment-kept : (xs : List ℕ) → is_comment xs ≡ false → unless_comment xs ≡ xs
comment-kept xs is = rw is refl
