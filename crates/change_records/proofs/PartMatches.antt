-- How a part is matched from one `%` to the next.
use Rattle.std.proofs.Common.{◌≡◌, ◌≢◌, ℕ, zero, suc, ◌+◌, ◌-◌, ◌<◌, ◌≤◌, ◌==◌, List, [], ◌∷◌, ◌++◌, length, take, drop, get_or, refl, sym, ap, ◌∙◌, subst, arith, append_assoc, length-append, take-append-drop, drop-cons, Some, None, MatchBool}
use Rattle.std.proofs.Math.Seq.{drop-append_seam, take-append_seam}
use Rattle.std.proofs.lemmas.List.{append-nil, take_all, drop-append-le, drop-drop}
use Rattle.std.proofs.lemmas.Bool.{false_from_ne_true}
use Rattle.std.proofs.lemmas.Bool.Decides.{Decides-eqb}
use Rattle.memchr.specs.Find.{IsFirstByte, is_byte, FindsNeedle, OccursAt}
use Rattle.memchr.proofs.lemmas.MatchLemmas.{OccursAt-split, OccursAt-from_part}
use Rattle.change_records.specs.Patterns.{MatchesPart, MatchesBehindRun}

-- the byte isn't there
abbrev pub HasNone : ℕ → List ℕ → Type 0
HasNone n [] = Unit {0}
HasNone n (byte ∷ bytes) = (byte ≢ n) × HasNone n bytes

-- a piece without `%` matches itself
pub match-piece : (piece pattern part : List ℕ) → HasNone 37 piece → MatchesPart (piece ++ pattern) part → (behind : List ℕ) × (part ≡ piece ++ behind) × MatchesPart pattern behind
match-piece [] pattern part none matches = (part, refl, matches)
match-piece (byte ∷ piece) pattern part none matches =
    let other = false_from_ne_true (byte == 37) (λ same. none.0 ((Decides-eqb byte 37).0 same)) in
    let (rest, is, more) = subst (λ b. MatchBool b ((run : List ℕ) × (rest : List ℕ) × (part ≡ run ++ rest) × MatchesPart (piece ++ pattern) rest) ((rest : List ℕ) × (part ≡ byte ∷ rest) × MatchesPart (piece ++ pattern) rest)) other matches in
    let (behind, rest_is, end) = match-piece piece pattern rest none.1 more in
    (behind, is ∙ ap (λ ys. byte ∷ ys) rest_is, end)

pub piece-match : (piece pattern behind : List ℕ) → HasNone 37 piece → MatchesPart pattern behind → MatchesPart (piece ++ pattern) (piece ++ behind)
piece-match [] pattern behind none matches = matches
piece-match (byte ∷ piece) pattern behind none matches =
    let other = false_from_ne_true (byte == 37) (λ same. none.0 ((Decides-eqb byte 37).0 same)) in
    subst (λ b. MatchBool b ((run : List ℕ) × (rest : List ℕ) × (byte ∷ (piece ++ behind) ≡ run ++ rest) × MatchesPart (piece ++ pattern) rest) ((rest : List ℕ) × (byte ∷ (piece ++ behind) ≡ byte ∷ rest) × MatchesPart (piece ++ pattern) rest)) (sym other)
    (piece ++ behind, refl, piece-match piece pattern behind none.1 matches)

-- more bytes in front belong to the run
pub longer_run : (pattern front part : List ℕ) → MatchesBehindRun pattern part → MatchesBehindRun pattern (front ++ part)
longer_run pattern front part (run, rest, is, matches) = (front ++ run, rest, ap (λ ys. front ++ ys) is ∙ sym (append_assoc front run rest), matches)

occurs : (run piece behind : List ℕ) → OccursAt (run ++ (piece ++ behind)) piece (length run)
occurs run piece behind =
    let size = length-append run (piece ++ behind) in
    let size_behind = length-append piece behind in
    OccursAt-from_part (run ++ (piece ++ behind)) piece (length run) (omega arith)
    (ap (take (length piece)) (drop-append_seam run (piece ++ behind)) ∙ take-append_seam piece behind)

-- a piece behind a run is taken where it first stands
pub first_piece : (piece pattern part : List ℕ) (k : ℕ) → HasNone 37 piece → FindsNeedle part piece 0 (Some k) → MatchesBehindRun (piece ++ 37 ∷ pattern) part → MatchesBehindRun pattern (drop (k + length piece) part)
first_piece piece pattern part k none found (run, rest, is, matches) =
    let (behind, rest_is, more) = match-piece piece (37 ∷ pattern) rest none matches in
    let whole : part ≡ run ++ (piece ++ behind) = is ∙ ap (λ ys. run ++ ys) rest_is in
    let there : OccursAt part piece (length run) = subst (λ ys. OccursAt ys piece (length run)) (sym whole) (occurs run piece behind) in
    let not_before : length run < k → ⊥ = λ before. found.0.before (length run) (omega arith) before there in
    let front_size = length-append run piece in
    let within : k + length piece ≤ length (run ++ piece) = omega arith in
    let cut : drop (k + length piece) part ≡ drop (k + length piece) (run ++ piece) ++ behind =
    ap (drop (k + length piece)) (whole ∙ sym (append_assoc run piece behind)) ∙ drop-append-le (k + length piece) (run ++ piece) behind within in
    subst (MatchesBehindRun pattern) (sym cut) (longer_run pattern (drop (k + length piece) (run ++ piece)) behind more)

pub from_first_piece : (piece pattern part : List ℕ) (k : ℕ) → HasNone 37 piece → FindsNeedle part piece 0 (Some k) → MatchesBehindRun pattern (drop (k + length piece) part) → MatchesBehindRun (piece ++ 37 ∷ pattern) part
from_first_piece piece pattern part k none found matches = (
  take k part,
  drop k part,
  sym (take-append-drop k part),
  subst (MatchesPart (piece ++ 37 ∷ pattern)) (sym (OccursAt-split part piece k found.1)) (piece-match piece (37 ∷ pattern) (drop (k + length piece) part) none matches),
)

pub no_piece : (piece pattern part : List ℕ) → HasNone 37 piece → FindsNeedle part piece 0 None → MatchesBehindRun (piece ++ 37 ∷ pattern) part → ⊥
no_piece piece pattern part none nowhere (run, rest, is, matches) =
    let (behind, rest_is, more) = match-piece piece (37 ∷ pattern) rest none matches in
    let whole : part ≡ run ++ (piece ++ behind) = is ∙ ap (λ ys. run ++ ys) rest_is in
    let there : OccursAt part piece (length run) = subst (λ ys. OccursAt ys piece (length run)) (sym whole) (occurs run piece behind) in
    let size = ap (λ (ys : List ℕ). length ys) whole ∙ length-append run (piece ++ behind) in
    nowhere (length run) (omega arith) (omega arith) there

-- a pattern without `%` matches itself alone
pub match-plain : (pattern part : List ℕ) → HasNone 37 pattern → MatchesPart pattern part → part ≡ pattern
match-plain pattern part none matches =
    let (behind, is, end) = match-piece pattern [] part none (subst (λ p. MatchesPart p part) (sym (append-nil pattern)) matches) in
    is ∙ ap (λ ys. pattern ++ ys) end ∙ append-nil pattern

pub plain-match : (pattern : List ℕ) → HasNone 37 pattern → MatchesPart pattern pattern
plain-match pattern none =
    subst (λ p. MatchesPart p pattern) (append-nil pattern) (subst (MatchesPart (pattern ++ [])) (append-nil pattern) (piece-match pattern [] [] none refl))

front_none : (b : ℕ) (xs : List ℕ) (n : ℕ) → n ≤ length xs → ((k : ℕ) → k < n → get_or xs k 0 ≢ b) → HasNone b (take n xs)
front_none b xs zero within none = tt
front_none b [] (suc n) within none = tt
front_none b (x ∷ xs) (suc n) within none =
    (none 0 (omega arith), front_none b xs n (let h : n ≤ length xs = omega arith in h) (λ k h. none (suc k) (let g : suc k < suc n = omega arith in g)))

pub none-found : (b : ℕ) (xs : List ℕ) → IsFirstByte (is_byte b) xs None → HasNone b xs
none-found b xs nowhere =
    subst (HasNone b) (take_all (length xs) xs (let h : length xs ≤ length xs = omega arith in h))
    (front_none b xs (length xs) (omega arith) (λ k h is. nowhere k (omega arith) h ((Decides-eqb (get_or xs k 0) b).1 is)))

pub one-found : (b : ℕ) (xs : List ℕ) (at : ℕ) → IsFirstByte (is_byte b) xs (Some at) → (at < length xs) × HasNone b (take at xs) × (xs ≡ take at xs ++ b ∷ drop 1 (drop at xs))
one-found b xs at found =
    let within : at < length xs = found.0.high in
    let is : get_or xs at 0 ≡ b = (Decides-eqb (get_or xs at 0) b).0 found.1 in
    let front = front_none b xs at (omega arith) (λ k h same. found.0.before k (omega arith) h ((Decides-eqb (get_or xs k 0) b).1 same)) in
    let behind : drop at xs ≡ b ∷ drop (suc at) xs = drop-cons xs at 0 within ∙ ap (λ n. n ∷ drop (suc at) xs) is in
    (within, front, sym (take-append-drop at xs) ∙ ap (λ ys. take at xs ++ ys) (behind ∙ ap (λ ys. b ∷ ys) (ap (drop 1) (sym behind))))

-- the length at which a suffix begins
pub suffix : (run end whole : List ℕ) → whole ≡ run ++ end → drop (length whole - length end) whole ≡ end
suffix run end whole is =
    let size = ap (λ (ys : List ℕ). length ys) is ∙ length-append run end in
    let at : length whole - length end ≡ length run = omega arith in
    ap (λ n. drop n whole) at ∙ ap (drop (length run)) is ∙ drop-append_seam run end

-- one piece of the pattern and where it first stands
pub run_step : (P T piece nextP nextT : List ℕ) (at k : ℕ) → IsFirstByte (is_byte 37) P (Some at) → piece ≡ take at P → length piece ≡ at → nextP ≡ drop 1 (drop at P) → FindsNeedle T piece 0 (Some k) → nextT ≡ drop at (drop k T) → (MatchesBehindRun nextP nextT → MatchesBehindRun P T) × (MatchesBehindRun P T → MatchesBehindRun nextP nextT)
run_step P T piece nextP nextT at k first piece_is size nextP_is found nextT_is =
    let (within, front, whole) = one-found 37 P at first in
    let none = subst (HasNone 37) (sym piece_is) front in
    let P_is : P ≡ piece ++ 37 ∷ nextP = whole ∙ ap (λ (f : List ℕ). f ++ 37 ∷ drop 1 (drop at P)) (sym piece_is) ∙ ap (λ (n : List ℕ). piece ++ 37 ∷ n) (sym nextP_is) in
    let T_is : nextT ≡ drop (k + length piece) T = nextT_is ∙ drop-drop at k T ∙ ap (λ n. drop (k + n) T) (sym size) in (
      λ m. subst (λ p. MatchesBehindRun p T) (sym P_is) (from_first_piece piece nextP T k none found (subst (MatchesBehindRun nextP) T_is m)),
      λ m. subst (MatchesBehindRun nextP) (sym T_is) (first_piece piece nextP T k none found (subst (λ p. MatchesBehindRun p T) P_is m)),
    )

pub run_stop : (P T piece : List ℕ) (at : ℕ) → IsFirstByte (is_byte 37) P (Some at) → piece ≡ take at P → FindsNeedle T piece 0 None → MatchesBehindRun P T → ⊥
run_stop P T piece at first piece_is nowhere m =
    let (within, front, whole) = one-found 37 P at first in
    let P_is : P ≡ piece ++ 37 ∷ drop 1 (drop at P) = whole ∙ ap (λ (f : List ℕ). f ++ 37 ∷ drop 1 (drop at P)) (sym piece_is) in
    no_piece piece (drop 1 (drop at P)) T (subst (HasNone 37) (sym piece_is) front) nowhere (subst (λ p. MatchesBehindRun p T) P_is m)

pub ends_match : (P T : List ℕ) → IsFirstByte (is_byte 37) P None → (run : List ℕ) × (T ≡ run ++ P) → MatchesBehindRun P T
ends_match P T nowhere (run, is) = (run, P, is, plain-match P (none-found 37 P nowhere))

pub match_ends : (P T : List ℕ) → IsFirstByte (is_byte 37) P None → MatchesBehindRun P T → (run : List ℕ) × (T ≡ run ++ P)
match_ends P T nowhere (run, rest, is, m) = (run, is ∙ ap (λ ys. run ++ ys) (match-plain P rest (none-found 37 P nowhere) m))

-- the front of a pattern before its first `%`
pub front_step : (P T piece nextP rest : List ℕ) (at : ℕ) → IsFirstByte (is_byte 37) P (Some at) → piece ≡ take at P → nextP ≡ drop 1 (drop at P) → T ≡ piece ++ rest → (MatchesBehindRun nextP rest → MatchesPart P T) × (MatchesPart P T → MatchesBehindRun nextP rest)
front_step P T piece nextP rest at first piece_is nextP_is T_is =
    let (within, front, whole) = one-found 37 P at first in
    let none = subst (HasNone 37) (sym piece_is) front in
    let P_is : P ≡ piece ++ 37 ∷ nextP = whole ∙ ap (λ (f : List ℕ). f ++ 37 ∷ drop 1 (drop at P)) (sym piece_is) ∙ ap (λ (n : List ℕ). piece ++ 37 ∷ n) (sym nextP_is) in (
      λ m. subst (λ p. MatchesPart p T) (sym P_is) (subst (MatchesPart (piece ++ 37 ∷ nextP)) (sym T_is) (piece-match piece (37 ∷ nextP) rest none m)),
      λ m. same_rest (match-piece piece (37 ∷ nextP) T none (subst (λ p. MatchesPart p T) P_is m)),
    ) where
      same_rest : (behind : List ℕ) × (T ≡ piece ++ behind) × MatchesPart (37 ∷ nextP) behind → MatchesBehindRun nextP rest
      same_rest (behind, is, m) =
          let same : behind ≡ rest = sym (drop-append_seam piece behind) ∙ ap (drop (length piece)) (sym is ∙ T_is) ∙ drop-append_seam piece rest in
          subst (MatchesBehindRun nextP) same m

pub front_stop : (P T piece : List ℕ) (at : ℕ) → IsFirstByte (is_byte 37) P (Some at) → piece ≡ take at P → ((rest : List ℕ) → T ≡ piece ++ rest → ⊥) → MatchesPart P T → ⊥
front_stop P T piece at first piece_is other m =
    let (within, front, whole) = one-found 37 P at first in
    let P_is : P ≡ piece ++ 37 ∷ drop 1 (drop at P) = whole ∙ ap (λ (f : List ℕ). f ++ 37 ∷ drop 1 (drop at P)) (sym piece_is) in
    let (behind, is, more) = match-piece piece (37 ∷ drop 1 (drop at P)) T (subst (HasNone 37) (sym piece_is) front) (subst (λ p. MatchesPart p T) P_is m) in
    other behind is
