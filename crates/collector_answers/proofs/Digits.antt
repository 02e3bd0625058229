-- The digits of digests.
use Rattle.std.proofs.lemmas.List.{append_cancel_left}
use Rattle.std.proofs.Math.Seq.{drop-append_seam, take-append_seam}
use Rattle.std.proofs.Common.{take, drop, ◌≡◌, ℕ, zero, suc, ◌*◌, ◌<◌, List, [], ◌∷◌, ◌++◌, length, length-append, Result, Ok, Err, refl, sym, subst, ap, ◌∙◌, arith, codes, get_or, append_assoc}
use Rattle.std.specs.Prelude.{MatchResult}
use Rattle.std.specs.List.{AllByRecursion}
use Rattle.hex.specs.Hex.{decode_of, decode_sized}
use Rattle.hex.specs.declared.error.FromHexError.{FromHexError}
use Rattle.hex.proofs.HexLemmas.{decode_of-encode_lower, decode_sized-twice}
use Rattle.result_batches.specs.Json.{quoted}
use Rattle.result_batches.specs.Frames.{hexadecimal}
use Rattle.batch_frames.proofs.Digits.{digits_plain}
use Rattle.batch_frames.proofs.Judged.{digits_made}
use Rattle.collector_answers.specs.Lines.{conflict_line}
use Rattle.collector_answers.specs.Reads.{IsDigest}

quoted_digits : (digest : List ℕ) → IsDigest digest → quoted (hexadecimal digest) ≡ 34 ∷ (hexadecimal digest ++ 34 ∷ [])
quoted_digits digest is = ap (λ (x : List ℕ). 34 ∷ (x ++ 34 ∷ [])) (digits_plain digest is.bytes)

length-digits : (bytes : List ℕ) → length (hexadecimal bytes) ≡ 2 * length bytes
length-digits [] = refl
length-digits (b ∷ bs) = let e = length-digits bs in omega (arith, e)

pub length-digest : (digest : List ℕ) → IsDigest digest → length (hexadecimal digest) ≡ 64
length-digest digest is = let e = length-digits digest in let size = is.size in omega arith

small_at : (bytes : List ℕ) → AllByRecursion (λ b. b < 256) bytes → (i : ℕ) → get_or bytes i 0 < 256
small_at [] small i = omega arith
small_at (b ∷ bs) small zero = small.0
small_at (b ∷ bs) small (suc i) = small_at bs small.1 i

-- the digits of a digest are read back
read_back : (digest : List ℕ) → IsDigest digest → decode_sized (hexadecimal digest) 32 ≡ Ok digest
read_back digest is =
    let small = small_at digest is.bytes in
    decode_sized-twice (hexadecimal digest) 32 (length-digest digest is) ∙ ap decode_of (sym (digits_made digest small)) ∙ decode_of-encode_lower digest small

pub decoded : (digits digest new : List ℕ) (r : Result (Unit {0}) FromHexError) → IsDigest digest → digits ≡ hexadecimal digest
    → MatchResult (decode_sized digits 32) (λ bytes. (r ≡ Ok tt) × (new ≡ bytes)) (λ e. r ≡ Err e) → (r ≡ Ok tt) × (new ≡ digest)
decoded digits digest new r is at value =
    subst (λ (m : Result (List ℕ) FromHexError). MatchResult m (λ bytes. (r ≡ Ok tt) × (new ≡ bytes)) (λ e. r ≡ Err e))
    (ap (λ (d : List ℕ). decode_sized d 32) at ∙ read_back digest is) value

spread : (a x b y c : List ℕ) → (((a ++ (34 ∷ (x ++ 34 ∷ []))) ++ b) ++ (34 ∷ (y ++ 34 ∷ []))) ++ c ≡ ((a ++ 34 ∷ []) ++ x) ++ (((34 ∷ (b ++ 34 ∷ [])) ++ y) ++ (34 ∷ c))
spread a x b y c = simp append_assoc

-- what a conflict tells of digests, digits by digits
pub conflict_is : (kept found : List ℕ) → IsDigest kept → IsDigest found
    → conflict_line kept found ≡ (codes ",\"kept\":\"" ++ hexadecimal kept) ++ ((codes "\",\"found\":\"" ++ hexadecimal found) ++ codes "\"}")
unfolding conflict_line
conflict_is kept found one other =
    ap (λ (q : List ℕ). (((codes ",\"kept\":" ++ q) ++ codes ",\"found\":") ++ quoted (hexadecimal found)) ++ codes "}") (quoted_digits kept one)
    ∙ ap (λ (q : List ℕ). (((codes ",\"kept\":" ++ (34 ∷ (hexadecimal kept ++ 34 ∷ []))) ++ codes ",\"found\":") ++ q) ++ codes "}") (quoted_digits found other)
    ∙ spread (codes ",\"kept\":") (hexadecimal kept) (codes ",\"found\":") (hexadecimal found) (codes "}")

-- what stands behind a front begins with digits
behind_front : (bytes front rest digest tail : List ℕ) → bytes ≡ front ++ rest → bytes ≡ (front ++ hexadecimal digest) ++ tail → rest ≡ hexadecimal digest ++ tail
behind_front bytes front rest digest tail whole is = append_cancel_left front rest (hexadecimal digest ++ tail) (sym whole ∙ is ∙ append_assoc front (hexadecimal digest) tail)

pub digits_split : (bytes front rest digits behind digest tail : List ℕ) → IsDigest digest → bytes ≡ front ++ rest → bytes ≡ (front ++ hexadecimal digest) ++ tail
    → digits ≡ take 64 rest → behind ≡ drop 64 rest → (digits ≡ hexadecimal digest) × (behind ≡ tail)
digits_split bytes front rest digits behind digest tail held whole is at after =
    let rest_is = behind_front bytes front rest digest tail whole is in
    let size = length-digest digest held in (
      at ∙ ap (take 64) rest_is ∙ ap (λ (n : ℕ). take n (hexadecimal digest ++ tail)) (sym size) ∙ take-append_seam (hexadecimal digest) tail,
      after ∙ ap (drop 64) rest_is ∙ ap (λ (n : ℕ). drop n (hexadecimal digest ++ tail)) (sym size) ∙ drop-append_seam (hexadecimal digest) tail,
    )

pub digits_there : (bytes front rest digest tail : List ℕ) → IsDigest digest → bytes ≡ front ++ rest → bytes ≡ (front ++ hexadecimal digest) ++ tail → length rest < 64 → ⊥
digits_there bytes front rest digest tail held whole is short =
    let size = length-digest digest held in
    let both = length-append (hexadecimal digest) tail in
    let same = ap (λ (x : List ℕ). length x) (behind_front bytes front rest digest tail whole is) in
    let gone : ⊥ = omega (arith, size, both, same, short) in gone
