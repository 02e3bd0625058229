-- The digits of digests.
use Rattle.std.proofs.Common.{◌≡◌, ◌∙◌, ℕ, zero, suc, ◌<◌, List, [], ◌∷◌, ◌++◌, append_assoc, codes, refl, sym, ap, arith}
use Rattle.std.specs.Prelude.{◌/◌, ◌%◌, flat_map, slice_index}
use Rattle.std.specs.Int.{byte_at, bytes_high_first, to_be_bytes, w32}
use Rattle.std.specs.List.{AllByRecursion}
use Rattle.sha2.specs.Sha256.{digest_bytes, sha256}
use Rattle.control_escapes.specs.Escapes.{hex_digit}
use Rattle.result_batches.specs.Json.{escaped}
use Rattle.result_batches.specs.Frames.{hexadecimal}
use Rattle.batch_frames.specs.Parts.{digest_part}

digit_plain : (n : ℕ) → n < 16 → escaped (hex_digit n) ≡ hex_digit n ∷ []
digit_plain zero h = refl
digit_plain (suc zero) h = refl
digit_plain (suc (suc zero)) h = refl
digit_plain (suc (suc (suc zero))) h = refl
digit_plain (suc (suc (suc (suc zero)))) h = refl
digit_plain (suc (suc (suc (suc (suc zero))))) h = refl
digit_plain (suc (suc (suc (suc (suc (suc zero)))))) h = refl
digit_plain (suc (suc (suc (suc (suc (suc (suc zero))))))) h = refl
digit_plain (suc (suc (suc (suc (suc (suc (suc (suc zero)))))))) h = refl
digit_plain (suc (suc (suc (suc (suc (suc (suc (suc (suc zero))))))))) h = refl
digit_plain (suc (suc (suc (suc (suc (suc (suc (suc (suc (suc zero)))))))))) h = refl
digit_plain (suc (suc (suc (suc (suc (suc (suc (suc (suc (suc (suc zero))))))))))) h = refl
digit_plain (suc (suc (suc (suc (suc (suc (suc (suc (suc (suc (suc (suc zero)))))))))))) h = refl
digit_plain (suc (suc (suc (suc (suc (suc (suc (suc (suc (suc (suc (suc (suc zero))))))))))))) h = refl
digit_plain (suc (suc (suc (suc (suc (suc (suc (suc (suc (suc (suc (suc (suc (suc zero)))))))))))))) h = refl
digit_plain (suc (suc (suc (suc (suc (suc (suc (suc (suc (suc (suc (suc (suc (suc (suc zero))))))))))))))) h = refl
digit_plain (suc (suc (suc (suc (suc (suc (suc (suc (suc (suc (suc (suc (suc (suc (suc (suc n)))))))))))))))) h = absurd (omega (arith, h))

-- no digit is escaped
pub digits_plain : (bytes : List ℕ) → AllByRecursion (λ b. b < 256) bytes → flat_map escaped (hexadecimal bytes) ≡ hexadecimal bytes
digits_plain [] small = refl
digits_plain (b ∷ bs) small =
    let high : b / 16 < 16 = omega (arith, small.0) in
    let low : b % 16 < 16 = omega arith in
    ap (λ (x : List ℕ). x ++ (escaped (hex_digit (b % 16)) ++ flat_map escaped (hexadecimal bs))) (digit_plain (b / 16) high)
    ∙ ap (λ (x : List ℕ). hex_digit (b / 16) ∷ (x ++ flat_map escaped (hexadecimal bs))) (digit_plain (b % 16) low)
    ∙ ap (λ (x : List ℕ). hex_digit (b / 16) ∷ hex_digit (b % 16) ∷ x) (digits_plain bs small.1)

each_append : (P : ℕ → Type 0) (before after : List ℕ) → AllByRecursion P before → AllByRecursion P after → AllByRecursion P (before ++ after)
each_append P [] after h k = k
each_append P (x ∷ xs) after h k = (h.0, each_append P xs after h.1 k)

byte_small : (k n : ℕ) → byte_at k n < 256
byte_small zero n = omega arith
byte_small (suc k) n = omega arith

bytes_small : (k n : ℕ) → AllByRecursion (λ b. b < 256) (bytes_high_first k n)
bytes_small zero n = tt
bytes_small (suc k) n = (byte_small k n, bytes_small k n)

words_small : (h : List ℕ) (n : ℕ) → AllByRecursion (λ b. b < 256) (digest_bytes h n)
unfolding digest_bytes
words_small h zero = tt
words_small h (suc n) = each_append (λ b. b < 256) (digest_bytes h n) (to_be_bytes w32 (slice_index h n)) (words_small h n) (bytes_small 4 (slice_index h n))

-- a digest is made of bytes
pub sha_small : (m : List ℕ) → AllByRecursion (λ b. b < 256) (sha256 m)
unfolding sha256
sha_small m = words_small _ 8

digest_text : (digest : List ℕ) → AllByRecursion (λ b. b < 256) digest → codes ",\"sha256\":\"" ++ (hexadecimal digest ++ codes "\"}") ≡ digest_part digest
unfolding digest_part
digest_text digest small =
    ap (λ (x : List ℕ). codes ",\"sha256\":\"" ++ x)
    (ap (λ (x : List ℕ). x ++ codes "\"}") (sym (digits_plain digest small)) ∙ sym (append_assoc (flat_map escaped (hexadecimal digest)) (34 ∷ []) (125 ∷ [])))

gathered : (line front digits tail : List ℕ) → ((line ++ front) ++ digits) ++ tail ≡ line ++ (front ++ (digits ++ tail))
gathered line front digits tail = simp append_assoc

-- a digest that is added in three parts
pub digest_added : (line one two new front digits tail digest : List ℕ) → one ≡ line ++ front → two ≡ one ++ digits → new ≡ two ++ tail → digits ≡ hexadecimal digest → AllByRecursion (λ b. b < 256) digest
    → front ≡ codes ",\"sha256\":\"" → tail ≡ codes "\"}" → new ≡ line ++ digest_part digest
digest_added line one two new front digits tail digest first second third are small before behind =
    third ∙ ap (λ (x : List ℕ). x ++ tail) (second ∙ ap (λ (x : List ℕ). x ++ digits) first) ∙ gathered line front digits tail
    ∙ ap (λ (x : List ℕ). line ++ (x ++ (digits ++ tail))) before ∙ ap (λ (x : List ℕ). line ++ (codes ",\"sha256\":\"" ++ (x ++ tail))) are
    ∙ ap (λ (x : List ℕ). line ++ (codes ",\"sha256\":\"" ++ (hexadecimal digest ++ x))) behind ∙ ap (λ (x : List ℕ). line ++ x) (digest_text digest small)
