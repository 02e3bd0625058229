-- What a decoder finds.
use Rattle.std.proofs.Common.{◌≡◌, ℕ, ◌<◌, zero, suc, List, [], ◌∷◌, ◌++◌, refl, sym, ap, ◌∙◌, arith, get_or, slice_index}
use Rattle.std.specs.List.{AllByRecursion}
use Rattle.std.specs.Prelude.{◌/◌, ◌%◌}
use Rattle.sha2.specs.Sha256.{sha256}
use Rattle.hex.specs.Hex.{encode_lower, encode_with, lower_digits}
use Rattle.control_escapes.specs.Escapes.{hex_digit}
use Rattle.result_batches.specs.Frames.{frame_body, hexadecimal}
use Rattle.batch_frames.specs.declared.frame.Frame.{Frame}
use Rattle.batch_frames.specs.Decodes.{IsNoFrame, ReadsFrame}
use Rattle.batch_frames.specs.Parts.{digest_part}
use Rattle.batch_frames.specs.Texts.{digest_of, text_of}
use Rattle.batch_frames.proofs.Framed.{digest_behind}

-- a frame was read whose text is another
pub other_text : (line text : List ℕ) (made : Frame) → ReadsFrame line made → text ≡ text_of made → (text ≡ line → ⊥) → IsNoFrame line
other_text line text made reads is other = λ f held of. other (is ∙ ap text_of (reads f held of) ∙ sym of.is)

digit_is : (n : ℕ) → n < 16 → slice_index lower_digits n ≡ hex_digit n
digit_is zero h = refl
digit_is (suc zero) h = refl
digit_is (suc (suc zero)) h = refl
digit_is (suc (suc (suc zero))) h = refl
digit_is (suc (suc (suc (suc zero)))) h = refl
digit_is (suc (suc (suc (suc (suc zero))))) h = refl
digit_is (suc (suc (suc (suc (suc (suc zero)))))) h = refl
digit_is (suc (suc (suc (suc (suc (suc (suc zero))))))) h = refl
digit_is (suc (suc (suc (suc (suc (suc (suc (suc zero)))))))) h = refl
digit_is (suc (suc (suc (suc (suc (suc (suc (suc (suc zero))))))))) h = refl
digit_is (suc (suc (suc (suc (suc (suc (suc (suc (suc (suc zero)))))))))) h = refl
digit_is (suc (suc (suc (suc (suc (suc (suc (suc (suc (suc (suc zero))))))))))) h = refl
digit_is (suc (suc (suc (suc (suc (suc (suc (suc (suc (suc (suc (suc zero)))))))))))) h = refl
digit_is (suc (suc (suc (suc (suc (suc (suc (suc (suc (suc (suc (suc (suc zero))))))))))))) h = refl
digit_is (suc (suc (suc (suc (suc (suc (suc (suc (suc (suc (suc (suc (suc (suc zero)))))))))))))) h = refl
digit_is (suc (suc (suc (suc (suc (suc (suc (suc (suc (suc (suc (suc (suc (suc (suc zero))))))))))))))) h = refl
digit_is (suc (suc (suc (suc (suc (suc (suc (suc (suc (suc (suc (suc (suc (suc (suc (suc n)))))))))))))))) h = absurd (omega (arith, h))

hex_is : (bytes : List ℕ) → AllByRecursion (λ b. b < 256) bytes → encode_lower bytes ≡ hexadecimal bytes
unfolding encode_with
hex_is [] small = refl
hex_is (b ∷ bs) small =
    let high : b / 16 < 16 = omega (arith, small.0) in
    let low : b % 16 < 16 = omega arith in
    ap (λ d. d ∷ slice_index lower_digits (b % 16) ∷ encode_lower bs) (digit_is (b / 16) high)
    ∙ ap (λ d. hex_digit (b / 16) ∷ d ∷ encode_lower bs) (digit_is (b % 16) low)
    ∙ ap (λ rest. hex_digit (b / 16) ∷ hex_digit (b % 16) ∷ rest) (hex_is bs small.1)

pub digest_is : (f : Frame) (body : List ℕ) → body ≡ frame_body f.host f.names f.batch → sha256 body ≡ digest_of f
unfolding digest_of
digest_is f body is = ap sha256 is

-- each of the bytes of a slice is one
pub all_small : (bytes : List ℕ) → ((i : ℕ) → get_or bytes i 0 < 256) → AllByRecursion (λ b. b < 256) bytes
all_small [] fit = tt
all_small (b ∷ bs) fit = (fit 0, all_small bs (λ i. fit (suc i)))

-- the digits of bytes
pub digits_made : (bytes : List ℕ) → ((i : ℕ) → get_or bytes i 0 < 256) → encode_lower bytes ≡ hexadecimal bytes
digits_made bytes fit = hex_is bytes (all_small bytes fit)

-- the text that is made of a frame's parts
pub text_made : (f : Frame) (body digest text : List ℕ) → body ≡ frame_body f.host f.names f.batch → digest ≡ sha256 body → text ≡ body ++ digest_part digest
    → (text ≡ text_of f) × (digest ≡ digest_of f)
text_made f body digest text body_is made text_is =
    let is : digest ≡ digest_of f = made ∙ digest_is f body body_is in
    (text_is ∙ ap (λ d. body ++ digest_part d) is ∙ ap (λ b. b ++ digest_part (digest_of f)) body_is ∙ sym (digest_behind f), is)
