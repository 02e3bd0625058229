-- What the text of a frame tells.
use Rattle.std.proofs.Common.{◌≡◌, ◌∙◌, ℕ, suc, ◌+◌, ◌<◌, ◌^◌, List, [], ◌∷◌, ◌++◌, length, codes, ap, refl, sym, arith}
use Rattle.std.specs.Prelude.{flat_map}
use Rattle.std.specs.Fmt.{decimal}
use Rattle.std.proofs.lemmas.Fmt.{decimal_injective}
use Rattle.std.proofs.lemmas.List.{append_assoc, append_cancel_left, length-append}
use Rattle.sha2.specs.Sha256.{sha256}
use Rattle.sha2.proofs.Facts256.{length-sha256}
use Rattle.pack_rules.specs.declared.schedule.QueryKey.{QueryKey}
use Rattle.result_batches.specs.Frames.{frame_body, hexadecimal}
use Rattle.result_batches.specs.Json.{escaped, quoted}
use Rattle.batch_frames.specs.declared.frame.Frame.{Frame}
use Rattle.batch_frames.specs.Ends.{BeginsWithEnd, IsAtEnd}
use Rattle.batch_frames.specs.Parts.{digest_part, query_part, sender_part, slice_part, table_part}
use Rattle.batch_frames.specs.Texts.{digest_of, text_of}
use Rattle.batch_frames.proofs.Begins.{decimal_is_plain}
use Rattle.batch_frames.proofs.Cuts.{cut_once}
use Rattle.batch_frames.proofs.Digits.{digits_plain, sha_small}
use Rattle.batch_frames.proofs.Framed.{digest_behind, numbers_of, text_is}
use Rattle.batch_frames.proofs.Judged.{digest_is}
use Rattle.world_laws.specs.Laws.{TextsTell}
use Rattle.world_laws.proofs.Strings.{strings_once}

-- ---- the digest

hexadecimal_size : (bytes : List ℕ) → length (hexadecimal bytes) ≡ length bytes + length bytes
hexadecimal_size [] = refl
hexadecimal_size (b ∷ bs) = let rest = hexadecimal_size bs in omega (arith, rest)

-- what stands behind the body has one length
part_size : (digest : List ℕ) (size : ℕ) → length (flat_map escaped (hexadecimal digest)) ≡ size → length (digest_part digest) ≡ length (codes ",\"sha256\":") + (size + 3)
unfolding digest_part
part_size digest size is =
    let inside : List ℕ = flat_map escaped (hexadecimal digest) in
    let one = length-append (codes ",\"sha256\":") (quoted (hexadecimal digest) ++ codes "}") in
    let two = length-append (quoted (hexadecimal digest)) (codes "}") in
    let three : length (quoted (hexadecimal digest)) ≡ suc (length (inside ++ 34 ∷ [])) = refl in
    let four = length-append inside (34 ∷ []) in
    let five : length (codes "}") ≡ 1 = refl in
    let six : length {A = ℕ} (34 ∷ []) ≡ 1 = refl in
    omega (arith, one, two, three, four, five, six, is)

sha_size : (message : List ℕ) → length (flat_map escaped (hexadecimal (sha256 message))) ≡ 32 + 32
sha_size message =
    ap length (digits_plain (sha256 message) (sha_small message)) ∙ hexadecimal_size (sha256 message) ∙ ap (λ (n : ℕ). n + n) (length-sha256 message)

abbrev body_of : Frame → List ℕ
body_of frame = frame_body frame.host frame.names frame.batch

made_from : (frame : Frame) → sha256 (body_of frame) ≡ digest_of frame
made_from frame = digest_is frame (body_of frame) refl

end_size : (frame : Frame) → length (digest_part (digest_of frame)) ≡ length (codes ",\"sha256\":") + ((32 + 32) + 3)
end_size frame =
    part_size (digest_of frame) (32 + 32) (ap (λ (d : List ℕ). length (flat_map escaped (hexadecimal d))) (sym (made_from frame)) ∙ sha_size (body_of frame))

-- two lists, of which the fronts are as long, are one
same_front : (xs ys x y : List ℕ) → length xs ≡ length ys → xs ++ x ≡ ys ++ y → xs ≡ ys
same_front [] [] x y size e = refl
same_front [] (b ∷ ys) x y size e = absurd (omega (arith, size))
same_front (a ∷ xs) [] x y size e = absurd (omega (arith, size))
same_front (a ∷ xs) (b ∷ ys) x y size e =
    let heads : a ≡ b = cc in
    let tails : xs ++ x ≡ ys ++ y = cc in
    let rest = same_front xs ys x y (omega (arith, size)) tails in
    ap (λ c. c ∷ xs) heads ∙ ap (λ t. b ∷ t) rest

pub same_digest : (one other : Frame) → text_of one ≡ text_of other → digest_of one ≡ digest_of other
same_digest one other e =
    let whole : body_of one ++ digest_part (digest_of one) ≡ body_of other ++ digest_part (digest_of other) = sym (digest_behind one) ∙ e ∙ digest_behind other in
    let sizes = ap length whole in
    let first = length-append (body_of one) (digest_part (digest_of one)) in
    let second = length-append (body_of other) (digest_part (digest_of other)) in
    let its = end_size one in
    let theirs = end_size other in
    let bodies = same_front (body_of one) (body_of other) (digest_part (digest_of one)) (digest_part (digest_of other)) (omega (arith, sizes, first, second, its, theirs)) whole in
    sym (made_from one) ∙ ap sha256 bodies ∙ made_from other

-- ---- the host and the number

-- what stands behind the number
abbrev behind : Frame → List ℕ
behind frame =
    query_part frame.batch.query
    ++ (slice_part frame.batch.lo frame.batch.hi frame.batch.cut frame.batch.moment ++ (table_part frame.names frame.batch.rows ++ digest_part (digest_of frame)))

at_end : (query : QueryKey) (rest : List ℕ) → IsAtEnd (query_part query ++ rest)
unfolding query_part
at_end query rest = refl

begins_end : (query : QueryKey) (rest : List ℕ) → BeginsWithEnd (query_part query ++ rest)
unfolding query_part
begins_end query rest = refl

regrouped : (a host n number rest : List ℕ) → ((a ++ host) ++ (n ++ number)) ++ rest ≡ a ++ (host ++ (n ++ (number ++ rest)))
regrouped a host n number rest = simp append_assoc

sender_is : (host : List ℕ) (number : ℕ) (rest : List ℕ)
    → sender_part host number ++ rest ≡ codes "{\"frame\":1,\"host\":" ++ (quoted host ++ (codes ",\"number\":" ++ (decimal number ++ rest)))
unfolding sender_part
sender_is host number rest = regrouped (codes "{\"frame\":1,\"host\":") (quoted host) (codes ",\"number\":") (decimal number) rest

-- the host's string, and the number with what stands behind it
begins_so : (frame : Frame) → text_of frame ≡ codes "{\"frame\":1,\"host\":" ++ (quoted frame.host ++ (codes ",\"number\":" ++ (decimal frame.batch.number ++ behind frame)))
begins_so frame = text_is frame ∙ sender_is frame.host frame.batch.number (behind frame)

pub same_sender : (one other : Frame) → one.batch.number < 2 ^ 64 → other.batch.number < 2 ^ 64 → text_of one ≡ text_of other → (one.host ≡ other.host) × (one.batch.number ≡ other.batch.number)
same_sender one other small less e =
    let its : List ℕ = decimal one.batch.number ++ behind one in
    let theirs : List ℕ = decimal other.batch.number ++ behind other in
    let hosts =
    strings_once one.host other.host (codes ",\"number\":" ++ its) (codes ",\"number\":" ++ theirs)
    (append_cancel_left (codes "{\"frame\":1,\"host\":") (quoted one.host ++ (codes ",\"number\":" ++ its)) (quoted other.host ++ (codes ",\"number\":" ++ theirs))
    (sym (begins_so one) ∙ e ∙ begins_so other)) in
    let numbers = append_cancel_left (codes ",\"number\":") its theirs hosts.1 in
    let cut =
    cut_once (decimal one.batch.number) (behind one) (decimal other.batch.number) (behind other) (decimal_is_plain one.batch.number small).plain (at_end one.batch.query _)
    (decimal_is_plain other.batch.number less).plain (begins_end other.batch.query _) numbers in
    (hosts.0, decimal_injective one.batch.number other.batch.number small less cut.0)

pub texts_tell : TextsTell
texts_tell line one other first second =
    let e : text_of one ≡ text_of other = sym first.is ∙ second.is in
    let sender = same_sender one other (numbers_of one first.valid).number (numbers_of other second.valid).number e in
    record { host = sender.0; number = sender.1; digest = same_digest one other e }
