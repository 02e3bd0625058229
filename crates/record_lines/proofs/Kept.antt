-- How much text is kept of what came.
use Rattle.std.proofs.Common.{◌≡◌, ℕ, ◌+◌, ◌≤◌, Bool, true, false, cond, List, [], ◌∷◌, ◌++◌, length, take, drop, take-append-drop, refl, ap, arith}
use Rattle.std.specs.Prelude.{nat_le}
use Rattle.std.proofs.lemmas.Bool.Decides.{nat_tests}
use Rattle.record_lines.specs.declared.line.Cut.{Cut}
use Rattle.record_lines.specs.declared.line.Cut.TheVariants as cut
use Rattle.record_lines.specs.declared.partial.Partial.{Partial}
use Rattle.record_lines.specs.Lines.{lines_of, rest_of, cut_of, cuts_of}
use Rattle.record_lines.specs.Rests.{kept, IsRest}
use Rattle.record_lines.specs.Held.{text_size, texts_size, IsBounded}
use Rattle.record_lines.proofs.Cuts.{span, span_of}

-- of a rest no more is kept than it has, and than the limit
kept_small : (limit : ℕ) (rest : List ℕ) → (length (kept limit rest) ≤ length rest) × (length (kept limit rest) ≤ limit)
kept_small limit rest = by_size (nat_le (length rest) limit) refl
  where
    by_size : (b : Bool) → nat_le (length rest) limit ≡ b → (length (cond {A = List ℕ} b rest []) ≤ length rest) × (length (cond {A = List ℕ} b rest []) ≤ limit)
    by_size true e = let small : length rest ≤ limit = grind (arith, nat_tests, e) in (omega arith, small)
    by_size false e = (omega arith, omega arith)

pub rest_small : (limit : ℕ) (rest : List ℕ) (partial : Partial) → IsRest limit rest partial → (length partial.bytes ≤ partial.size) × (length partial.bytes ≤ limit)
rest_small limit rest partial is =
    let small = kept_small limit rest in
    let bytes = ap (λ (bs : List ℕ). length bs) is.bytes in
    let size = is.size in
    (omega (arith, small.0, bytes, size), omega (arith, small.1, bytes))

cut_small : (limit end : ℕ) (line : List ℕ) → text_size (cut_of limit end line) ≤ length line
cut_small limit end line = by_size (nat_le (length line) limit)
  where
    by_size : (b : Bool) → text_size (cond b (cut.Line (record { text = line; end = end })) (cut.Skipped end)) ≤ length line
    by_size true = omega arith
    by_size false = omega arith

cuts_small : (limit start : ℕ) (lines : List (List ℕ)) → texts_size (cuts_of limit start lines) ≤ span lines
cuts_small limit start [] = omega arith
cuts_small limit start (line ∷ lines) =
    let first = cut_small limit (start + length line + 1) line in
    let rest = cuts_small limit (start + length line + 1) lines in
    omega (arith, first, rest)

pub texts_size-append : (ones others : List Cut) → texts_size (ones ++ others) ≡ texts_size ones + texts_size others
texts_size-append [] others = omega arith
texts_size-append (one ∷ ones) others = let rest = texts_size-append ones others in omega (arith, rest)

-- a line ends, and more comes behind its line feed
pub bounded_ended : (limit old_begun old_size new_begun end added : ℕ) (ready later : List Cut) (one : Cut) (behind : List ℕ) (partial : Partial) → texts_size ready ≤ old_begun → text_size one ≤ old_size + added → end ≡ old_begun + old_size + added + 1 → later ≡ cuts_of limit end (lines_of behind) → new_begun + length (rest_of behind) ≡ end + length behind → IsRest limit (rest_of behind) partial → IsBounded limit new_begun (ready ++ one ∷ [] ++ later) partial
bounded_ended limit old_begun old_size new_begun end added ready later one behind partial before text end_is later_is begun rest =
    let small = rest_small limit (rest_of behind) partial rest in
    let texts = cuts_small limit end (lines_of behind) in
    let spans = span_of behind in
    let all = texts_size-append (ready ++ one ∷ []) later in
    let front = texts_size-append ready (one ∷ []) in
    let sizes = ap texts_size later_is in
    record { lines = omega (arith, before, text, end_is, begun, texts, spans, all, front, sizes); came = small.0; rest = small.1 }

pub texts_begin : (cuts : List Cut) (n : ℕ) → texts_size (take n cuts) ≤ texts_size cuts
texts_begin cuts n =
    let all = texts_size-append (take n cuts) (drop n cuts) in
    let same = ap texts_size (take-append-drop n cuts) in
    omega (arith, all, same)

pub texts_next : (cuts : List Cut) (n : ℕ) (one : Cut) → take (n + 1) cuts ≡ take n cuts ++ one ∷ [] → texts_size (take (n + 1) cuts) ≡ texts_size (take n cuts) + text_size one
texts_next cuts n one is =
    let all = texts_size-append (take n cuts) (one ∷ []) in
    let same = ap texts_size is in
    omega (arith, all, same)
