use Rattle.std.proofs.Common.{List, ℕ, ◌++◌, Some, None, ap, sym, ◌∙◌, append_assoc}
use Rattle.std.proofs.lemmas.Bool.Decides.{Decides-eqb}
use Rattle.std.proofs.lemmas.Slice.Eq.{strip_prefix_is}
use Rattle.result_batches.specs.Frames.{hexadecimal}
use Rattle.collector_answers.proofs.Digits.{decoded, digits_split, digits_there}
use Rattle.collector_answers.proofs.Told.{same_both}
use Rattle.collector_answers.proofs.read.digest.Goals as goal

pub returns-in_err-strip_prefix : goal.returns-in_err-strip_prefix
returns-in_err-strip_prefix c = λ digest rest held is.
    absurd (strip_prefix_is Decides-eqb c.args.bytes.now c.as_bytes.result.now None c.in_err-strip_prefix.ensures.cases (hexadecimal digest ++ rest)
    (is ∙ append_assoc c.args.front.now (hexadecimal digest) rest ∙ ap (λ (f : List ℕ). f ++ (hexadecimal digest ++ rest)) (sym c.as_bytes.ensures.value)))

pub returns-in_err-digits : goal.returns-in_err-digits
returns-in_err-digits c = λ digest rest held is.
    let behind = c.in_ok-strip_prefix.field-0 in
    let whole = strip_prefix_is Decides-eqb c.args.bytes.now c.as_bytes.result.now (Some behind) c.in_ok-strip_prefix.ensures.cases ∙ ap (λ (f : List ℕ). f ++ behind.now) c.as_bytes.ensures.value in
    absurd (digits_there c.args.bytes.now c.args.front.now behind.now digest rest held whole is c.in_err-digits.ensures.cases)

pub returns-in-Ok : goal.returns-in-Ok
returns-in-Ok c = λ digest rest held is.
    let behind = c.in_ok-strip_prefix.field-0 in
    let whole = strip_prefix_is Decides-eqb c.args.bytes.now c.as_bytes.result.now (Some behind) c.in_ok-strip_prefix.ensures.cases ∙ ap (λ (f : List ℕ). f ++ behind.now) c.as_bytes.ensures.value in
    let cut = c.in_ok-digits.ensures.cases in
    let split = digits_split c.args.bytes.now c.args.front.now behind.now c.in_ok-digits.digits.now c.in_ok-digits.rest.now digest rest held whole is cut.1 cut.2 in
    let made = decoded c.in_ok-digits.digits.now digest c.decode_to_slice.new.out c.decode_to_slice.result held split.0 c.decode_to_slice.ensures.value in
    same_both c.decode_to_slice.new.out digest c.in_ok-digits.rest.now rest made.1 split.1

pub returns-in-Err : goal.returns-in-Err
returns-in-Err c = λ digest rest held is.
    let behind = c.in_ok-strip_prefix.field-0 in
    let whole = strip_prefix_is Decides-eqb c.args.bytes.now c.as_bytes.result.now (Some behind) c.in_ok-strip_prefix.ensures.cases ∙ ap (λ (f : List ℕ). f ++ behind.now) c.as_bytes.ensures.value in
    let cut = c.in_ok-digits.ensures.cases in
    let split = digits_split c.args.bytes.now c.args.front.now behind.now c.in_ok-digits.digits.now c.in_ok-digits.rest.now digest rest held whole is cut.1 cut.2 in
    let done = (decoded c.in_ok-digits.digits.now digest c.decode_to_slice.new.out c.decode_to_slice.result held split.0 c.decode_to_slice.ensures.value).0 in
    let failed = c.in-Err.is in
    absurd (let no : ⊥ = cc in no)
