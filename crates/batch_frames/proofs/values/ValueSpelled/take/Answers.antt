use Rattle.std.proofs.Common.{sym, ap, ◌∙◌, drop, to_z, of_z}
use Rattle.std.specs.Int.{w64}
use Rattle.std.proofs.lemmas.Int.{to_z-of_z}
use Rattle.batch_frames.proofs.Begins.{fits_signed, null_value, text_taken, value_taken}
use Rattle.batch_frames.proofs.Cuts.{first_is}
use Rattle.batch_frames.proofs.values.ValueSpelled.take.Goals as goal

pub returns-then-begins_with : goal.returns-then-begins_with
returns-then-begins_with c = λ value behind held ended is.
    let at = first_is c.args.bytes.now 110 (sym c.begins_with.ensures ∙ c.if-begins_with.true) in
    let taken = null_value c.args.bytes.now (drop 1 c.args.bytes.now) at value behind held is in
    (taken.0, c.behind.ensures ∙ taken.1)

pub returns-then-begins_with-2 : goal.returns-then-begins_with-2
returns-then-begins_with-2 c =
    text_taken c.args.bytes.now (drop 1 c.args.bytes.now) c.in_ok-text.text c.in_ok-text.rest.now
    (first_is c.args.bytes.now 34 (sym c.begins_with-2.ensures ∙ c.if-begins_with-2.true)) c.in_ok-text.ensures

pub returns : goal.returns
returns c =
    let front = c.number_front.ensures in
    value_taken c.args.bytes.now c.number_front.result.0.now c.number_front.result.1.now _
    (sym c.begins_with.ensures ∙ c.if-begins_with.false) (sym c.begins_with-2.ensures ∙ c.if-begins_with-2.false) front.whole front.plain front.stops
    (λ n small is. ap (λ z. to_z w64 (of_z w64 z)) (c.signed_of.ensures n small is) ∙ to_z-of_z w64 n (fits_signed n small))
