use Rattle.std.proofs.Common.{◌≡◌, ◌∷◌, sym, subst, ap, ◌∙◌}
use Rattle.std.specs.Str.{IsUtf8}
use Rattle.batch_frames.proofs.Escapes.{plain_is, string_is}
use Rattle.batch_frames.proofs.strings.StrSpelled.take.Goals as goal

pub returns-in_ok-text_of-in-Some-eq34-default : goal.returns-in_ok-text_of-in-Some-eq34-default
returns-in_ok-text_of-in-Some-eq34-default c = λ value behind held ended is.
    let after = c.in-Some-eq34-default.behind.now in
    let string = string_is c.args.bytes.now c.behind-string.result.now value behind c.behind-string.ensures is in
    let at : c.plain_front.result.1.now ≡ 34 ∷ after = c.in-Some-eq34-default.ensures.cases.0 ∙ ap (λ b. b ∷ after) c.in-Some-eq34-default.field-0-0-test in
    let plain = plain_is c.behind-string.result.now c.plain_front.result.0.now c.plain_front.result.1.now after value behind c.plain_front.ensures.whole c.plain_front.ensures.plain at string in
    (c.in_ok-text_of-in-Some-eq34-default.ensures (subst IsUtf8 (sym plain.0) held) ∙ plain.0, plain.1)
