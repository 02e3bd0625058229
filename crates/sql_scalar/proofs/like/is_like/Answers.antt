use Rattle.std.proofs.Common.{◌≡◌, ◌∷◌, IfOk, Bool, ap, sym, subst, ◌∙◌, rules, IsUtf8}
use Rattle.std.specs.Str.{chars}
use Rattle.sql_scalar.specs.Likeness.{is_like}
use Rattle.sql_scalar.proofs.PieceFits.{piece_fits, piece_misses, whole_fits, whole_misses, empty_text}
use Rattle.sql_scalar.proofs.like.is_like.Goals as goal

pub returns-in-Some-behind_piece : goal.returns-in-Some-behind_piece
returns-in-Some-behind_piece c =
    let rest = c.in-Some-behind_piece.rest.now in
    let told : IsUtf8 rest = search rules in
    c.is_empty.ensures ∙ empty_text rest told
    ∙ sym (whole_fits (chars c.args.pattern.now) (chars c.args.text.now) (chars rest) c.in_default.ensures (sym c.in-Some-behind_piece.ensures))

pub returns-in-None : goal.returns-in-None
returns-in-None c = sym (whole_misses (chars c.args.pattern.now) (chars c.args.text.now) c.in_default.ensures (sym c.in-None.ensures))

pub returns-in-Some-behind_piece-2 : goal.returns-in-Some-behind_piece-2
returns-in-Some-behind_piece-2 c =
    let piece = chars c.in-Some.piece.now in
    let others = chars c.in-Some.others.now in
    let text = chars c.args.text.now in
    subst (λ (b : Bool). IfOk c.is_like_somewhere.result (λ answer. answer ≡ b))
    (sym (ap (λ s. is_like s text) c.in-Some.ensures.0
    ∙ piece_fits piece (37 ∷ others) text (chars c.in-Some-behind_piece-2.rest.now) c.in-Some.ensures.1 (sym c.in-Some-behind_piece-2.ensures)))
    c.is_like_somewhere.ensures

pub returns-in-None-behind_piece : goal.returns-in-None-behind_piece
returns-in-None-behind_piece c =
    let piece = chars c.in-Some.piece.now in
    let others = chars c.in-Some.others.now in
    let text = chars c.args.text.now in
    sym (ap (λ s. is_like s text) c.in-Some.ensures.0
    ∙ piece_misses piece (37 ∷ others) text c.in-Some.ensures.1 (sym c.in-None-behind_piece.ensures))
