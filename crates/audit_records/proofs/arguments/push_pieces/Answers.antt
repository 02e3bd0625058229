use Rattle.std.proofs.Common.{◌≡◌, ◌<◌, ◌≤◌, arith, ap, sym, ◌∙◌, Some, None}
use Rattle.std.specs.Prelude.{option_map}
use Rattle.audit_records.specs.Arguments.{execve_field, most_pieces, piece_key, shown_text}
use Rattle.audit_records.proofs.UntilMissing.{added-all, added-more, added-stop}
use Rattle.audit_records.proofs.arguments.push_pieces.Goals as goal

pub returns-in-None : goal.returns-in-None
unfolding most_pieces
returns-in-None c =
    let within : c.loop-piece.piece < most_pieces = omega arith in
    let key : c.as_str.result.now ≡ piece_key c.args.place c.loop-piece.piece = c.as_str.ensures.value ∙ c.in_ok-key.ensures in
    let none : execve_field (piece_key c.args.place c.loop-piece.piece) c.args.fields.now.lines.now ≡ None = ap (λ k. execve_field k c.args.fields.now.lines.now) (sym key) ∙ sym c.in-None.ensures in
    added-stop most_pieces _ _ _ _ within (ap (option_map shown_text) none) c.loop-piece.invariant

pub loop-piece-preserved : goal.loop-piece-preserved
unfolding most_pieces
loop-piece-preserved c =
    let within : c.loop-piece.piece < most_pieces = omega arith in
    let key : c.as_str.result.now ≡ piece_key c.args.place c.loop-piece.piece = c.as_str.ensures.value ∙ c.in_ok-key.ensures in
    let there : execve_field (piece_key c.args.place c.loop-piece.piece) c.args.fields.now.lines.now ≡ Some c.in-Some.field.now = ap (λ k. execve_field k c.args.fields.now.lines.now) (sym key) ∙ sym c.in-Some.ensures in
    added-more most_pieces _ _ _ _ _ _ within (ap (option_map shown_text) there) c.in_ok-push_shown-in-Some.ensures c.loop-piece.invariant

pub returns : goal.returns
unfolding most_pieces
returns c =
    let past : most_pieces ≤ c.loop-piece.piece = omega arith in
    added-all most_pieces _ _ _ _ past c.loop-piece.invariant
