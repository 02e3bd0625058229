use Rattle.std.proofs.Common.{◌≡◌, true, false, ◌++◌, List, ℕ, ap, sym, ◌∙◌, arith}
use Rattle.std.specs.String.{string_bytes}
use Rattle.std.proofs.lemmas.List.{append-nil}
use Rattle.osq_config.specs.Documents.{is_comment}
use Rattle.osq_config.proofs.Lines.{unless-comment, unless-kept, with_feed}
use Rattle.osq_config.proofs.document.push_unless_comment.Goals as goal

pub returns-then-is_comment : goal.returns-then-is_comment
returns-then-is_comment c =
    let is : is_comment c.args.line.now ≡ true = sym (ap is_comment c.as_bytes.ensures.value) ∙ sym c.is_comment.ensures ∙ c.if-is_comment.true in
    sym (append-nil (string_bytes c.args.kept.now)) ∙ ap (λ (xs : List ℕ). string_bytes c.args.kept.now ++ xs) (sym (unless-comment c.args.line.now is))

pub returns : goal.returns
returns c =
    let is : is_comment c.args.line.now ≡ false = sym (ap is_comment c.as_bytes.ensures.value) ∙ sym c.is_comment.ensures ∙ c.if-is_comment.false in
    with_feed (string_bytes c.args.kept.now) c.args.line.now _ _ _ c.in_ok-push_str.ensures.bytes c.in_ok-push.ensures.bytes (c.in_ok-push.ensures.ascii (omega arith))
    ∙ ap (λ (xs : List ℕ). string_bytes c.args.kept.now ++ xs) (sym (unless-kept c.args.line.now is))
