use Rattle.std.proofs.Common.{rules, ◌≡◌, true, false, ◌++◌, List, ℕ, ap, sym, ◌∙◌, arith}
use Rattle.std.specs.String.{string_bytes}
use Rattle.std.proofs.lemmas.Str.Pattern.{split_parts}
use Rattle.osq_config.specs.Documents.{is_comment, unless_comment}
use Rattle.osq_config.proofs.Lines.{comment-dropped, comment-kept, line_dropped, line_last, line_step, shorter}
use Rattle.osq_config.proofs.document.without_comments.Goals as goal

pub loop-line-preserved : goal.loop-line-preserved
loop-line-preserved c =
    let parts = rw c.in-Some.is at (split_parts 10 c.loop-line.rest.now c.split_once.result c.split_once.ensures.cases (omega arith)) in
    record {
      text = search rules;
      so_far = line_step unless_comment c.args.text.now (string_bytes c.loop-line.kept) c.loop-line.rest.now c.in-Some.line.now c.in-Some.behind.now _ c.loop-line.invariant.so_far parts.0 parts.1 c.in_ok-push_unless_comment.ensures;
    }

pub loop-line-smaller : goal.loop-line-smaller
loop-line-smaller c =
    let parts = rw c.in-Some.is at (split_parts 10 c.loop-line.rest.now c.split_once.result c.split_once.ensures.cases (omega arith)) in
    shorter c.loop-line.rest.now c.in-Some.line.now c.in-Some.behind.now parts.0

pub returns-then-is_comment : goal.returns-then-is_comment
returns-then-is_comment c =
    let plain = rw c.in_default.is at (split_parts 10 c.loop-line.rest.now c.split_once.result c.split_once.ensures.cases (omega arith)) in
    let is : is_comment c.loop-line.rest.now ≡ true = sym (ap is_comment c.as_bytes.ensures.value) ∙ sym c.is_comment.ensures ∙ c.if-is_comment.true in
    line_dropped unless_comment c.args.text.now (string_bytes c.loop-line.kept) c.loop-line.rest.now c.loop-line.invariant.so_far plain (comment-dropped c.loop-line.rest.now is)

pub returns : goal.returns
returns c =
    let plain = rw c.in_default.is at (split_parts 10 c.loop-line.rest.now c.split_once.result c.split_once.ensures.cases (omega arith)) in
    let is : is_comment c.loop-line.rest.now ≡ false = sym (ap is_comment c.as_bytes.ensures.value) ∙ sym c.is_comment.ensures ∙ c.if-is_comment.false in
    line_last unless_comment c.args.text.now (string_bytes c.loop-line.kept) c.loop-line.rest.now _ c.loop-line.invariant.so_far plain
    (c.in_ok-push_str.ensures.bytes ∙ ap (λ (xs : List ℕ). string_bytes c.loop-line.kept ++ xs) (sym (comment-kept c.loop-line.rest.now is)))
