use Rattle.std.proofs.Common.{rules, ◌++◌, List, ℕ, ap, sym, ◌∙◌, arith}
use Rattle.std.specs.String.{string_bytes}
use Rattle.std.proofs.lemmas.Str.Pattern.{split_parts}
use Rattle.osq_config.specs.Documents.{without_continuation}
use Rattle.osq_config.proofs.Lines.{joined-last, line_last, line_step, shorter}
use Rattle.osq_config.proofs.document.without_continuations.Goals as goal

pub loop-line-preserved : goal.loop-line-preserved
loop-line-preserved c =
    let parts = rw c.in-Some.is at (split_parts 10 c.loop-line.rest.now c.split_once.result c.split_once.ensures.cases (omega arith)) in
    record {
      text = search rules;
      so_far = line_step without_continuation c.args.text.now (string_bytes c.loop-line.joined) c.loop-line.rest.now c.in-Some.line.now c.in-Some.behind.now _ c.loop-line.invariant.so_far parts.0 parts.1 c.in_ok-push_joined.ensures;
    }

pub loop-line-smaller : goal.loop-line-smaller
loop-line-smaller c =
    let parts = rw c.in-Some.is at (split_parts 10 c.loop-line.rest.now c.split_once.result c.split_once.ensures.cases (omega arith)) in
    shorter c.loop-line.rest.now c.in-Some.line.now c.in-Some.behind.now parts.0

pub returns : goal.returns
returns c =
    let plain = rw c.in_default.is at (split_parts 10 c.loop-line.rest.now c.split_once.result c.split_once.ensures.cases (omega arith)) in
    line_last without_continuation c.args.text.now (string_bytes c.loop-line.joined) c.loop-line.rest.now _ c.loop-line.invariant.so_far plain
    (c.in_ok-push_str.ensures.bytes ∙ ap (λ (xs : List ℕ). string_bytes c.loop-line.joined ++ xs) (sym (joined-last c.loop-line.rest.now plain)))
