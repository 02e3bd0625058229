use Rattle.std.proofs.Common.{◌++◌, List, ℕ, ap, sym, ◌∙◌, arith}
use Rattle.std.specs.String.{string_bytes}
use Rattle.std.proofs.lemmas.Str.Pattern.{strip_suffix_char}
use Rattle.osq_config.proofs.Lines.{joined-front, joined-whole, with_feed}
use Rattle.osq_config.proofs.document.push_joined.Goals as goal

pub returns-in_ok-push_str-in-Some : goal.returns-in_ok-push_str-in-Some
returns-in_ok-push_str-in-Some c =
    let is = rw c.in-Some.is at (strip_suffix_char 92 c.args.line.now c.strip_suffix.result c.strip_suffix.ensures.cases (omega arith)) in
    c.in_ok-push_str-in-Some.ensures.bytes ∙ ap (λ (xs : List ℕ). string_bytes c.args.joined.now ++ xs) (sym (joined-front c.args.line.now c.in-Some.front.now is))

pub returns-in_ok-push-in-None : goal.returns-in_ok-push-in-None
returns-in_ok-push-in-None c =
    let other = rw c.in-None.is at (strip_suffix_char 92 c.args.line.now c.strip_suffix.result c.strip_suffix.ensures.cases (omega arith)) in
    with_feed (string_bytes c.args.joined.now) c.args.line.now _ _ _ c.in_ok-push_str-in-None.ensures.bytes c.in_ok-push-in-None.ensures.bytes (c.in_ok-push-in-None.ensures.ascii (omega arith))
    ∙ ap (λ (xs : List ℕ). string_bytes c.args.joined.now ++ xs) (sym (joined-whole c.args.line.now other))
