use Rattle.std.proofs.Common.{◌++◌, ℕ, List, ap, ◌∙◌}
use Rattle.std.specs.Prelude.{codes}
use Rattle.control_escapes.specs.Escapes.{escaped_controls}
use Rattle.replay_rounds.specs.Noting.{skipped_end}
use Rattle.replay_rounds.proofs.Grown.{pushed}
use Rattle.replay_rounds.proofs.noting.push_named.Goals as goal

pub returns : goal.returns
returns c =
    pushed c.args.lines.now c.extend.new.self c.push_text.new.line c.push_count.new.lines (codes "osqd: source ") (escaped_controls c.args.name.now) (skipped_end c.args.count) c.in_ok-extend.ensures.ok
    (c.in_ok-push_text.ensures ∙ ap (λ (text : List ℕ). c.extend.new.self ++ escaped_controls text) (c.as_bytes.ensures.value ∙ c.as_str.ensures)) c.in_ok-push_count.ensures
