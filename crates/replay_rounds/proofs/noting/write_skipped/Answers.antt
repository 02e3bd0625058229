use Rattle.std.proofs.Common.{◌≡◌, ◌++◌, ℕ, List, OnOk, subst}
use Rattle.replay_rounds.proofs.noting.write_skipped.Goals as goal

pub returns-clause-skipped : goal.returns-clause-skipped
returns-clause-skipped g c tells =
    subst (λ (lines : List ℕ). OnOk c.write_lines.result (g.O.Sink.written c.write_lines.new.status ≡ g.O.Sink.written c.args.status.now ++ lines)) c.in-Ok.ensures (c.write_lines.ensures.text tells)
