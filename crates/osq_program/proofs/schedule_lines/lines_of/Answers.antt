use Rattle.std.proofs.Common.{◌++◌, ℕ, List, ap, sym, ◌∙◌}
use Rattle.std.proofs.lemmas.List.{take_all}
use Rattle.osq_program.specs.Checking.{query_line, schedule_lines}
use Rattle.osq_program.proofs.Listings.{lines_turn}
use Rattle.osq_program.proofs.schedule_lines.lines_of.Goals as goal

pub loop-scheduled-preserved : goal.loop-scheduled-preserved
loop-scheduled-preserved c =
    c.in_ok-push_line.ensures ∙ ap (λ (ls : List ℕ). ls ++ query_line c.scheduled-item.result) c.loop-scheduled.invariant
    ∙ sym (lines_turn c.args.queries.now c.loop-scheduled.scheduled-index c.scheduled-item.result c.loop-scheduled-test.true c.scheduled-item.is)

pub returns : goal.returns
returns c = c.loop-scheduled.invariant ∙ ap schedule_lines (take_all c.loop-scheduled.scheduled-index c.args.queries.now c.loop-scheduled-test.false)
