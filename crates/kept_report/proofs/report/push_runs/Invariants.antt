use Rattle.std.proofs.Common.{◌≡◌, ◌++◌, take}
use Rattle.kept_report.specs.Reports.{run_lines}
use Rattle.kept_report.proofs.report.push_runs.Given as goal

abbrev pub invariant-loop-run : goal.invariant-loop-run
invariant-loop-run l = l.text ≡ l.initial.text ++ run_lines (take l.run-index l.runs)
