use Rattle.std.proofs.Common.{◌≡◌, ℕ, take}
use Rattle.std.specs.Prelude.{◌==◌, nat_eq}
use Rattle.std.specs.List.{list_any}
use Rattle.std.specs.HashSet.{contains}
use Rattle.entry_model.specs.declared.restored.Run.{Run}
use Rattle.entry_summary.specs.Distinct.{HaveOwnNumbers}
use Rattle.entry_summary.proofs.distinct.no_number_twice.Given as goal

-- the numbers of the runs so far are known, and none of them stands there twice
abbrev pub invariant-loop-run : goal.invariant-loop-run
invariant-loop-run l = record {
  known : (number : ℕ) → contains nat_eq l.known number ≡ list_any (λ (run : Run). run.number == number) (take l.run-index l.runs);
  own : HaveOwnNumbers (take l.run-index l.runs);
}
