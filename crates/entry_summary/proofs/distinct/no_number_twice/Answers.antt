use Rattle.std.proofs.Common.{◌≡◌, ℕ, arith}
use Rattle.std.specs.Prelude.{◌==◌, nat_eq}
use Rattle.std.specs.HashSet.{contains}
use Rattle.std.specs.Cmp.{nat_eq_equiv}
use Rattle.entry_model.specs.declared.restored.Run.{Run}
use Rattle.query_cursors.proofs.Apart.{known_more, own_more, found_twice}
use Rattle.entry_summary.proofs.distinct.no_number_twice.Goals as goal

turn : (s t : Run) → (s.number == t.number) ≡ (t.number == s.number)
turn s t = nat_eq_equiv.symm s.number t.number

pub loop-run-preserved : goal.loop-run-preserved
loop-run-preserved c =
    let runs = c.args.runs.now in
    let at = c.loop-run.run-index in
    let run = c.run-item.result in
    let within = c.loop-run-test.true in
    record {
      known = known_more (λ (run : Run) (number : ℕ). run.number == number) (contains nat_eq c.loop-run.known) (contains nat_eq c.insert.new.self) runs at run within c.run-item.is c.in_ok-insert.ensures.updates.0 c.loop-run.invariant.known;
      own = own_more (λ s t. s.number == t.number) turn runs at run within c.run-item.is c.loop-run.invariant.own (grind (arith, c.loop-run.invariant.known run.number, c.in_ok-insert.ensures.added, c.if-not-branch.false));
    }

pub returns-then-not-branch : goal.returns-then-not-branch
returns-then-not-branch c =
    let run = c.run-item.result in (
      λ h. absurd (cc),
      λ own. absurd (found_twice (λ s t. s.number == t.number) turn c.args.runs.now c.loop-run.run-index run c.loop-run-test.true c.run-item.is (grind (arith, c.loop-run.invariant.known run.number, c.in_ok-insert.ensures.added, c.if-not-branch.true)) own),
    )
