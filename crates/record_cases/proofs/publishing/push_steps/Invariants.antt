use Rattle.std.proofs.Common.{◌≡◌, true, false}
use Rattle.record_cases.proofs.publishing.push_steps.Given as goal

abbrev pub invariant-loop : goal.invariant-loop
invariant-loop l = (l.publisher.is_begun ≡ true) × (l.publisher.is_spent ≡ false)
