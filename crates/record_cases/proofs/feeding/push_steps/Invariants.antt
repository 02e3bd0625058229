use Rattle.std.proofs.Common.{◌≡◌, true, false}
use Rattle.record_cases.proofs.feeding.push_steps.Given as goal

abbrev pub invariant-loop : goal.invariant-loop
invariant-loop l = (l.feed.reader.is_begun ≡ true) × (l.feed.reader.is_spent ≡ false)
