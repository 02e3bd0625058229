use Rattle.std.proofs.Common.{◌≡◌, ◌≢◌, true, false}
use Rattle.osq_value.specs.declared.source.SourceKind.TheVariants.{Tables}
use Rattle.record_cases.proofs.recording.push_steps.Given as goal

abbrev pub invariant-loop : goal.invariant-loop
invariant-loop l = (l.publisher.is_begun ≡ true) × (l.publisher.is_spent ≡ false) × (l.publisher.kind ≢ Tables)
