-- What the calls of a sink leave.
use Rattle.std.proofs.Common.{◌≡◌, ◌⊎◌, inl, inr, ◌≤◌, ℕ, List, ◌++◌, take, arith, Ok, Err}
use Rattle.std.specs.Prelude.{Result}
use Rattle.osq_outside.specs.Causes.{Rose, HasCause}
use Rattle.osq_outside.specs.Writing.{WritesAll}

-- a text was written, or by a fault a front part of it
pub written_or_front : {T E : Type 0} (before after text : List ℕ) (faults now : ℕ) (result : Result T E) → WritesAll before after text result → HasCause faults now result
    → (after ≡ before ++ text) ⊎ (Rose faults now × ((count : ℕ) × (after ≡ before ++ take count text)))
written_or_front before after text faults now (Ok x) writes cause = inl writes
written_or_front before after text faults now (Err e) writes cause = inr (cause.failed, writes)

-- a count that rose behind a call rose over both
pub rose_behind : (first between now : ℕ) → first ≤ between → Rose between now → Rose first now
rose_behind first between now later rose = omega (arith, later, rose)

pub later_then : (first between now : ℕ) → first ≤ between → between ≤ now → first ≤ now
later_then first between now before behind = omega (arith, before, behind)

-- one of two sinks failed, the second before another call of it
pub failed_before : (A : Type 0) (first to now : ℕ) → to ≤ now → A ⊎ Rose first to → A ⊎ Rose first now
failed_before A first to now behind (inl failed) = inl failed
failed_before A first to now behind (inr rose) = inr (omega (arith, behind, rose))

-- what was told, told otherwise
pub told_or_failed : {A B F : Type 0} → (A → B) → A ⊎ F → B ⊎ F
told_or_failed more (inl told) = inl (more told)
told_or_failed more (inr failed) = inr failed
