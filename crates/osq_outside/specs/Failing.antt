-- Which calls on an object in memory are faults, and how they are counted.
use Rattle.std.specs.Prelude.{◌≡◌, ◌↔◌, ℕ, ◌+◌, ◌-◌, ◌^◌, ◌==◌, min, Bool, true, if◌then◌else◌, List, Result, Err, is_err, IsErr}
use Rattle.std.specs.List.{list_any}
use Rattle.osq_outside.specs.declared.fails.Fail.{Fail}
use Rattle.osq_outside.specs.declared.fails.Failures.{Failures}

-- a count after one more, which stops at the last value of its type
abbrev pub one_more : ℕ → ℕ
one_more count = min (count + 1) (2 ^ 64 - 1)

-- the failures of an object on which no call was made
abbrev pub fresh : List Fail → Failures
fresh fails = record { fails = fails; calls = 0; faults = 0 }

-- the number of the next call stands among those that are to fail
abbrev pub is_next_to_fail : Failures → Bool
is_next_to_fail failures = list_any (λ (fail : Fail). fail.call == one_more failures.calls) failures.fails

-- one more call was counted, and as a fault exactly where it is one
pub record CountsCall (before after : Failures) (is_fault : Bool) : Type 0 where
  pub fails : after.fails ≡ before.fails
  pub calls : after.calls ≡ one_more before.calls
  pub faults : after.faults ≡ (if is_fault then one_more before.faults else before.faults)

-- one call of an object that answers its fault exactly where it is to fail
pub record FailsAsListed {T E : Type 0} (fault : E) (before after : Failures) (result : Result T E) : Type 0 where
  pub counted : CountsCall before after (is_next_to_fail before)
  pub exactly : (result ≡ Err fault) ↔ (is_next_to_fail before ≡ true)

-- one call of an object that answers a fault where it is to fail, and else only for want of memory
pub record FailsAsListedOrStarves {T E : Type 0} (before after : Failures) (result : Result T E) : Type 0 where
  pub counted : CountsCall before after (is_err result)
  pub listed : is_next_to_fail before ≡ true → IsErr result
