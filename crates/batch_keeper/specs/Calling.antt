-- The calls on a keeper, as far as it counts them, and which of them fail.
use Rattle.std.specs.Prelude.{◌≡◌, ℕ, ◌+◌, zero, suc, ◌==◌, Bool, true, false, List, [], Result, Err, IsErr}
use Rattle.std.specs.List.{list_any}
use Rattle.osq_outside.specs.declared.fails.Fail.{Fail}
use Rattle.osq_outside.specs.Failing.{one_more}
use Rattle.batch_keeper.specs.declared.keeper.KeeperError.{KeeperError}
use Rattle.batch_keeper.specs.declared.keeper.KeeperError.TheVariants.{Fault}

-- the calls that are to fail, how many calls were made, and whether a seal that fails keeps its entries
pub record Calls : Type 0 where
  pub fails : List Fail
  pub made : ℕ
  pub is_whole : Bool

-- those of a keeper that doesn't count them
abbrev pub no_calls : Calls
no_calls = record { fails = []; made = 0; is_whole = false }

-- the number of the next call stands among those that are to fail
abbrev pub is_next : Calls → Bool
is_next calls = list_any (λ (fail : Fail). fail.call == one_more calls.made) calls.fails

-- the same behind one more call
abbrev pub after_one : Calls → Calls
after_one calls = record calls { made = one_more calls.made }

-- One more call was made. It answers its fault only where it is to fail, and an error where it is.
pub record MakesCall {T : Type 0} (before after : Calls) (result : Result T KeeperError) : Type 0 where
  pub made : after ≡ after_one before
  pub only : result ≡ Err Fault → is_next before ≡ true
  pub listed : is_next before ≡ true → IsErr result

-- so many calls were made, and none of them was to fail
abbrev pub Passes : Calls → ℕ → Calls → Type 0
Passes before zero after = after ≡ before
Passes before (suc count) after = (is_next before ≡ false) × Passes (after_one before) count after

-- behind so many calls, of which none was to fail, one was made that was
pub record Fails (before : Calls) (count : ℕ) (after : Calls) : Type 0 where
  pub last : Calls
  pub passed : Passes before count last
  pub next : is_next last ≡ true
  pub made : after ≡ after_one last
