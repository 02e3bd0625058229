-- Calls that commit nothing, or one value, one after another.
use Rattle.std.proofs.Common.{◌≡◌, Bool, Result, Ok, Err, false, true, refl, ap, inl, arith}
use Rattle.std.specs.Prelude.{IfOk, OnErr, OnOk}
use Rattle.std.specs.Result.{is_ok}
use Rattle.std.proofs.lemmas.Result.{on_ok_weaker}
use Rattle.sqlite.specs.State.{State, HasCleanDisk, Shows, Survives}
use Rattle.sqlite.proofs.StateLemmas.{survives_then, survives_weaker}
use Rattle.keeper_sqlite.specs.declared.stop.Stop.{Stop}
use Rattle.keeper_sqlite.specs.declared.stop.Stop.TheVariants.{Fault, NoMemory}
use Rattle.keeper_sqlite.specs.Commits.{CommitsNothing, IsOneCommit}
use Rattle.keeper_sqlite.specs.Told.{told_of}

pub same_commits_nothing : (s : State) → CommitsNothing s s
same_commits_nothing s = record { clean = omega arith; shield = λ h. h; counts = omega arith; limit = refl; closes = λ _ h. inl h; crash = λ _ db h. inl h }

pub nothing_then_nothing : (a b c : State) → CommitsNothing a b → CommitsNothing b c → CommitsNothing a c
nothing_then_nothing a b c one two = survives_then a b c _ _ (λ _. ⊥) (λ _ db none. none) (λ _ db none. none) one two

-- a call that commits nothing and is refused
pub none_is_one : {T E : Type 0} (a b : State) (e : E) → CommitsNothing a b → IsOneCommit {T = T} a b (Err e)
none_is_one a b e h = record { whole = a.now.trees; survives = survives_weaker a b _ _ (λ _ db none. absurd none) h; ok = λ _. tt }

-- what was written before a commit is lasting behind it
pub nothing_then_one : {T E : Type 0} (a b c : State) (result : Result T E) → CommitsNothing a b → Survives b c (λ db. db ≡ b.now.trees)
    → (HasCleanDisk c → OnOk result (Shows b c b.now b.now false)) → IsOneCommit a c result
nothing_then_one a b c result one two ok = record {
  whole = b.now.trees;
  survives = survives_then a b c _ _ (λ db. db ≡ b.now.trees) (λ _ db none. absurd none) (λ _ db is. is) one two;
  ok = λ clean. on_ok_weaker result (λ shown. (shown.is_open, ap (λ db. db.trees) shown.committed_is)) (ok clean);
}

-- a keeper tells of a commit as it went
pub one_is_told : {T : Type 0} (a b : State) (answer : Result T Stop) → IsOneCommit a b answer → IsOneCommit a b (told_of answer)
one_is_told a b (Ok value) h = record { whole = h.whole; survives = h.survives; ok = h.ok }
one_is_told a b (Err Fault) h = record { whole = h.whole; survives = h.survives; ok = λ _. tt }
one_is_told a b (Err NoMemory) h = record { whole = h.whole; survives = h.survives; ok = λ _. tt }

-- and what holds of its value
pub value_is_told : {T : Type 0} (P : T → Type 0) (answer : Result T Stop) → IfOk answer P → IfOk (told_of answer) P
value_is_told P (Ok value) holds = holds
value_is_told P (Err Fault) holds = tt
value_is_told P (Err NoMemory) holds = tt

-- and of its success
pub success_is_told : {T : Type 0} (P : Type 0) (answer : Result T Stop) → OnOk answer P → OnOk (told_of answer) P
success_is_told P (Ok value) holds = holds
success_is_told P (Err Fault) holds = tt
success_is_told P (Err NoMemory) holds = tt

-- and whether it went well
pub known_is_told : {T : Type 0} (answer : Result T Stop) (known : Bool) → known ≡ is_ok answer → OnOk (told_of answer) (known ≡ true)
known_is_told (Ok value) known is = is
known_is_told (Err Fault) known is = tt
known_is_told (Err NoMemory) known is = tt

pub unknown_is_told : {T : Type 0} (answer : Result T Stop) (known : Bool) → known ≡ is_ok answer → OnErr (told_of answer) (known ≡ false)
unknown_is_told (Ok value) known is = tt
unknown_is_told (Err Fault) known is = is
unknown_is_told (Err NoMemory) known is = is
