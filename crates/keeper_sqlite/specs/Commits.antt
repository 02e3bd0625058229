-- What the calls of a keeper let a crash leave on the disk.
use Rattle.std.specs.Prelude.{◌≡◌, Result, OnOk, IsTrue}
use Rattle.sqlite.specs.Tree.{Trees}
use Rattle.sqlite.specs.State.{State, HasCleanDisk, Survives}

-- behind the call a crash leaves nothing that it could not leave before
abbrev pub CommitsNothing : State → State → Type 0
CommitsNothing old new = Survives old new (λ _. ⊥)

-- there is one value that the call may have made lasting: what a crash may leave behind it is that value, or what it could leave before;
-- and behind Ok the connection shows that value as the last commit
pub record IsOneCommit {T E : Type 0} (old new : State) (result : Result T E) : Type 0 where
  pub whole : Trees
  pub survives : Survives old new (λ db. db ≡ whole)
  pub ok : HasCleanDisk new → OnOk result (IsTrue new.is_open × (new.committed.trees ≡ whole))
