-- What is answered where something below was refused.
use Rattle.std.proofs.Common.{◌≡◌, Result, Ok, Err, sym, subst}
use Rattle.std.specs.Prelude.{IsErrAnd}
use Rattle.kept_tables.specs.declared.error.TableError.{TableError}
use Rattle.kept_tables.specs.declared.error.TableError.TheVariants as fault
use Rattle.kept_tables.specs.Reads.{Gives}

-- a refusal of a part is one of the whole
pub refused : {X Y : Type 0} → (x : X) (y : Y) (e : TableError) → Gives x (Err e) → Gives y (Err e)
refused x y fault.Unreadable h = h
refused x y fault.NoMemory h = tt

-- the fault that was passed on
pub passed_on : {Y : Type 0} → (y : Y) (e : TableError) (r : Result Y TableError) → IsErrAnd r (λ passed. passed ≡ e) → Gives y (Err e) → Gives y r
passed_on y e (Ok z) h gives = absurd h
passed_on y e (Err passed) h gives = subst (λ (f : TableError). Gives y (Err f)) (sym h) gives
