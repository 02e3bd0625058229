-- What a reader of rows answers.
use Rattle.std.specs.Prelude.{◌≡◌, Result, Ok, Err}
use Rattle.kept_tables.specs.declared.error.TableError.{TableError}
use Rattle.kept_tables.specs.declared.error.TableError.TheVariants as fault

-- this value, where memory isn't wanting
abbrev pub Gives : {X : Type 0} → X → Result X TableError → Type 0
Gives value (Ok x) = x ≡ value
Gives value (Err fault.Unreadable) = ⊥
Gives value (Err fault.NoMemory) = Unit {0}
