-- For proofs of the code's steps, and no part of the meaning: operators that one side settles.
use Rattle.std.specs.Prelude.{◌≡◌, Option}
use Rattle.osq_value.specs.declared.value.Value.{Value}
use Rattle.osq_value.specs.declared.catalogue.Affinity.{Affinity}
use Rattle.sql_tree.specs.declared.tree.Operator.{Operator}
use Rattle.sql_scalar.specs.Operators.{apply_of}

-- the operator gives this value for a left side, whatever stands at its right
abbrev pub IsSettled : Operator → Value → Value → Type 0
IsSettled op left value = (first second : Option Affinity) (right : Value) → value ≡ apply_of op first second left right
