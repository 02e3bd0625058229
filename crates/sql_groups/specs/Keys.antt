-- For proofs of the code's steps, and no part of the meaning: values by which rows are looked up.
use Rattle.std.specs.Prelude.{List}
use Rattle.osq_value.specs.declared.value.Value.{Value}
use Rattle.sql_query.specs.Exprs.{ExprTree}
use Rattle.sql_meaning.specs.declared.joined.Joined.{Joined}
use Rattle.sql_meaning.specs.declared.worth.Worth.{Worth}
use Rattle.sql_meaning.specs.Lent.{values_in}
use Rattle.sql_meaning.specs.Steps.{key_values}
use Rattle.sql_meaning.specs.Worths.{worths}
use Rattle.sql_groups.specs.declared.keys.Key.{Key}
use Rattle.sql_groups.specs.declared.keys.Key.TheVariants as key

abbrev pub key_list : {T : Type 0} → Key T → List T
key_list (key.One values) = values
key_list (key.Two values) = values
key_list (key.Many values) = values

abbrev pub key_worths : Key Worth → List Value
key_worths k = worths (key_list k)

-- the values of expressions over a row
abbrev pub row_values : List ExprTree → Joined → List Value
row_values exprs row = key_values exprs (values_in row)
