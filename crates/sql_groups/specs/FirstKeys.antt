-- For proofs of the code's steps, and no part of the meaning: the first of what a row is sorted by.
use Rattle.osq_value.specs.declared.value.Value.{Value}
use Rattle.osq_value.specs.declared.value.Value.TheVariants.{Null, Int, Text}
use Rattle.sql_groups.specs.declared.first_key.FirstKey.{FirstKey}
use Rattle.sql_groups.specs.declared.first_key.FirstKey.TheVariants as first

-- the value that a first key is
abbrev pub first_value : FirstKey → Value
first_value first.Null = Null
first_value (first.Number n) = Int n
first_value (first.Text text) = Text text.now
