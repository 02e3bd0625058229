-- For proofs of the code's steps, and no part of the meaning: the best of values, one value after another.
use Rattle.std.specs.Prelude.{List, Bool, true, false, Option, Some, None}
use Rattle.std.specs.List.{reduce}
use Rattle.osq_value.specs.declared.value.Value.{Value}
use Rattle.sql_meaning.specs.Folds.{lesser, greater}

-- the greater of two, or the lesser
abbrev pub chosen : Bool → Value → Value → Value
chosen true = greater
chosen false = lesser

abbrev pub nearer_of : Bool → Option Value → Value → Value
nearer_of is_greatest None value = value
nearer_of is_greatest (Some best) value = chosen is_greatest best value

abbrev pub extreme_of : Bool → List Value → Option Value
extreme_of is_greatest values = reduce (chosen is_greatest) values
