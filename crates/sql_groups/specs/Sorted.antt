-- For proofs of the code's steps, and no part of the meaning: rows of the result beside what they are sorted by.
use Rattle.std.specs.Prelude.{List, ◌∷◌, map}
use Rattle.osq_value.specs.declared.value.Value.{Value}
use Rattle.sql_query.specs.Resolved.{OrderTree, ResultTree}
use Rattle.sql_meaning.specs.declared.joined.Joined.{Joined}
use Rattle.sql_meaning.specs.Expressions.{alone, value_of}
use Rattle.sql_meaning.specs.Lent.{values_in}
use Rattle.sql_meaning.specs.Worths.{worths}
use Rattle.sql_groups.specs.declared.sorted.KeyedRow.{KeyedRow}
use Rattle.sql_groups.specs.declared.sorted.SortKeys.{SortKeys}
use Rattle.sql_groups.specs.declared.sorted.SortKeys.TheVariants as sort
use Rattle.sql_groups.specs.FirstKeys.{first_value}
use Rattle.sql_groups.specs.Leading.{sort_keys}

-- the values that a row is sorted by
abbrev pub key_values : SortKeys → List Value
key_values (sort.Known first others) = first_value first ∷ worths others
key_values (sort.Made keys) = worths keys

-- the columns of the result of a row
abbrev pub columns : List ResultTree → Joined → List Value
columns items row = map (λ (item : ResultTree). value_of (alone (values_in row)) item.expr) items

-- the columns of the result behind what they are sorted by
abbrev pub pair_of : KeyedRow → List Value × List Value
pair_of made = (key_values made.keys, made.row)

-- the same, as a row means it
abbrev pub keyed_row : List OrderTree → List ResultTree → Joined → List Value × List Value
keyed_row terms items row = (sort_keys terms (values_in row), columns items row)
