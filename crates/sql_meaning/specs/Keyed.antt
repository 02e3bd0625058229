-- For proofs of the code's steps, and no part of the meaning: rows beside what they are grouped by.
use Rattle.std.specs.Prelude.{List}
use Rattle.osq_value.specs.declared.value.Value.{Value}
use Rattle.sql_query.specs.Exprs.{ExprTree}
use Rattle.sql_meaning.specs.declared.groups.Keyed.{Keyed}
use Rattle.sql_meaning.specs.declared.joined.Joined.{Joined}
use Rattle.sql_meaning.specs.Lent.{values_in}
use Rattle.sql_meaning.specs.Steps.{key_values}
use Rattle.sql_meaning.specs.Worths.{worths}

-- a row with the values of GROUP BY
abbrev pub keyed_by : List ExprTree → Joined → List Value × Joined
keyed_by keys row = (key_values keys (values_in row), row)

-- the same of a member
abbrev pub member_of : Keyed → List Value × Joined
member_of member = (worths member.key, member.row)
