-- What lent and made values stand for.
use Rattle.std.specs.Prelude.{List, map}
use Rattle.osq_value.specs.declared.value.Value.{Value}
use Rattle.sql_meaning.specs.declared.worth.Worth.{Worth}
use Rattle.sql_meaning.specs.declared.worth.Worth.TheVariants as worth

abbrev pub worth_of : Worth → Value
worth_of (worth.Held value) = value.now
worth_of (worth.Made value) = value

-- the values of a row of the result
abbrev pub worths : List Worth → List Value
worths row = map worth_of row
