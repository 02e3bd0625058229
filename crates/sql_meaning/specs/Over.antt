-- What an expression is evaluated over, as definitions see it.
use Rattle.std.specs.Prelude.{map}
use Rattle.sql_meaning.specs.declared.expressions.Over.{Over}
use Rattle.sql_meaning.specs.declared.expressions.Over.TheVariants as over
use Rattle.sql_meaning.specs.Expressions.{Environment, alone}
use Rattle.sql_meaning.specs.Lent.{values_in}
use Rattle.sql_meaning.specs.Steps.{together}

abbrev pub environment_of : Over → Environment
environment_of (over.Row values) = alone values.now
environment_of (over.Lent row) = alone (values_in row)
environment_of (over.Group rows) = together (map values_in rows.now)
