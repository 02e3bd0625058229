-- The values of a row, whosever they are.
use Rattle.std.specs.Prelude.{List}
use Rattle.std.specs.Arc.{arc_value}
use Rattle.osq_value.specs.declared.value.Value.{Value}
use Rattle.osq_value.specs.declared.rows.Values.{Values}
use Rattle.osq_value.specs.declared.rows.Values.TheVariants as values

abbrev pub values_of : Values → List Value
values_of (values.Own held) = held.items
values_of (values.Shared held) = (arc_value held).items
values_of (values.One held) = arc_value held
values_of (values.Two held) = arc_value held
values_of (values.Four held) = arc_value held
values_of (values.Five held) = arc_value held
values_of (values.Six held) = arc_value held
values_of (values.Ten held) = arc_value held
values_of (values.Twelve held) = arc_value held
values_of (values.Thirteen held) = arc_value held
