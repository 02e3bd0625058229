-- The rows of a table that a view shows, in however many parts.
use Rattle.std.specs.Prelude.{List}
use Rattle.osq_value.specs.declared.value.Value.{Value}
use Rattle.event_store.specs.declared.shown.Held.{Held}
use Rattle.event_store.specs.declared.shown.Held.TheVariants.{Whole, Parted}
use Rattle.event_store.specs.Parts.{rows_of}

abbrev pub shown_of : Held → List (List Value)
shown_of (Whole rows) = rows
shown_of (Parted rows) = rows_of rows
