-- The bytes of a text, whatever is known of it.
use Rattle.std.specs.Prelude.{ℕ, List}
use Rattle.std.specs.Arc.{arc_value}
use Rattle.sql_texts.specs.declared.query_text.Held.{Held}
use Rattle.sql_texts.specs.declared.query_text.Held.TheVariants as held

abbrev pub held_text : Held → List ℕ
held_text (held.Read text) = text
held_text (held.Accepted query) = arc_value query
