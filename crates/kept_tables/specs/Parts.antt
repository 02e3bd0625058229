-- Which groups the texts that are being written have.
use Rattle.std.specs.Prelude.{◌≡◌, ℕ, Bool, List, map}
use Rattle.osq_value.specs.declared.value.Value.{Value}
use Rattle.entry_model.specs.declared.restored.Live.{Live}
use Rattle.kept_tables.specs.declared.parts.EventPart.{EventPart}
use Rattle.kept_tables.specs.declared.parts.EventTexts.{EventTexts}
use Rattle.kept_tables.specs.declared.parts.RowTexts.{RowTexts}
use Rattle.kept_tables.specs.Edits.{is_full, rows_of, rows_text}
use Rattle.kept_tables.specs.Groups.{Grouped}
use Rattle.kept_tables.specs.Lists.{opened}
use Rattle.kept_tables.specs.Rows.{row_text}

pub record AreTexts (texts : RowTexts) (held : Grouped (List Value)) : Type 0 where
  pub full : texts.full ≡ map rows_text held.full
  pub growing : texts.growing ≡ opened (map row_text held.growing)

abbrev pub full_events : List Live → Bool
full_events events = is_full (rows_of events)

abbrev pub numbers_in : List Live → List ℕ
numbers_in events = map (λ (event : Live). event.number) events

abbrev pub part_text : List Live → EventPart
part_text events = record { numbers = numbers_in events; rows = rows_text (rows_of events) }

pub record AreEventTexts (texts : EventTexts) (held : Grouped Live) : Type 0 where
  pub full : texts.full ≡ map part_text held.full
  pub numbers : texts.numbers ≡ numbers_in held.growing
  pub growing : texts.growing ≡ opened (map row_text (rows_of held.growing))
