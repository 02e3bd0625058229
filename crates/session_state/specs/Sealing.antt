-- What is known of each entry that is to be sealed, whatever was restored.
use Rattle.std.specs.Prelude.{◌≡◌, ◌≤◌, true, All, List, length}
use Rattle.osq_value.specs.declared.value.Value.{Value}
use Rattle.osq_value.specs.declared.moment.TheConstants.{LAST_MOMENT}
use Rattle.sql_texts.specs.Meaning.{is_accepted, names_of}
use Rattle.entry_model.specs.declared.entry.Batch.{Batch}
use Rattle.entry_model.specs.declared.entry.Entry.{Entry}
use Rattle.entry_model.specs.declared.entry.Entry.TheVariants.{Committed}

-- the text is accepted, each row has a value for each name of its columns, and the moment is one of the calendar
pub record IsSendable (batch : Batch) : Type 0 where
  pub accepted : is_accepted batch.query.text ≡ true
  pub wide : All (λ (row : List Value). length row ≡ length (names_of batch.query.text)) batch.rows
  pub calendar : batch.moment ≤ LAST_MOMENT

-- if it is a batch it can be sent
abbrev pub IsSealable : Entry → Type 0
IsSealable entry = (batch : Batch) → entry ≡ Committed batch → IsSendable batch
