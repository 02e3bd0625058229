-- The result lines of entries.
use Rattle.std.specs.Prelude.{◌≡◌, ℕ, List, [], ◌∷◌, ◌++◌, Option, Some, None}
use Rattle.sql_texts.specs.Meaning.{names_of}
use Rattle.pack_rules.specs.declared.schedule.Form.{Form}
use Rattle.pack_rules.specs.declared.schedule.Schedule.{Schedule}
use Rattle.entry_model.specs.declared.entry.Entry.{Entry}
use Rattle.entry_model.specs.declared.entry.Entry.TheVariants.{Committed}
use Rattle.entry_model.specs.Values.{schedule_in}
use Rattle.result_batches.specs.Lines.{AreLines}
use Rattle.daemon_rounds.specs.Answering.{IsTellable}

abbrev pub form_by : Form → Option Schedule → Form
form_by form None = form
form_by form (Some schedule) = schedule.form

-- the form of lines that runs behind an entry, where this one ran before it
abbrev pub form_after : Form → Entry → Form
form_after form entry = form_by form (schedule_in entry)

-- the lines of an entry: those of a batch in this form, with the names that its query gives and no decoration; no other entry has lines
abbrev pub Tells : List ℕ → Form → Entry → List ℕ → Type 0
Tells host form (Committed batch) lines = AreLines form host (names_of batch.query.text) [] batch lines
Tells host form entry lines = lines ≡ []

-- the lines of entries, one entry after another, each in the form that runs there
abbrev pub AreLinesOf : List ℕ → Form → List Entry → List ℕ → Type 0
AreLinesOf host form [] text = text ≡ []
AreLinesOf host form (entry ∷ rest) text =
    (lines : List ℕ) × (others : List ℕ) × Tells host form entry lines × AreLinesOf host (form_after form entry) rest others × (text ≡ lines ++ others)

-- lines can tell of the entry: of a batch where its text is a query and the calendar has its moment
abbrev pub IsTold : Entry → Type 0
IsTold (Committed batch) = IsTellable batch
IsTold entry = Unit {0}

abbrev pub AreTellable : List Entry → Type 0
AreTellable [] = Unit {0}
AreTellable (entry ∷ rest) = IsTold entry × AreTellable rest
