-- What a seal has come to, step by step.
use Rattle.std.specs.Prelude.{ℕ, ◌+◌, List, [], ◌∷◌, ◌++◌, map}
use Rattle.std.specs.Fmt.{decimal}
use Rattle.result_batches.specs.Json.{array}
use Rattle.entry_model.specs.declared.entry.Entry.{Entry}
use Rattle.kept_tables.specs.declared.changes.Change.{Change}
use Rattle.kept_tables.specs.declared.changes.Parameter.TheVariants as given
use Rattle.kept_tables.specs.declared.changes.Statement.TheVariants as statement
use Rattle.kept_tables.specs.declared.counts.Counts.{Counts}
use Rattle.kept_tables.specs.declared.parts.EventPart.{EventPart}
use Rattle.kept_tables.specs.declared.sealing.Sealing.{Sealing}
use Rattle.kept_tables.specs.Edits.{Edit, change, counts_after, edits_of, last_in, next, number, spelled}

abbrev pub with_changes : Sealing → List Change → Sealing
with_changes sealing changes = record sealing { changes = sealing.changes ++ changes }

abbrev pub with_edits : Sealing → List Edit → Sealing
with_edits sealing edits = with_changes sealing (map spelled edits)

-- these counts, and one edit more or some
abbrev pub comes_to : Sealing → Counts → List Edit → Sealing
comes_to sealing counts edits = record { counts = counts; changes = sealing.changes ++ map spelled edits }

-- by the counts at the entry, and by those before it
abbrev pub at_entry : Sealing → Entry → Sealing
at_entry sealing entry = comes_to sealing (counts_after sealing.counts entry) (edits_of sealing.counts entry)

abbrev pub with_entry : Sealing → Entry → Sealing
with_entry sealing entry = at_entry (record sealing { counts = next sealing.counts }) entry

-- the statement that adds a part of live events
abbrev pub event_change : ℕ → ℕ → EventPart → Change
event_change table moment part =
    change statement.AddEvents (number (last_in part.numbers) ∷ number table ∷ number moment ∷ given.List (array (map decimal part.numbers)) ∷ given.List part.rows ∷ [])

-- the statement that adds some rows of a recorded table
abbrev pub set_change : ℕ → List ℕ → Change
set_change table text = change statement.AddSetPart (number table ∷ given.List text ∷ [])

-- with some rows of a batch
abbrev pub with_batch_part : ℕ → Sealing → List ℕ → Sealing
with_batch_part batch sealing text = record {
  counts = record sealing.counts { parts = sealing.counts.parts + 1 };
  changes = sealing.changes ++ change statement.AddBatchPart (number (sealing.counts.parts + 1) ∷ number batch ∷ given.List text ∷ []) ∷ [];
}
