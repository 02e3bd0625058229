-- The texts of statements.
use Rattle.std.specs.Prelude.{ℕ, List}
use Rattle.kept_tables.specs.declared.changes.Statement.{Statement}
use Rattle.kept_tables.specs.declared.changes.Statement.TheVariants as statement
use Rattle.kept_tables.specs.declared.layout.TheConstants as layout

-- each statement has the text of its name
abbrev pub text_of : Statement → List ℕ
text_of statement.WriteCounts = layout.WRITE_COUNTS.now
text_of statement.AddConfigured = layout.ADD_CONFIGURED.now
text_of statement.NoteTaken = layout.NOTE_TAKEN.now
text_of statement.AddEvents = layout.ADD_EVENTS.now
text_of statement.Expire = layout.EXPIRE.now
text_of statement.Unset = layout.UNSET.now
text_of statement.AddSetPart = layout.ADD_SET_PART.now
text_of statement.NoteRun = layout.NOTE_RUN.now
text_of statement.AddBatch = layout.ADD_BATCH.now
text_of statement.AddBatchPart = layout.ADD_BATCH_PART.now
text_of statement.Acknowledge = layout.ACKNOWLEDGE.now
