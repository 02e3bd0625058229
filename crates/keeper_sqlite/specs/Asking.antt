-- What a keeper asks of SQLite: what its queries show, and what the statements of a seal leave behind its commit.
use Rattle.std.specs.Prelude.{◌≡◌, ◌⊎◌, ℕ, Bool, true, List, [], ◌∷◌, map, Some, Ok}
use Rattle.sqlite_value.specs.declared.value.Value.{Value as Stored}
use Rattle.sqlite_value.specs.declared.value.Value.TheVariants as stored
use Rattle.sqlite_trees.specs.declared.store.Store.{Ghosts}
use Rattle.sqlite.specs.Batch.{ExecutesAllInside}
use Rattle.sqlite.specs.Held.{Held, state}
use Rattle.sqlite.specs.State.{ExecutesInside, Shown}
use Rattle.osq_value.specs.declared.value.Value.{Value}
use Rattle.osq_value.specs.declared.value.Value.TheVariants.{Null, Int, Text}
use Rattle.entry_model.specs.declared.entry.Entry.{Entry}
use Rattle.entry_model.specs.declared.restored.Restored.{Restored}
use Rattle.kept_tables.specs.declared.changes.Change.{Change}
use Rattle.kept_tables.specs.declared.changes.Parameter.{Parameter}
use Rattle.kept_tables.specs.declared.changes.Parameter.TheVariants as given
use Rattle.kept_tables.specs.declared.counts.Counts.{Counts}
use Rattle.kept_tables.specs.declared.layout.TheConstants.{COUNTS, LAYOUT_OF, LIVE, NAMES, RUNS, SET, TABLES, TAKEN}
use Rattle.kept_tables.specs.declared.restoring.Found.{Found}
use Rattle.kept_tables.specs.Counting.{counts_shown, is_layout}
use Rattle.kept_tables.specs.Edits.{seal_edits, spelled}
use Rattle.kept_tables.specs.Shows.{Shows}
use Rattle.kept_tables.specs.Statements.{text_of}

-- a value as the database holds it
abbrev pub held_as : Value → Stored
held_as Null = stored.Null
held_as (Int n) = stored.Int n
held_as (Text text) = stored.Text text

-- what a parameter is bound to
abbrev pub bound_to : Parameter → Stored
bound_to (given.Number n) = stored.Int n
bound_to (given.Text text) = stored.Text text
bound_to (given.List text) = stored.Text text

module _ {S : Type 0} (g : Ghosts S) where
  -- the query showed these rows
  abbrev pub Finds : List ℕ → List (List Value) → Held S → Held S → Type 0
  Finds sql rows old new = Shown sql [] (state g old) (state g new) (map (map held_as) rows)

  -- the query showed these counts
  abbrev pub FindsCounts : Counts → Held S → Held S → Type 0
  FindsCounts counts old new = (rows : List (List Value)) × Finds COUNTS.now rows old new × (counts_shown rows ≡ Some counts)

  -- the statement ran, with its parameters
  abbrev pub IsMade : Change → Held S → Held S → Type 0
  IsMade change old new = (count : ℕ) × ExecutesInside 0 (text_of change.statement) (map bound_to change.parameters) (state g old) (state g new) (Ok count)

  -- the statements ran, one after another, and nothing else
  abbrev pub AreMade : List Change → Held S → Held S → Type 0
  AreMade [] old new = new ≡ old
  AreMade (change ∷ changes) old new = (mid : Held S) × IsMade change old mid × AreMade changes mid new

  -- the database had no table, and then those of a kept list were made; or it has the number of their layout
  abbrev pub IsReady : Held S → Held S → Type 0
  IsReady old new =
      (names : List (List Value)) × (mid : Held S) × Finds NAMES.now names old mid
      × (((names ≡ []) × ExecutesAllInside g 0 TABLES.now mid new (Ok tt))
      ⊎ ((found : List (List Value)) × Finds LAYOUT_OF.now found mid new × (is_layout found ≡ true)))

  -- the tables are ready: an earlier seal of the connection found them so, and nothing was asked; or they were looked at now
  abbrev pub IsReadyOnce : Bool → Held S → Held S → Type 0
  IsReadyOnce is_known old new = ((is_known ≡ true) × (new ≡ old)) ⊎ IsReady old new

  -- the statements of these entries ran over the tables, by the counts that the tables had
  pub record Adds (is_known : Bool) (entries : List Entry) (old new : Held S) : Type 0 where
    pub ready : Held S
    pub tables : IsReadyOnce is_known old ready
    pub begun : Held S
    pub counts : Counts
    pub counted : FindsCounts counts ready begun
    pub made : AreMade (map spelled (seal_edits counts entries)) begun new

  -- what the seal commits is what those statements leave
  abbrev pub IsSealed : Bool → List Entry → Held S → Held S → Type 0
  IsSealed is_known entries old new = (done : Held S) × Adds is_known entries (record old { in_transaction = true }) done × ((state g new).committed ≡ (state g done).now)

  -- the queries of a load showed this, one after another
  pub record AreFound (found : Found) (old new : Held S) : Type 0 where
    pub ready : Held S
    pub tables : IsReady old ready
    pub counted : Held S
    pub counts : FindsCounts found.counts ready counted
    pub with_live : Held S
    pub live : Finds LIVE.now found.live counted with_live
    pub with_taken : Held S
    pub taken : Finds TAKEN.now found.taken with_live with_taken
    pub with_set : Held S
    pub set : Finds SET.now found.set with_taken with_set
    pub runs : Finds RUNS.now found.runs with_set new

  -- what is loaded are the values that they show, where they show some
  abbrev pub Loads : Restored → Held S → Held S → Type 0
  Loads restored old new = (found : Found) × AreFound found old new × ((values : Restored) → Shows found values → restored ≡ values)

  -- a load is that in a transaction of its own
  abbrev pub HasLoaded : Restored → Held S → Type 0
  HasLoaded restored old = (done : Held S) × Loads restored (record old { in_transaction = true }) done
