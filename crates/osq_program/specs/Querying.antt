-- What `query` does.
use Rattle.std.specs.Prelude.{◌≡◌, ◌⊎◌, ◌<◌, ◌≤◌, ℕ, Bool, true, false, List, [], ◌∷◌, ◌++◌, take, flat_map, None, Some}
use Rattle.osq_value.specs.declared.moment.TheConstants.{LAST_MOMENT}
use Rattle.osq_value.specs.declared.value.Value.{Value}
use Rattle.entry_model.specs.declared.restored.Taken.{Taken}
use Rattle.entry_model.specs.Fits.{Fits}
use Rattle.entry_model.specs.Legal.{Legal}
use Rattle.entry_model.specs.Summary.{summary}
use Rattle.program_words.specs.declared.command.QueryWords.{QueryWords}
use Rattle.result_batches.specs.Labels.{labelled}
use Rattle.result_batches.specs.Lines.{object}
use Rattle.sql_texts.specs.Meaning.{names_of}
use Rattle.sql_texts.specs.declared.text.TextError.{TextError}
use Rattle.sql_query.specs.declared.derived.Derived.{Derived}
use Rattle.sql_texts.specs.TextFaults.{text_fault, text_fault_with, place_of_fault, name_of_fault}
use Rattle.session_model.specs.Given.{Given}
use Rattle.query_rounds.specs.Asking.{IsAnswer, AnswersSomeContinuation, Spends}
use Rattle.query_rounds.specs.Skipping.{TellsSkipped}
use Rattle.query_rounds.specs.declared.asking.Asked.{Asked}
use Rattle.osq_program.specs.declared.status.Status.{Status}
use Rattle.osq_program.specs.declared.status.Status.TheVariants.{Ok as Done, SinkFault, TicksSpent, OutOfMemory}
use Rattle.osq_program.specs.Answers.{Causes, IsCaused, IsRefusal, no_causes}
use Rattle.osq_program.specs.Reasons.{HasFailed, HasShrunk, IsFit, IsUnfit}
use Rattle.osq_program.specs.Setups.{sources_named}
use Rattle.osq_program.specs.Observed.{Observed}
use Rattle.osq_program.specs.Watching.{IsRefusedIn, Watches}

-- an object and a line feed for each row
abbrev pub row_lines : List (List ℕ) → List (List Value) → List ℕ
row_lines names rows = flat_map (λ row. object names row ++ 10 ∷ []) rows

-- the same by the labels of the names
abbrev pub labelled_lines : List (List ℕ) → List (List Value) → List ℕ
labelled_lines labels rows = flat_map (λ row. labelled labels row ++ 10 ∷ []) rows

-- where FROM may mean these tables too, the text's fault is this
abbrev pub IsRefusedOver : List Derived → List ℕ → ℕ → List ℕ → Type 0
IsRefusedOver derived text place kind =
    (fault : TextError) × (text_fault_with derived text ≡ Some fault) × (place ≡ place_of_fault fault) × (kind ≡ name_of_fault fault)

-- the text's fault is this
abbrev pub IsRefusedAt : List ℕ → ℕ → List ℕ → Type 0
IsRefusedAt text place kind =
    (fault : TextError) × (text_fault text ≡ Some fault) × (place ≡ place_of_fault fault) × (kind ≡ name_of_fault fault)

-- the text is a query, and the configuration, where the words name one, was accepted
pub record IsPosed (words : QueryWords) (seen : Observed) : Type 0 where
  pub accepted : text_fault words.text ≡ None
  pub watched : Watches seen.files_tell seen.file words.config

-- A question is over the sources of the words, of each all that its object had to give, and over changes of these paths alone.
pub record IsQueryGiven (words : QueryWords) (seen : Observed) (posed : IsPosed words seen) (given : Given) : Type 0 where
  pub sources : given.sources ≡ sources_named words.sources seen.all_bytes
  pub paths : given.config.categories ≡ posed.watched.paths
  pub records : given.records ≡ words.records

-- The question was answered at the clock's one reading, over the kept list and what the sources have behind it: they were read to their ends, or
-- one of them had more, and the lines that were skipped were counted. Whatever the sources tell, the rows are those that the text means over the kept list, an opening, and entries for what they gave.
pub record HasAnswer (words : QueryWords) (seen : Observed) (is_end : Bool) : Type 0 where
  pub posed : IsPosed words seen
  pub moment : ℕ
  pub read : seen.reads moment
  pub early : moment ≤ LAST_MOMENT
  pub asked : Asked
  pub end_is : asked.is_end ≡ is_end
  pub meant : AnswersSomeContinuation seen.keeper_tells seen.kept_before words.sources words.text moment asked.rows
  pub taken : List Taken
  pub taken_is : seen.keeper_tells → taken ≡ (summary seen.kept_before).taken
  pub fit : seen.keeper_tells → Fits (summary seen.kept_before)
  pub skips : TellsSkipped seen.source_tells posed.watched.paths taken words.sources seen.all_bytes asked.is_end asked.skipped
  pub answer : seen.keeper_tells → seen.source_tells → Legal seen.kept_before → (given : Given) → IsQueryGiven words seen posed given → IsAnswer given seen.kept_before words.text words.ticks moment asked

-- the lines of these rows
abbrev pub lines_in : QueryWords → Asked → List ℕ
lines_in words asked = row_lines (names_of words.text) asked.rows

-- The causes of a query. Each carries what was passed before it.
abbrev pub causes_of : QueryWords → Observed → Causes
causes_of words seen =
    record no_causes {
      query = IsRefusedAt words.text;
      files = (text_fault words.text ≡ None) × seen.files_failed;
      refused = λ kind key. (text_fault words.text ≡ None) × IsRefusedIn seen.files_tell seen.file words.config kind key;
      keeper = IsPosed words seen × seen.keeper_failed;
      unfit = IsPosed words seen × IsUnfit seen;
      moment = λ moment. IsPosed words seen × IsFit seen × seen.reads moment × (LAST_MOMENT < moment);
      source = λ name. IsPosed words seen × IsFit seen × HasFailed words.sources seen name;
      shrank = λ name kept found. IsPosed words seen × IsFit seen × HasShrunk words.sources seen name kept found;
      numbers = (posed : IsPosed words seen) × IsFit seen × (seen.keeper_tells → seen.source_tells → Legal seen.kept_before → (given : Given) → IsQueryGiven words seen posed given → Spends given seen.kept_before words.ticks);
      sink = IsPosed words seen × ((IsFit seen × seen.results_failed) ⊎ seen.status_failed);
    }

-- What the writing of these lines leaves of a sink: all of them or, at its fault, a front part; and none, where the sources had more.
abbrev pub Writes : (tells : Type 0) → Bool → (before after lines : List ℕ) → (failed : Type 0) → Status → Type 0
Writes tells is_end before after lines failed Done = (is_end ≡ true) × (tells → after ≡ before ++ lines)
Writes tells is_end before after lines failed SinkFault = (is_end ≡ true) × failed × (tells → (count : ℕ) × (after ≡ before ++ take count lines))
Writes tells is_end before after lines failed TicksSpent = (is_end ≡ false) × (tells → after ≡ before)
Writes tells is_end before after lines failed OutOfMemory = tells → after ≡ before
Writes tells is_end before after lines failed _ = ⊥

-- What each answer leaves in the results, and where the query is done on the status stream, which then tells of each pack that is left out and of the
-- lines that were skipped. At a fault of the status stream before the rows are written, and at any other refusal, the results are as before; at a fault of theirs they have a front
-- part of the lines.
abbrev pub QueryLeaves : QueryWords → Observed → Status → Type 0
QueryLeaves words seen Done = (has : HasAnswer words seen true)
    × (seen.sink_tells → (seen.results_after ≡ seen.results_before ++ lines_in words has.asked) × (seen.status_after ≡ seen.status_before ++ (has.posed.watched.notes ++ has.asked.skipped)))
QueryLeaves words seen SinkFault = (seen.status_failed × (seen.sink_tells → seen.results_after ≡ seen.results_before))
    ⊎ ((has : HasAnswer words seen true) × seen.results_failed × (seen.sink_tells → (count : ℕ) × (seen.results_after ≡ seen.results_before ++ take count (lines_in words has.asked))))
QueryLeaves words seen TicksSpent = HasAnswer words seen false × (seen.sink_tells → seen.results_after ≡ seen.results_before)
QueryLeaves words seen _ = seen.sink_tells → seen.results_after ≡ seen.results_before

pub record IsQuery (words : QueryWords) (seen : Observed) (status : Status) : Type 0 where
  pub leaves : QueryLeaves words seen status
  pub cause : IsRefusal status → IsCaused (causes_of words seen) status
  pub kept : seen.keeper_tells → seen.kept_after ≡ seen.kept_before
