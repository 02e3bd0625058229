-- What a text answers over a kept list and what the sources have behind it.
use Rattle.std.specs.Prelude.{◌≡◌, ℕ, ◌+◌, ◌<◌, ◌≤◌, true, false, All, Contains, List, [], ◌∷◌, ◌++◌, length, Some}
use Rattle.osq_value.specs.declared.reading.Category.{Category}
use Rattle.osq_value.specs.declared.value.Value.{Value}
use Rattle.sql_texts.specs.Meaning.{meaning}
use Rattle.entry_model.specs.declared.entry.Entry.{Entry}
use Rattle.entry_model.specs.declared.entry.Entry.TheVariants.{Opened}
use Rattle.entry_model.specs.declared.restored.Restored.{Restored}
use Rattle.entry_model.specs.Legal.{Legal}
use Rattle.entry_model.specs.Summary.{source_in, summary}
use Rattle.entry_model.specs.Values.{sessions, taken_from}
use Rattle.entry_model.specs.Views.{view_of}
use Rattle.session_model.specs.Given.{Given, Source}
use Rattle.session_model.specs.Taking.{IsReadWhole}
use Rattle.session_state.specs.Kept.{Kept}
use Rattle.session_state.specs.StateOf.{IsStateOf}
use Rattle.daemon_rounds.specs.Starting.{source_names}
use Rattle.osq_value.specs.declared.source.SourceName.{SourceName}
use Rattle.replay_rounds.specs.Sources.{sources_of}
use Rattle.replay_rounds.specs.Spent.{StepsSpend}
use Rattle.query_rounds.specs.Rounds.{HasMore, TakesRounds}
use Rattle.query_rounds.specs.declared.asking.Asked.{Asked}

-- a session is given these sources with the bytes that their objects have, these paths, and so many records a step
pub record IsGivenFrom {S : Type 0} (left : S → List ℕ) (names : List SourceName) (objects : List S) (paths : List Category) (records : ℕ) (given : Given) : Type 0 where
  pub sources_are : given.sources ≡ sources_of left names objects
  pub paths_are : given.config.categories ≡ paths
  pub records_are : given.records ≡ records

-- the kept list, and behind it the opening of a session that no one seals
abbrev pub opened_behind : List Entry → List Entry
opened_behind kept = kept ++ Opened (sessions kept + 1) 2 ∷ []

-- Each source had the bytes that the kept list has of it. Rounds of the sources were taken behind the opening, and the rows are those that the text means at this moment over all live events and the
-- tables of the list with all of that behind it. At the end every source was read to behind its last line feed; else all rounds were run, and some
-- source gave a full step in each of them.
pub record IsAnswer (given : Given) (kept : List Entry) (text : List ℕ) (rounds moment : ℕ) (asked : Asked) : Type 0 where
  pub present : All (λ (source : Source). taken_from kept source.name ≤ length source.bytes) given.sources
  pub count : ℕ
  pub few : count ≤ rounds
  pub entries : List Entry
  pub takes : TakesRounds given (opened_behind kept) count entries
  pub means : asked.rows ≡ meaning text (view_of (opened_behind kept ++ entries) 0 moment)
  pub whole : asked.is_end ≡ true → All (IsReadWhole kept (opened_behind kept ++ entries)) given.sources
  pub more : asked.is_end ≡ false → (count ≡ rounds) × (1 ≤ rounds → HasMore given kept (opened_behind kept) count entries)

-- Behind the opening some rounds were taken, fewer than may be, and in the next one a source's step gave a reading whose events would have
-- numbers beyond 2^62.
pub record Spends (given : Given) (kept : List Entry) (rounds : ℕ) : Type 0 where
  pub count : ℕ
  pub few : count < rounds
  pub entries : List Entry
  pub takes : TakesRounds given (opened_behind kept) count entries
  pub own : List Entry
  pub spends : StepsSpend given (opened_behind kept ++ entries) given.sources own

-- where the state stands for entries behind a legal list, the rows are those that the text means over all live events and the tables of that
-- list with these entries behind it, at this moment
abbrev pub AnswersBehind : Kept → List ℕ → ℕ → List (List Value) → Type 0
AnswersBehind state text moment rows =
    (before added : List Entry) → Legal before → IsStateOf (summary before) added state → rows ≡ meaning text (view_of (before ++ added) 0 moment)

-- an entry for what a source of one of these names gave
abbrev pub IsFrom : List (List ℕ) → Entry → Type 0
IsFrom names entry = (name : List ℕ) × Contains names name × (source_in entry ≡ Some name)

-- Whatever the keeper and the sources tell: the session began over these values, which where the keeper tells are those of its list. Behind each legal list
-- with these values there may be the opening, and then these entries for what the sources gave, the same for each such list; and the rows are those that
-- the text means at this moment over all live events and the tables of the list with all of that behind it.
pub record AnswersSomeContinuation (tells : Type 0) (kept : List Entry) (names : List SourceName) (text : List ℕ) (moment : ℕ) (rows : List (List Value)) : Type 0 where
  pub restored : Restored
  pub restored_is : tells → restored ≡ summary kept
  pub entries : List Entry
  pub given : All (IsFrom (source_names names)) entries
  pub legal : (before : List Entry) → Legal before → summary before ≡ restored → Legal (opened_behind before ++ entries)
  pub means : (before : List Entry) → Legal before → summary before ≡ restored → rows ≡ meaning text (view_of (opened_behind before ++ entries) 0 moment)
