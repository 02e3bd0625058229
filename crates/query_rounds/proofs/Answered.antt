-- The answer to a question.
use Rattle.std.proofs.Common.{◌≡◌, ℕ, ◌+◌, ◌≤◌, Bool, false, List, [], ◌∷◌, ◌++◌, Some, sym, ap, ◌∙◌, subst, append_assoc, arith}
use Rattle.std.specs.Prelude.{Option, bytes_eq}
use Rattle.osq_value.specs.declared.reading.Category.{Category}
use Rattle.osq_value.specs.declared.value.Value.{Value}
use Rattle.sql_query.specs.Resolved.{QueryTree}
use Rattle.sql_texts.specs.Texts.{query_in}
use Rattle.sql_texts.specs.Meaning.{meaning, meaning_if}
use Rattle.entry_model.specs.declared.entry.Entry.{Entry}
use Rattle.entry_model.specs.declared.entry.Entry.TheVariants.{Opened}
use Rattle.entry_model.specs.Fits.{IsDistinct}
use Rattle.entry_model.specs.Legal.{Legal}
use Rattle.entry_model.specs.Summary.{summary}
use Rattle.entry_model.specs.Values.{sessions}
use Rattle.entry_model.specs.Views.{view_of}
use Rattle.session_model.specs.Given.{Given}
use Rattle.session_state.specs.Kept.{Kept}
use Rattle.kept_queries.specs.Asking.{MeansBehind}
use Rattle.osq_value.specs.declared.source.SourceName.{SourceName}
use Rattle.daemon_rounds.specs.Starting.{source_names}
use Rattle.replay_rounds.specs.Sources.{sources_of}
use Rattle.replay_rounds.proofs.Endings.{all_present, all_whole}
use Rattle.query_rounds.specs.Asking.{AnswersBehind, IsAnswer, IsGivenFrom, opened_behind}
use Rattle.query_rounds.specs.Reading.{HasRead}
use Rattle.query_rounds.specs.Rounds.{HasMore}
use Rattle.query_rounds.specs.Running.{Place, place_of}
use Rattle.query_rounds.proofs.Taken.{EndsFull, HasTaken, all_taken, begun_taken, has_more, sources_distinct}

-- what the text's query means is what the text means
pub text_means : (text : List ℕ) (query : QueryTree) (state : Kept) (moment : ℕ) (rows : List (List Value)) → query_in text ≡ Some query → MeansBehind state query moment rows → AnswersBehind state text moment rows
unfolding meaning
text_means text query state moment rows is means before added legal stands =
    means before added legal stands ∙ sym (ap (λ (asked : Option QueryTree). meaning_if asked (view_of (before ++ added) 0 moment)) is)

module _ {S : Type 0} (tells : Type 0) (left : S → List ℕ) (faults : S → ℕ) (names : List SourceName) (objects rests : List S) (rounds : ℕ) (given : Given) (kept : List Entry) (state : Kept) (is_end : Bool) (told : tells) (legal : Legal kept) (distinct : IsDistinct bytes_eq (source_names names)) where
  -- over what the session is given
  module _ (are : given.sources ≡ sources_of left names objects) (read : HasRead tells left faults names given.config.categories given.records rounds (summary kept) objects rests state is_end) where
    abbrev end : Place S
    end = place_of read.feeds rests state

    start_taken : HasTaken tells left given kept 0 [] read.start
    start_taken = begun_taken tells left faults given kept names objects read.start are read.begun

    all_read : (entries : List Entry) × HasTaken tells left given kept read.runs.count entries end × EndsFull given (opened_behind kept) read.runs.count entries end.feeds
    all_read = all_taken tells left faults given kept told legal (sources_distinct tells left faults given kept names objects read.start are read.begun distinct) read.runs.count read.start end start_taken read.runs.turns

    abbrev entries : List Entry
    entries = all_read.0

    taken : HasTaken tells left given kept read.runs.count entries end
    taken = all_read.1

    full_end : EndsFull given (opened_behind kept) read.runs.count entries end.feeds
    full_end = all_read.2

    more_left : is_end ≡ false → (read.runs.count ≡ rounds) × (1 ≤ rounds → HasMore given kept (opened_behind kept) read.runs.count entries)
    more_left ended_not =
        let all_run = read.runs.all_run ended_not in
        (all_run, λ some. has_more tells left given kept read.runs.count entries end told taken full_end (sym read.runs.over ∙ ended_not) (omega (arith, some, all_run)))

    pub answer_of : (text : List ℕ) (moment : ℕ) (rows : List (List Value)) (skipped : List ℕ) → AnswersBehind state text moment rows → IsAnswer given kept text rounds moment (record { rows = rows; is_end = is_end; skipped = skipped })
    answer_of text moment rows skipped answers = record {
      present = all_present tells left given.config.categories kept (opened_behind kept ++ entries) given.sources read.feeds rests told taken.fed;
      count = read.runs.count;
      few = read.runs.few;
      entries = entries;
      takes = taken.takes;
      means = answers kept (Opened (sessions kept + 1) 2 ∷ entries) legal taken.stands ∙ ap (λ (list : List Entry). meaning text (view_of list 0 moment)) (sym (append_assoc kept (Opened (sessions kept + 1) 2 ∷ []) entries));
      whole = λ ended. all_whole tells left given.config.categories kept (opened_behind kept ++ entries) given.sources read.feeds rests told taken.fed (sym read.runs.over ∙ ended);
      more = more_left;
    }

  pub answered : (paths : List Category) (records : ℕ) → IsGivenFrom left names objects paths records given → HasRead tells left faults names paths records rounds (summary kept) objects rests state is_end → (text : List ℕ) (moment : ℕ) (rows : List (List Value)) (skipped : List ℕ) → AnswersBehind state text moment rows → IsAnswer given kept text rounds moment (record { rows = rows; is_end = is_end; skipped = skipped })
  answered paths records is read =
      answer_of is.sources_are (subst (λ (records : ℕ). HasRead tells left faults names given.config.categories records rounds (summary kept) objects rests state is_end) (sym is.records_are) (subst (λ (paths : List Category). HasRead tells left faults names paths records rounds (summary kept) objects rests state is_end) (sym is.paths_are) read))
