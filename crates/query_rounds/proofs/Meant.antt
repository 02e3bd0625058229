-- What the rows of a question mean, whatever is told.
use Rattle.std.proofs.Common.{◌≡◌, ℕ, zero, suc, ◌+◌, Bool, List, [], ◌∷◌, ◌++◌, map, refl, sym, ap, ◌∙◌, subst, append_assoc}
use Rattle.std.specs.Prelude.{All, Contains}
use Rattle.std.proofs.lemmas.List.Elements.{All-append, All-cons, All-contains_itself, All-head, All-nil, All-tail}
use Rattle.osq_value.specs.declared.reading.Category.{Category}
use Rattle.osq_value.specs.declared.reading.Reading.{Reading}
use Rattle.osq_value.specs.declared.reading.Reading.TheVariants.{Events, Table}
use Rattle.osq_value.specs.declared.value.Value.{Value}
use Rattle.sql_texts.specs.Meaning.{meaning}
use Rattle.source_feeds.specs.Feeding.{Feeding}
use Rattle.entry_model.specs.declared.entry.Entry.{Entry}
use Rattle.entry_model.specs.declared.entry.Entry.TheVariants.{Opened}
use Rattle.entry_model.specs.declared.restored.Restored.{Restored}
use Rattle.entry_model.specs.declared.restored.Taken.{Taken}
use Rattle.entry_model.specs.Legal.{Legal}
use Rattle.entry_model.specs.Summary.{summary}
use Rattle.entry_model.specs.Values.{sessions}
use Rattle.entry_model.specs.Views.{view_of}
use Rattle.session_state.specs.Kept.{Kept}
use Rattle.session_state.specs.Readings.{entry_of}
use Rattle.session_state.specs.StateOf.{IsStateOf}
use Rattle.osq_value.specs.declared.source.SourceName.{SourceName}
use Rattle.daemon_rounds.specs.declared.turning.Which.TheVariants as which
use Rattle.daemon_rounds.specs.Appending.{entries_of}
use Rattle.daemon_rounds.specs.Rounding.{names_of, round_entries}
use Rattle.daemon_rounds.specs.Starting.{AreFeedsOf, IsStart, source_names}
use Rattle.daemon_rounds.specs.Turns.{Gave, IsTurn, Turn, turn_entries}
use Rattle.query_rounds.specs.Asking.{AnswersBehind, IsFrom, AnswersSomeContinuation, opened_behind}
use Rattle.query_rounds.specs.Reading.{HasRead, IsBegun}
use Rattle.query_rounds.specs.Running.{Place, Turns, TurnsOften, place_of}

entry_from : (names : List (List ℕ)) (name : List ℕ) (moment : ℕ) (reading : Reading) → Contains names name → IsFrom names (entry_of name moment reading)
entry_from names name moment (Events taken events skipped) among = (name, among, refl)
entry_from names name moment (Table taken table rows) among = (name, among, refl)

entries_from : (names : List (List ℕ)) (name : List ℕ) (moment : ℕ) (readings : List Reading) → Contains names name → All (IsFrom names) (entries_of name moment readings)
entries_from names name moment [] among = All-nil (IsFrom names)
entries_from names name moment (reading ∷ readings) among =
    All-cons (IsFrom names) (entry_of name moment reading) (entries_of name moment readings) (entry_from names name moment reading among) (entries_from names name moment readings among)

module _ {S : Type 0} where
  abbrev feeds_of : List (Turn S) → List Feeding
  feeds_of turns = map (λ (turn : Turn S). turn.feed) turns

  abbrev nexts_of : List (Turn S) → List Feeding
  nexts_of turns = map (λ (turn : Turn S). turn.next) turns

  turns_from : (names : List (List ℕ)) (moment : ℕ) (turns : List (Turn S)) → All (Contains names) (names_of (feeds_of turns)) → All (IsFrom names) (round_entries moment turns)
  turns_from names moment [] among = All-nil (IsFrom names)
  turns_from names moment (turn ∷ turns) among =
      All-append (IsFrom names) (turn_entries moment turn) (round_entries moment turns) (entries_from names turn.feed.name moment turn.readings (All-head (Contains names) turn.feed.name (names_of (feeds_of turns)) among)) (turns_from names moment turns (All-tail (Contains names) turn.feed.name (names_of (feeds_of turns)) among))

module _ {S : Type 0} (tells : Type 0) (left : S → List ℕ) (faults : S → ℕ) where
  -- feeds that were started go by the names of their sources
  starts_named : (taken : List Taken) (paths : List Category) (names : List SourceName) (turns : List (Turn S)) → AreFeedsOf taken paths names (feeds_of turns) → All (IsStart tells left faults) turns → names_of (nexts_of turns) ≡ source_names names
  starts_named taken paths [] [] are each = refl
  starts_named taken paths [] (turn ∷ turns) are each = absurd are
  starts_named taken paths (name ∷ names) [] are each = absurd are
  starts_named taken paths (name ∷ names) (turn ∷ turns) are each =
      let first = ap (λ (feed : Feeding). feed.name) (All-head (IsStart tells left faults) turn turns each).begun ∙ are.0.name in
      let others = starts_named taken paths names turns are.1 (All-tail (IsStart tells left faults) turn turns each) in
      ap (λ (name : List ℕ). name ∷ names_of (nexts_of turns)) first ∙ ap (λ (rest : List (List ℕ)). name.name ∷ rest) others

  begun_named : (names : List SourceName) (paths : List Category) (restored : Restored) (sources : List S) (start : Place S) → IsBegun tells left faults names paths restored sources start → names_of start.feeds ≡ source_names names
  begun_named names paths restored sources start begun =
      let starts = begun.starts.starts in
      ap names_of starts.whole.nexts_are ∙ starts_named restored.taken paths names starts.turns (subst (AreFeedsOf restored.taken paths names) starts.whole.feeds_are begun.starts.of_sources) starts.each

  module _ (most : ℕ) where
    -- a round leaves the names
    turns_named : (turns : List (Turn S)) → All (IsTurn tells left faults which.Every most) turns → names_of (nexts_of turns) ≡ names_of (feeds_of turns)
    turns_named [] each = refl
    turns_named (turn ∷ turns) each =
        let gave : Gave tells (left turn.source) (left turn.rest) turn.feed turn.next most turn.readings = (All-head (IsTurn tells left faults which.Every most) turn turns each).plays in
        let others = turns_named turns (All-tail (IsTurn tells left faults which.Every most) turn turns each) in
        ap (λ (name : List ℕ). name ∷ names_of (nexts_of turns)) gave.same.name ∙ ap (λ (rest : List (List ℕ)). turn.feed.name ∷ rest) others

    module _ (restored : Restored) (names : List (List ℕ)) where
      -- behind the opening the state stands for these entries, each for what one of the sources gave, whose names the feeds have
      record HasGained (entries : List Entry) (at : Place S) : Type 0 where
        stands : IsStateOf restored (Opened (restored.sessions + 1) 2 ∷ entries) at.state
        given : All (IsFrom names) entries
        named : names_of at.feeds ≡ names

      one_gained : (entries : List Entry) (from to : Place S) → HasGained entries from → (turns : Turns tells left faults most from to) → HasGained (entries ++ round_entries from.state.counts.moment turns.turns) to
      one_gained entries from to gained turns =
          let moment = from.state.counts.moment in
          let named : names_of (feeds_of turns.turns) ≡ names = sym (ap names_of turns.whole.feeds_are) ∙ gained.named in
          record {
            stands = turns.brings.stands restored (Opened (restored.sessions + 1) 2 ∷ entries) gained.stands;
            given = All-append (IsFrom names) entries (round_entries moment turns.turns) gained.given (turns_from names moment turns.turns (subst (All (Contains names)) (sym named) (All-contains_itself names)));
            named = ap names_of turns.whole.nexts_are ∙ turns_named turns.turns turns.each ∙ named;
          }

      all_gained : (count : ℕ) (from to : Place S) → HasGained [] from → TurnsOften tells left faults most count from to → (entries : List Entry) × HasGained entries to
      all_gained zero from to start same = ([], subst (HasGained []) (sym same) start)
      all_gained (suc count) from to start (between, before, last) =
          let (entries, gained) = all_gained count from between start before in
          (entries ++ round_entries between.state.counts.moment last.turns, one_gained entries between to gained last)

module _ {S : Type 0} (tells : Type 0) (left : S → List ℕ) (faults : S → ℕ) (names : List SourceName) (paths : List Category) (records rounds : ℕ) (restored : Restored) (sources rests : List S) (state : Kept) (is_end : Bool) (read : HasRead tells left faults names paths records rounds restored sources rests state is_end) where
  abbrev end : Place S
  end = place_of read.feeds rests state

  start_gained : HasGained tells left faults records restored (source_names names) [] read.start
  start_gained = record {
    stands = read.begun.begins.stands;
    given = All-nil (IsFrom (source_names names));
    named = begun_named tells left faults names paths restored sources read.start read.begun;
  }

  all_read : (entries : List Entry) × HasGained tells left faults records restored (source_names names) entries end
  all_read = all_gained tells left faults records restored (source_names names) read.runs.count read.start end start_gained read.runs.turns

  abbrev entries : List Entry
  entries = all_read.0

  gained : HasGained tells left faults records restored (source_names names) entries end
  gained = all_read.1

  list_is : (before : List Entry) → summary before ≡ restored → before ++ (Opened (restored.sessions + 1) 2 ∷ entries) ≡ opened_behind before ++ entries
  list_is before same =
      ap (λ (base : Restored). before ++ (Opened (base.sessions + 1) 2 ∷ entries)) (sym same) ∙ sym (append_assoc before (Opened (sessions before + 1) 2 ∷ []) entries)

  pub meant : (keeper_tells : Type 0) (kept : List Entry) → (keeper_tells → restored ≡ summary kept) → (text : List ℕ) (moment : ℕ) (rows : List (List Value)) → AnswersBehind state text moment rows → AnswersSomeContinuation keeper_tells kept names text moment rows
  meant keeper_tells kept is text moment rows answers = record {
    restored = restored;
    restored_is = is;
    entries = entries;
    given = gained.given;
    legal = λ before legal same. subst Legal (list_is before same) (gained.stands.values before legal same).legal;
    means = λ before legal same. answers before (Opened (restored.sessions + 1) 2 ∷ entries) legal (subst (λ (base : Restored). IsStateOf base (Opened (restored.sessions + 1) 2 ∷ entries) state) (sym same) gained.stands) ∙ ap (λ (list : List Entry). meaning text (view_of list 0 moment)) (list_is before same);
  }
