-- What a session took in rounds behind a kept list.
use Rattle.std.proofs.Common.{◌≡◌, ℕ, zero, suc, ◌+◌, ◌≤◌, false, List, [], ◌∷◌, ◌++◌, map, refl, sym, ap, ◌∙◌, subst, append_assoc, arith}
use Rattle.std.specs.Prelude.{bytes_eq}
use Rattle.std.proofs.lemmas.List.{append-nil}
use Rattle.source_feeds.specs.Feeding.{Feeding}
use Rattle.entry_model.specs.declared.entry.Entry.{Entry}
use Rattle.entry_model.specs.declared.entry.Entry.TheVariants.{Opened}
use Rattle.entry_model.specs.Fits.{IsDistinct}
use Rattle.entry_model.specs.Legal.{Legal}
use Rattle.entry_model.specs.Summary.{summary}
use Rattle.entry_model.specs.Values.{moment_of, sessions, taken_from}
use Rattle.entry_model.proofs.Summaries.{taken_is}
use Rattle.session_model.specs.Given.{Given, Source}
use Rattle.session_model.specs.Taking.{TakesSteps}
use Rattle.session_state.specs.Kept.{Counts}
use Rattle.session_state.specs.StateOf.{HasValues, IsStateOf}
use Rattle.osq_value.specs.declared.source.SourceName.{SourceName}
use Rattle.daemon_rounds.specs.Rounding.{Overflows, names_of, round_entries}
use Rattle.daemon_rounds.specs.Starting.{source_names}
use Rattle.daemon_rounds.specs.declared.turning.Which.TheVariants as which
use Rattle.daemon_rounds.proofs.Started.{all_going}
use Rattle.replay_rounds.specs.Sources.{AreFed, AreFullOrOver, all_over, sources_of}
use Rattle.replay_rounds.specs.Spent.{StepsSpend}
use Rattle.replay_rounds.proofs.Begun.{started_fed}
use Rattle.replay_rounds.proofs.Endings.{one_full}
use Rattle.replay_rounds.proofs.Feeds.{fed_names, fed_on}
use Rattle.replay_rounds.proofs.Full.{HaveSteps, steps_begun, steps_more}
use Rattle.replay_rounds.proofs.Nothing.{nothing_behind, opened_nothing}
use Rattle.replay_rounds.proofs.Overrun.{overflow_brings, overflow_entries, overflow_spends}
use Rattle.replay_rounds.proofs.Stepped.{every_source, rounds_taken}
use Rattle.query_rounds.specs.Asking.{opened_behind}
use Rattle.query_rounds.specs.Reading.{IsBegun}
use Rattle.query_rounds.specs.Rounds.{HasMore, TakesRounds}
use Rattle.query_rounds.specs.Running.{Place, Turns, TurnsOften}
use Rattle.query_rounds.proofs.Rounded.{rounds_more}

-- the list with an entry behind it, and others behind that
behind_opening : (kept entries : List Entry) (entry : Entry) → (kept ++ entry ∷ []) ++ entries ≡ kept ++ (entry ∷ entries)
behind_opening kept entries entry = append_assoc kept (entry ∷ []) entries

-- Behind the opening the session took these entries in so many rounds: its state stands for them, and its sources are fed.
pub record HasTaken {S : Type 0} (tells : Type 0) (left : S → List ℕ) (given : Given) (kept : List Entry) (count : ℕ) (entries : List Entry) (at : Place S) : Type 0 where
  pub takes : TakesRounds given (opened_behind kept) count entries
  pub stands : IsStateOf (summary kept) (Opened (sessions kept + 1) 2 ∷ entries) at.state
  pub fed : AreFed tells left given.config.categories kept (opened_behind kept ++ entries) given.sources at.feeds at.sources
  pub have : HaveSteps tells left given.records count kept given.sources at.feeds at.sources

-- the last of the rounds, in which each source that isn't at its end gave a full step
abbrev pub EndsFull : Given → List Entry → ℕ → List Entry → List Feeding → Type 0
EndsFull given kept zero entries feeds = Unit {0}
EndsFull given kept (suc earlier) entries feeds =
    (before last : List Entry) × (entries ≡ before ++ last) × TakesRounds given kept earlier before × TakesSteps given (kept ++ before) given.sources last
    × AreFullOrOver given (kept ++ before) given.sources feeds

-- before the first round
pub begun_taken : {S : Type 0} (tells : Type 0) (left : S → List ℕ) (faults : S → ℕ) (given : Given) (kept : List Entry) (names : List SourceName) (objects : List S) (start : Place S) → given.sources ≡ sources_of left names objects → IsBegun tells left faults names given.config.categories (summary kept) objects start → HasTaken tells left given kept 0 [] start
begun_taken {S} tells left faults given kept names objects start are begun = record {
  takes = refl;
  stands = begun.begins.stands;
  fed = fed;
  have = steps_begun tells left given.config.categories given.records kept (opened_behind kept ++ []) given.sources start.feeds start.sources fed;
}
  where
    of_names : AreFed tells left given.config.categories kept kept (sources_of left names objects) start.feeds start.sources
    of_names = started_fed tells left faults given.config.categories kept (summary kept).taken names start.feeds objects start.sources (taken_is kept) begun.starts

    same : (name : List ℕ) → taken_from (opened_behind kept ++ []) name ≡ taken_from kept name
    same name =
        ap (λ (list : List Entry). taken_from list name) (append-nil (opened_behind kept)) ∙ nothing_behind kept (Opened (sessions kept + 1) 2 ∷ []) (opened_nothing (sessions kept + 1) 2) name

    fed : AreFed tells left given.config.categories kept (opened_behind kept ++ []) given.sources start.feeds start.sources
    fed =
        subst (λ (sources : List Source). AreFed tells left given.config.categories kept (opened_behind kept ++ []) sources start.feeds start.sources) (sym are) (fed_on tells left given.config.categories kept kept (opened_behind kept ++ []) (sources_of left names objects) start.feeds start.sources same of_names)

-- no two sources have one name
pub sources_distinct : {S : Type 0} (tells : Type 0) (left : S → List ℕ) (faults : S → ℕ) (given : Given) (kept : List Entry) (names : List SourceName) (objects : List S) (start : Place S) → given.sources ≡ sources_of left names objects → IsBegun tells left faults names given.config.categories (summary kept) objects start → IsDistinct bytes_eq (source_names names) → IsDistinct bytes_eq (map (λ (source : Source). source.name) given.sources)
sources_distinct tells left faults given kept names objects start are begun distinct =
    subst (λ (names : List (List ℕ)). IsDistinct bytes_eq names) (fed_names tells left given.config.categories kept (opened_behind kept ++ []) given.sources start.feeds start.sources (begun_taken tells left faults given kept names objects start are begun).fed) (all_going tells left faults (summary kept).taken given.config.categories names begun.starts.opened start.feeds objects start.sources begun.starts.of_sources begun.starts.starts distinct).distinct

module _ {S : Type 0} (tells : Type 0) (left : S → List ℕ) (faults : S → ℕ) (given : Given) (kept : List Entry) (told : tells) (legal : Legal kept) (distinct : IsDistinct bytes_eq (map (λ (source : Source). source.name) given.sources)) where
  -- where a round begins
  module _ (count : ℕ) (entries : List Entry) (from : Place S) (taken : HasTaken tells left given kept count entries from) where
    abbrev now : List Entry
    now = opened_behind kept ++ entries

    at_moment : from.state.counts.moment ≡ moment_of now
    at_moment =
        sym (ap (λ (counts : Counts). counts.moment) (taken.stands.values kept legal refl).counts) ∙ ap moment_of (sym (behind_opening kept entries (Opened (sessions kept + 1) 2)))

    feeds_distinct : IsDistinct bytes_eq (names_of from.feeds)
    feeds_distinct =
        subst (λ (names : List (List ℕ)). IsDistinct bytes_eq names) (sym (fed_names tells left given.config.categories kept now given.sources from.feeds from.sources taken.fed)) distinct

  -- a round more
  module _ (count : ℕ) (entries : List Entry) (from to : Place S) (taken : HasTaken tells left given kept count entries from) (turns : Turns tells left faults given.records from to) where
    abbrev before : List Entry
    before = opened_behind kept ++ entries

    abbrev own : List Entry
    own = round_entries from.state.counts.moment turns.turns

    of_round : TakesSteps given before given.sources own × AreFed tells left given.config.categories kept (before ++ own) given.sources to.feeds to.sources × AreFullOrOver given before given.sources to.feeds
    of_round = rounds_taken tells left faults given kept before from.state.counts.moment from.feeds to.feeds from.sources to.sources turns.turns told (at_moment count entries from taken) taken.fed (feeds_distinct count entries from taken) turns.whole turns.each

    one_taken : HasTaken tells left given kept (suc count) (entries ++ own) to
    one_taken = record {
      takes = rounds_more given (opened_behind kept) count entries own taken.takes of_round.0;
      stands = turns.brings.stands (summary kept) (Opened (sessions kept + 1) 2 ∷ entries) taken.stands;
      fed = subst (λ (list : List Entry). AreFed tells left given.config.categories kept list given.sources to.feeds to.sources) (append_assoc (opened_behind kept) entries own) of_round.1;
      have = steps_more tells left faults given.config.categories given.records count kept before given.sources from.feeds to.feeds from.sources to.sources turns.turns turns.whole turns.each taken.fed taken.have;
    }

    one_full_end : EndsFull given (opened_behind kept) (suc count) (entries ++ own) to.feeds
    one_full_end = (entries, own, refl, taken.takes, of_round.0, of_round.2)

  -- a round in which a source gives too much
  module _ (count : ℕ) (entries : List Entry) (from to : Place S) (taken : HasTaken tells left given kept count entries from) (o : Overflows tells left faults which.Every given.records from.feeds to.feeds from.sources to.sources from.state to.state) where
    abbrev pub spent : List Entry
    spent = overflow_entries tells left faults which.Every given from.feeds to.feeds from.sources to.sources from.state to.state o

    stands_spent : IsStateOf (summary kept) (Opened (sessions kept + 1) 2 ∷ (entries ++ spent)) to.state
    stands_spent =
        (overflow_brings tells left faults which.Every given from.feeds to.feeds from.sources to.sources from.state to.state o).stands (summary kept) (Opened (sessions kept + 1) 2 ∷ entries) taken.stands

    has_spent : HasValues ((opened_behind kept ++ entries) ++ spent) to.state
    has_spent =
        subst (λ (list : List Entry). HasValues list to.state) (sym (append_assoc (opened_behind kept) entries spent ∙ behind_opening kept (entries ++ spent) (Opened (sessions kept + 1) 2))) (stands_spent.values kept legal refl)

    pub one_spends : StepsSpend given (opened_behind kept ++ entries) given.sources spent
    one_spends =
        subst (λ (sources : List Source). StepsSpend given (opened_behind kept ++ entries) sources spent) (every_source given.sources)
        (overflow_spends tells left faults which.Every given from.feeds to.feeds from.sources to.sources from.state to.state o kept (opened_behind kept ++ entries) told (at_moment count entries from taken) (feeds_distinct count entries from taken) taken.fed has_spent)

  -- all of them
  pub all_taken : (count : ℕ) (from to : Place S) → HasTaken tells left given kept 0 [] from → TurnsOften tells left faults given.records count from to → (entries : List Entry) × HasTaken tells left given kept count entries to × EndsFull given (opened_behind kept) count entries to.feeds
  all_taken zero from to start same = ([], subst (HasTaken tells left given kept 0 []) (sym same) start, tt)
  all_taken (suc count) from to start (between, before, last) =
      let (entries, taken, full) = all_taken count from between start before in
      (entries ++ own count entries between to taken last, one_taken count entries between to taken last, one_full_end count entries between to taken last)

-- where one source isn't at its end, it gave a full step in the last round, and in each of them
pub has_more : {S : Type 0} (tells : Type 0) (left : S → List ℕ) (given : Given) (kept : List Entry) (count : ℕ) (entries : List Entry) (at : Place S) → tells → HasTaken tells left given kept count entries at → EndsFull given (opened_behind kept) count entries at.feeds → all_over at.feeds ≡ false → 1 ≤ count → HasMore given kept (opened_behind kept) count entries
has_more tells left given kept zero entries at told taken full over some = absurd (omega (arith, some))
has_more tells left given kept (suc earlier) entries at told taken (before, last, are, takes, takes_last, full) over some =
    let (source, among, gave, each) = one_full tells left given.config.categories given.records (suc earlier) kept (opened_behind kept ++ entries) given (opened_behind kept ++ before) given.sources at.feeds at.sources told taken.fed taken.have full over in
    record {
      earlier = earlier;
      count_is = refl;
      before = before;
      last = last;
      are = are;
      takes = takes;
      takes_last = takes_last;
      source = source;
      among = among;
      full = gave;
      each = each;
    }
