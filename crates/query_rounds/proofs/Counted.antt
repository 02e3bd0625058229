-- What the feeds of a question count.
use Rattle.std.proofs.Common.{◌≡◌, ℕ, zero, suc, Bool, List, [], ◌∷◌, ◌++◌, map, sym, ap, ◌∙◌, subst}
use Rattle.std.specs.Prelude.{All}
use Rattle.std.proofs.lemmas.Bool.{true≢false}
use Rattle.std.proofs.lemmas.List.Elements.{All-head, All-tail}
use Rattle.osq_value.specs.declared.reading.Category.{Category}
use Rattle.osq_value.specs.declared.source.SourceKind.{SourceKind}
use Rattle.source_feeds.specs.Feeding.{Fed, Feeding}
use Rattle.source_feeds.specs.Taking.{TakesAll}
use Rattle.entry_model.specs.declared.restored.Taken.{Taken}
use Rattle.entry_model.specs.Next.{offset_at}
use Rattle.session_state.specs.Kept.{Kept}
use Rattle.osq_value.specs.declared.source.SourceName.{SourceName}
use Rattle.daemon_rounds.specs.Rounding.{Rounds, Whole}
use Rattle.daemon_rounds.specs.Starting.{AreFeedsOf, IsFeedOf, IsStart, IsStarted}
use Rattle.daemon_rounds.specs.Turns.{IsTurn, Turn}
use Rattle.daemon_rounds.specs.declared.turning.Which.TheVariants as which
use Rattle.replay_rounds.specs.Noting.{skipped_lines}
use Rattle.replay_rounds.proofs.Begun.{not_at_end}
use Rattle.query_rounds.specs.Running.{Place, RunsOut, TurnsOften, place_of}
use Rattle.query_rounds.specs.Skipping.{AreCounted, IsCounted, TellsSkipped}

module _ {S : Type 0} (tells : Type 0) (left : S → List ℕ) (faults : S → ℕ) (paths : List Category) (taken : List Taken) where
  abbrev before_of : List (Turn S) → List (List ℕ)
  before_of turns = map left (map (λ (turn : Turn S). turn.source) turns)

  abbrev after_of : List (Turn S) → List (List ℕ)
  after_of turns = map left (map (λ (turn : Turn S). turn.rest) turns)

  abbrev feeds_of : List (Turn S) → List Feeding
  feeds_of turns = map (λ (turn : Turn S). turn.feed) turns

  abbrev nexts_of : List (Turn S) → List Feeding
  nexts_of turns = map (λ (turn : Turn S). turn.next) turns

  -- a source that was started
  start_counted : (source : SourceName) (turn : Turn S) → IsFeedOf taken paths source turn.feed → IsStart tells left faults turn → IsCounted tells paths source (left turn.source) (left turn.rest) (offset_at taken source.name) turn.next
  start_counted source turn of_source begins = record {
    name = ap (λ (feed : Feeding). feed.name) begins.begun ∙ of_source.name;
    kind = ap (λ (feed : Feeding). feed.kind) begins.begun ∙ of_source.kind;
    paths_are = ap (λ (feed : Feeding). feed.reader.paths) begins.begun ∙ of_source.paths_are;
    pieces = [];
    fed = subst (λ (offset : ℕ). Fed tells (left turn.source) (left turn.rest) turn.next offset []) of_source.place begins.fed;
    whole = λ told ended. absurd (true≢false (sym ended ∙ not_at_end turn.next.reader (ap (λ (feed : Feeding). feed.reader.is_ended) begins.begun ∙ of_source.fresh.unended)));
  }

  starts_counted : (sources : List SourceName) (turns : List (Turn S)) → AreFeedsOf taken paths sources (feeds_of turns) → All (IsStart tells left faults) turns → AreCounted tells paths taken sources (before_of turns) (after_of turns) (nexts_of turns)
  starts_counted [] [] are each = tt
  starts_counted [] (turn ∷ turns) are each = absurd are
  starts_counted (source ∷ sources) [] are each = absurd are
  starts_counted (source ∷ sources) (turn ∷ turns) are each =
      (start_counted source turn are.0 (All-head (IsStart tells left faults) turn turns each), starts_counted sources turns are.1 (All-tail (IsStart tells left faults) turn turns each))

  started_counted : (sources : List SourceName) (feeds : List Feeding) (objects rests : List S) → IsStarted tells left faults taken paths sources feeds objects rests → AreCounted tells paths taken sources (map left objects) (map left rests) feeds
  started_counted sources feeds objects rests started =
      subst (λ (objects : List S). AreCounted tells paths taken sources (map left objects) (map left rests) feeds) (sym whole.sources_are)
      (subst (λ (rests : List S). AreCounted tells paths taken sources (before_of turns) (map left rests) feeds) (sym whole.rests_are)
      (subst (λ (feeds : List Feeding). AreCounted tells paths taken sources (before_of turns) (after_of turns) feeds) (sym whole.nexts_are)
      (starts_counted sources turns (subst (λ (opened : List Feeding). AreFeedsOf taken paths sources opened) whole.feeds_are started.of_sources) started.starts.each)))
    where
      turns : List (Turn S)
      turns = started.starts.turns

      whole : Whole started.opened feeds objects rests started.starts.turns
      whole = started.starts.whole

  -- a source that took a step
  step_counted : (source : SourceName) (bytes : List ℕ) (kept most : ℕ) (turn : Turn S) → IsTurn tells left faults which.Every most turn → IsCounted tells paths source bytes (left turn.source) kept turn.feed → IsCounted tells paths source bytes (left turn.rest) kept turn.next
  step_counted source bytes kept most turn is was =
      let step = is.plays.steps bytes kept was.pieces was.fed in
      record {
        name = is.plays.same.name ∙ was.name;
        kind = is.plays.same.kind ∙ was.kind;
        paths_are = is.plays.same.paths ∙ was.paths_are;
        pieces = was.pieces ++ step.pieces;
        fed = step.fed;
        whole = λ told ended. subst (λ (kind : SourceKind). TakesAll kind paths kept bytes (was.pieces ++ step.pieces) turn.next.reader.taken) was.kind
            (subst (λ (paths : List Category). TakesAll turn.feed.kind paths kept bytes (was.pieces ++ step.pieces) turn.next.reader.taken) was.paths_are (step.over told ended));
      }

  turns_counted : (most : ℕ) (sources : List SourceName) (all_bytes : List (List ℕ)) (turns : List (Turn S)) → All (IsTurn tells left faults which.Every most) turns → AreCounted tells paths taken sources all_bytes (before_of turns) (feeds_of turns) → AreCounted tells paths taken sources all_bytes (after_of turns) (nexts_of turns)
  turns_counted most [] [] [] each are = tt
  turns_counted most [] [] (turn ∷ turns) each are = absurd are
  turns_counted most [] (bytes ∷ others) [] each are = absurd are
  turns_counted most [] (bytes ∷ others) (turn ∷ turns) each are = absurd are
  turns_counted most (source ∷ sources) [] [] each are = absurd are
  turns_counted most (source ∷ sources) [] (turn ∷ turns) each are = absurd are
  turns_counted most (source ∷ sources) (bytes ∷ others) [] each are = absurd are
  turns_counted most (source ∷ sources) (bytes ∷ others) (turn ∷ turns) each are = (
    step_counted source bytes (offset_at taken source.name) most turn (All-head (IsTurn tells left faults which.Every most) turn turns each) are.0,
    turns_counted most sources others turns (All-tail (IsTurn tells left faults which.Every most) turn turns each) are.1,
  )

  round_counted : (most : ℕ) (sources : List SourceName) (all_bytes : List (List ℕ)) (feeds nexts : List Feeding) (objects rests : List S) (old new : Kept) → Rounds tells left faults which.Every most feeds nexts objects rests old new → AreCounted tells paths taken sources all_bytes (map left objects) feeds → AreCounted tells paths taken sources all_bytes (map left rests) nexts
  round_counted most sources all_bytes feeds nexts objects rests old new round was =
      subst (λ (rests : List S). AreCounted tells paths taken sources all_bytes (map left rests) nexts) (sym round.whole.rests_are)
      (subst (λ (nexts : List Feeding). AreCounted tells paths taken sources all_bytes (after_of round.turns) nexts) (sym round.whole.nexts_are)
      (turns_counted most sources all_bytes round.turns round.each
      (subst (λ (objects : List S). AreCounted tells paths taken sources all_bytes (map left objects) (feeds_of round.turns)) round.whole.sources_are
      (subst (λ (feeds : List Feeding). AreCounted tells paths taken sources all_bytes (map left objects) feeds) round.whole.feeds_are was))))

  often_counted : (most : ℕ) (sources : List SourceName) (all_bytes : List (List ℕ)) (count : ℕ) (from to : Place S) → TurnsOften tells left faults most count from to → AreCounted tells paths taken sources all_bytes (map left from.sources) from.feeds → AreCounted tells paths taken sources all_bytes (map left to.sources) to.feeds
  often_counted most sources all_bytes zero from to same was =
      subst (λ (at : Place S). AreCounted tells paths taken sources all_bytes (map left at.sources) at.feeds) (sym same) was
  often_counted most sources all_bytes (suc count) from to (between, before, last) was =
      round_counted most sources all_bytes between.feeds to.feeds between.sources to.sources between.state to.state last (often_counted most sources all_bytes count from between before was)

  -- behind the rounds
  pub tells_skipped : (most rounds : ℕ) (sources : List SourceName) (started feeds : List Feeding) (objects between rests : List S) (begun state : Kept) (is_end : Bool) (lines : List ℕ) → IsStarted tells left faults taken paths sources started objects between → RunsOut tells left faults most rounds (place_of started between begun) (place_of feeds rests state) is_end → lines ≡ skipped_lines feeds → TellsSkipped tells paths taken sources (map left objects) is_end lines
  tells_skipped most rounds sources started feeds objects between rests begun state is_end lines starts runs are = record {
    rests = map left rests;
    feeds = feeds;
    counted = often_counted most sources (map left objects) runs.count (place_of started between begun) (place_of feeds rests state) runs.turns (started_counted sources started objects between starts);
    over = runs.over;
    are = are;
  }
