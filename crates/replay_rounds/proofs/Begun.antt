-- The feeds of a session that has started.
use Rattle.std.proofs.Common.{◌≡◌, ℕ, Bool, false, List, [], ◌∷◌, map, sym, ap, ◌∙◌, subst}
use Rattle.std.specs.Prelude.{All, ◌&&◌, ◌==◌, length}
use Rattle.std.proofs.lemmas.Bool.{true≢false}
use Rattle.std.proofs.lemmas.List.Elements.{All-head, All-tail}
use Rattle.osq_value.specs.declared.reading.Category.{Category}
use Rattle.publisher_core.specs.Standing.{Reader, is_at_end}
use Rattle.source_feeds.specs.Feeding.{Fed, Feeding}
use Rattle.entry_model.specs.declared.entry.Entry.{Entry}
use Rattle.entry_model.specs.declared.restored.Taken.{Taken}
use Rattle.entry_model.specs.Next.{offset_at}
use Rattle.entry_model.specs.Values.{taken_from}
use Rattle.session_model.specs.Given.{Source}
use Rattle.osq_value.specs.declared.source.SourceName.{SourceName}
use Rattle.daemon_rounds.specs.Turns.{Turn}
use Rattle.daemon_rounds.specs.Rounding.{Whole}
use Rattle.daemon_rounds.specs.Starting.{AreFeedsOf, IsFeedOf, IsStart, IsStarted}
use Rattle.replay_rounds.specs.Sources.{AreFed, IsFed, sources_of}

-- where no read gave nothing yet, a publisher isn't at its source's end
pub not_at_end : (reader : Reader) → reader.is_ended ≡ false → is_at_end reader ≡ false
not_at_end reader open_still = ap (λ (ended : Bool). ended && length reader.ready == 0) open_still

module _ {S : Type 0} (tells : Type 0) (left : S → List ℕ) (faults : S → ℕ) (paths : List Category) (start : List Entry) (taken : List Taken) (same : (name : List ℕ) → offset_at taken name ≡ taken_from start name) where
  abbrev source_of : SourceName → S → Source
  source_of name object = record { name = name.name; kind = name.kind; bytes = left object }

  start_fed : (name : SourceName) (turn : Turn S) → IsFeedOf taken paths name turn.feed → IsStart tells left faults turn → IsFed tells left paths start start (source_of name turn.source) turn.next turn.rest
  start_fed name turn of_source begins = record {
    name = ap (λ (feed : Feeding). feed.name) begins.begun ∙ of_source.name;
    kind = ap (λ (feed : Feeding). feed.kind) begins.begun ∙ of_source.kind;
    paths_are = ap (λ (feed : Feeding). feed.reader.paths) begins.begun ∙ of_source.paths_are;
    place = ap (λ (feed : Feeding). feed.reader.taken) begins.begun ∙ of_source.place ∙ same name.name;
    pieces = [];
    fed = subst (λ (offset : ℕ). Fed tells (left turn.source) (left turn.rest) turn.next offset []) (of_source.place ∙ same name.name) begins.fed;
    over = λ told ended. absurd (true≢false (sym ended ∙ not_at_end turn.next.reader (ap (λ (feed : Feeding). feed.reader.is_ended) begins.begun ∙ of_source.fresh.unended)));
  }

  starts_fed : (names : List SourceName) (turns : List (Turn S)) → AreFeedsOf taken paths names (map (λ (turn : Turn S). turn.feed) turns) → All (IsStart tells left faults) turns → AreFed tells left paths start start (sources_of left names (map (λ (turn : Turn S). turn.source) turns)) (map (λ (turn : Turn S). turn.next) turns) (map (λ (turn : Turn S). turn.rest) turns)
  starts_fed [] [] are each = tt
  starts_fed [] (turn ∷ turns) are each = absurd are
  starts_fed (name ∷ names) [] are each = absurd are
  starts_fed (name ∷ names) (turn ∷ turns) are each =
      (start_fed name turn are.0 (All-head (IsStart tells left faults) turn turns each), starts_fed names turns are.1 (All-tail (IsStart tells left faults) turn turns each))

-- each source has its feed, which goes on from the offset up to which the list has it
pub started_fed : {S : Type 0} (tells : Type 0) (left : S → List ℕ) (faults : S → ℕ) (paths : List Category) (start : List Entry) (taken : List Taken) (names : List SourceName) (feeds : List Feeding) (objects rests : List S) → ((name : List ℕ) → offset_at taken name ≡ taken_from start name) → IsStarted tells left faults taken paths names feeds objects rests → AreFed tells left paths start start (sources_of left names objects) feeds rests
started_fed {S} tells left faults paths start taken names feeds objects rests same started =
    subst (λ (rests : List S). AreFed tells left paths start start (sources_of left names objects) feeds rests) (sym whole.rests_are) (subst (λ (feeds : List Feeding). AreFed tells left paths start start (sources_of left names objects) feeds (map (λ (turn : Turn S). turn.rest) turns)) (sym whole.nexts_are) (subst (λ (objects : List S). AreFed tells left paths start start (sources_of left names objects) (map (λ (turn : Turn S). turn.next) turns) (map (λ (turn : Turn S). turn.rest) turns)) (sym whole.sources_are) by_turns))
  where
    turns : List (Turn S)
    turns = started.starts.turns

    whole : Whole started.opened feeds objects rests started.starts.turns
    whole = started.starts.whole

    by_turns : AreFed tells left paths start start (sources_of left names (map (λ (turn : Turn S). turn.source) started.starts.turns)) (map (λ (turn : Turn S). turn.next) started.starts.turns) (map (λ (turn : Turn S). turn.rest) started.starts.turns)
    by_turns = starts_fed tells left faults paths start taken same names started.starts.turns (subst (AreFeedsOf taken paths names) started.starts.whole.feeds_are started.of_sources) started.starts.each
