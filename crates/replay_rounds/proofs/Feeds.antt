-- The feeds of a session go on with their sources.
use Rattle.std.proofs.Common.{◌≡◌, ℕ, false, List, [], ◌∷◌, length, map, refl, sym, ap, ◌∙◌, subst, arith}
use Rattle.std.specs.Prelude.{bytes_eq}
use Rattle.std.specs.List.{list_any}
use Rattle.osq_value.specs.declared.reading.Category.{Category}
use Rattle.source_feeds.specs.Feeding.{Feeding}
use Rattle.source_feeds.specs.Taking.{IsBehindLastFeed}
use Rattle.entry_model.specs.declared.entry.Entry.{Entry}
use Rattle.entry_model.specs.Values.{taken_from}
use Rattle.session_model.specs.Given.{Source}
use Rattle.daemon_rounds.specs.Rounding.{names_of}
use Rattle.replay_rounds.specs.Sources.{AreFed, IsFed}
use Rattle.replay_rounds.proofs.Passed.{differ_back, or_false}

module _ {S : Type 0} (tells : Type 0) (left : S → List ℕ) (paths : List Category) (start now : List Entry) where
  -- the same of another list, which has the source up to the same offset
  pub one_fed_on : (later : List Entry) (source : Source) (feed : Feeding) (object : S) → taken_from later source.name ≡ taken_from now source.name → IsFed tells left paths start now source feed object → IsFed tells left paths start later source feed object
  one_fed_on later source feed object same is = record {
    name = is.name;
    kind = is.kind;
    paths_are = is.paths_are;
    place = is.place ∙ sym same;
    pieces = is.pieces;
    fed = is.fed;
    over = λ told ended. subst (IsBehindLastFeed (taken_from start source.name) source.bytes) (sym same) (is.over told ended);
  }

  -- of another list, which has each source up to the same offset
  pub fed_on : (later : List Entry) (sources : List Source) (feeds : List Feeding) (objects : List S) → ((name : List ℕ) → taken_from later name ≡ taken_from now name) → AreFed tells left paths start now sources feeds objects → AreFed tells left paths start later sources feeds objects
  fed_on later [] [] [] same are = tt
  fed_on later (source ∷ sources) (feed ∷ feeds) (object ∷ objects) same are =
      (one_fed_on later source feed object (same source.name) are.0, fed_on later sources feeds objects same are.1)
  fed_on later _ _ _ same are = absurd are

  -- of another list, which has each source but one of this name up to the same offset, where none of these has that name
  pub others_fed_on : (later : List Entry) (name : List ℕ) (sources : List Source) (feeds : List Feeding) (objects : List S) → ((other : List ℕ) → bytes_eq name other ≡ false → taken_from later other ≡ taken_from now other) → list_any (λ (other : List ℕ). bytes_eq other name) (names_of feeds) ≡ false → AreFed tells left paths start now sources feeds objects → AreFed tells left paths start later sources feeds objects
  others_fed_on later name [] [] [] same none are = tt
  others_fed_on later name (source ∷ sources) (feed ∷ feeds) (object ∷ objects) same none are =
      let two = or_false (bytes_eq feed.name name) (list_any (λ (other : List ℕ). bytes_eq other name) (names_of feeds)) none in
      let differs = differ_back source.name name (ap (λ (other : List ℕ). bytes_eq other name) (sym are.0.name) ∙ two.0) in
      (one_fed_on later source feed object (same source.name differs) are.0, others_fed_on later name sources feeds objects same two.1 are.1)
  others_fed_on later name _ _ _ same none are = absurd are

  -- the feeds have the names of the sources
  pub fed_names : (sources : List Source) (feeds : List Feeding) (objects : List S) → AreFed tells left paths start now sources feeds objects → names_of feeds ≡ map (λ (source : Source). source.name) sources
  fed_names [] [] [] are = refl
  fed_names (source ∷ sources) (feed ∷ feeds) (object ∷ objects) are =
      ap (λ (name : List ℕ). name ∷ names_of feeds) are.0.name ∙ ap (λ (names : List (List ℕ)). source.name ∷ names) (fed_names sources feeds objects are.1)
  fed_names _ _ _ are = absurd are

  -- there are as many feeds as sources, and as many objects
  pub fed_lengths : (sources : List Source) (feeds : List Feeding) (objects : List S) → AreFed tells left paths start now sources feeds objects → (length feeds ≡ length sources) × (length objects ≡ length sources)
  fed_lengths [] [] [] are = (refl, refl)
  fed_lengths (source ∷ sources) (feed ∷ feeds) (object ∷ objects) are =
      let rest = fed_lengths sources feeds objects are.1 in
      let first = rest.0 in
      let second = rest.1 in
      (omega (arith, first), omega (arith, second))
  fed_lengths _ _ _ are = absurd are
