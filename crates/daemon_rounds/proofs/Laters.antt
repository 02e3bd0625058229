-- Sources whose counts of faults never fell.
use Rattle.std.proofs.Common.{◌≡◌, ℕ, zero, suc, ◌≤◌, List, [], ◌∷◌, map, Option, Some, None, refl, sym, ap, ◌∙◌, subst, arith}
use Rattle.std.specs.Prelude.{All, slice_get}
use Rattle.std.proofs.lemmas.List.Elements.{All-head, All-tail}
use Rattle.osq_outside.specs.Causes.{Rose}
use Rattle.source_feeds.specs.Feeding.{Feeding}
use Rattle.session_state.specs.Kept.{Kept}
use Rattle.daemon_rounds.specs.Turns.{IsTurn, Turn}
use Rattle.daemon_rounds.specs.Rounding.{FailsAt, Whole}
use Rattle.daemon_rounds.specs.Starting.{IsStart, Starts}
use Rattle.daemon_rounds.specs.declared.turning.Which.{Which}

-- no count is below what it was
abbrev pub AreLater : {S : Type 0} → (S → ℕ) → List S → List S → Type 0
AreLater faults [] [] = Unit {0}
AreLater faults [] (rest ∷ rests) = ⊥
AreLater faults (source ∷ sources) [] = ⊥
AreLater faults (source ∷ sources) (rest ∷ rests) = (faults source ≤ faults rest) × AreLater faults sources rests

turns_later : {S : Type 0} (faults : S → ℕ) (P : Turn S → Type 0) → ((turn : Turn S) → P turn → faults turn.source ≤ faults turn.rest) → (turns : List (Turn S)) → All P turns → AreLater faults (map (λ (turn : Turn S). turn.source) turns) (map (λ (turn : Turn S). turn.rest) turns)
turns_later faults P each [] all = tt
turns_later faults P each (turn ∷ turns) all =
    (each turn (All-head P turn turns all), turns_later faults P each turns (All-tail P turn turns all))

whole_later : {S : Type 0} (faults : S → ℕ) (feeds nexts : List Feeding) (sources rests : List S) (turns : List (Turn S)) → Whole feeds nexts sources rests turns → AreLater faults (map (λ (turn : Turn S). turn.source) turns) (map (λ (turn : Turn S). turn.rest) turns) → AreLater faults sources rests
whole_later {S} faults feeds nexts sources rests turns whole later =
    subst (λ (xs : List S). AreLater faults xs rests) (sym whole.sources_are) (subst (λ (ys : List S). AreLater faults (map (λ (turn : Turn S). turn.source) turns) ys) (sym whole.rests_are) later)

-- in one turn of each
pub round_later : {S : Type 0} (tells : Type 0) (left : S → List ℕ) (faults : S → ℕ) (which : Which) (most : ℕ) (feeds nexts : List Feeding) (sources rests : List S) (turns : List (Turn S)) → Whole feeds nexts sources rests turns → All (IsTurn tells left faults which most) turns → AreLater faults sources rests
round_later tells left faults which most feeds nexts sources rests turns whole each =
    whole_later faults feeds nexts sources rests turns whole (turns_later faults (IsTurn tells left faults which most) (λ turn is. is.later) turns each)

pub start_later : {S : Type 0} (tells : Type 0) (left : S → List ℕ) (faults : S → ℕ) (feeds nexts : List Feeding) (sources rests : List S) → Starts tells left faults feeds nexts sources rests → AreLater faults sources rests
start_later tells left faults feeds nexts sources rests r =
    whole_later faults feeds nexts sources rests r.turns r.whole (turns_later faults (IsStart tells left faults) (λ turn is. is.later) r.turns r.each)

rose_back : (first before now : ℕ) → first ≤ before → Rose before now → Rose first now
rose_back first before now later rose = omega (arith, later, rose)

-- the source at a place, before
was_there : {S : Type 0} (faults : S → ℕ) (sources betweens : List S) (place : ℕ) (between : S) → AreLater faults sources betweens → slice_get betweens place ≡ Some between → (source : S) × (slice_get sources place ≡ Some source) × (faults source ≤ faults between)
was_there faults [] [] place between later there = absurd (cc)
was_there faults [] (first ∷ betweens) place between later there = absurd later
was_there faults (source ∷ sources) [] place between later there = absurd later
was_there faults (source ∷ sources) (first ∷ betweens) zero between later there =
    let same : first ≡ between = (cc) in
    (source, refl, subst (λ x. faults source ≤ faults x) same later.0)
was_there faults (source ∷ sources) (first ∷ betweens) (suc place) between later there =
    was_there faults sources betweens place between later.1 there

-- a source that failed later failed since
pub fails_since : {S : Type 0} (faults : S → ℕ) (place : ℕ) (sources betweens rests : List S) → AreLater faults sources betweens → FailsAt faults place betweens rests → FailsAt faults place sources rests
fails_since faults place sources betweens rests later fails =
    let was = was_there faults sources betweens place fails.source later fails.was in
    record {
      source = was.0;
      rest = fails.rest;
      was = was.1;
      is = fails.is;
      rose = rose_back (faults was.0) (faults fails.source) (faults fails.rest) was.2 fails.rose;
    }

pub none_later : {S : Type 0} (faults : S → ℕ) (sources : List S) → AreLater faults sources sources
none_later faults [] = tt
none_later faults (source ∷ sources) = (omega arith, none_later faults sources)

pub later_then : {S : Type 0} (faults : S → ℕ) (sources betweens rests : List S) → AreLater faults sources betweens → AreLater faults betweens rests → AreLater faults sources rests
later_then faults [] [] [] first second = tt
later_then faults [] [] (rest ∷ rests) first second = absurd second
later_then faults [] (between ∷ betweens) rests first second = absurd first
later_then faults (source ∷ sources) [] rests first second = absurd first
later_then faults (source ∷ sources) (between ∷ betweens) [] first second = absurd second
later_then faults (source ∷ sources) (between ∷ betweens) (rest ∷ rests) first second =
    let low = first.0 in
    let high = second.0 in
    (omega (arith, low, high), later_then faults sources betweens rests first.1 second.1)
