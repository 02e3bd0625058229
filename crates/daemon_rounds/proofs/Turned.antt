-- What the turn of a source gives, and where its feed stands behind it.
use Rattle.std.proofs.Common.{◌≡◌, ℕ, ◌<◌, ◌≤◌, Bool, true, false, List, [], ◌∷◌, refl, sym, ap, ◌∙◌, subst}
use Rattle.std.specs.Prelude.{All}
use Rattle.std.proofs.lemmas.List.Elements.{All-weaker}
use Rattle.osq_value.specs.declared.reading.Reading.{Reading}
use Rattle.osq_value.specs.declared.reading.Reading.TheVariants.{Events, Table}
use Rattle.source_feeds.specs.Feeding.{Feeding, SameFeed}
use Rattle.source_feeds.specs.Joining.{Rise}
use Rattle.source_feeds.specs.Readings as feeds
use Rattle.entry_model.specs.declared.entry.Entry.TheVariants.{Appended, TableSet}
use Rattle.entry_model.specs.declared.restored.Taken.{Taken}
use Rattle.entry_model.specs.Next.{offset_at}
use Rattle.session_state.specs.Kept.{Counts, Kept, counts_next}
use Rattle.session_state.specs.Readings.{IsReading}
use Rattle.daemon_rounds.specs.Adding.{AddsEntries, counts_after}
use Rattle.daemon_rounds.specs.Appending.{AreRising, Exceeds, end_behind, entries_of}
use Rattle.daemon_rounds.specs.Turns.{Gave, HasTooMuch, HasTurn, IsGoing, IsTurn, Plays, takes_part, turn_of}
use Rattle.daemon_rounds.specs.declared.turning.Which.{Which}
use Rattle.daemon_rounds.proofs.Adding.{brings_same}

same_reading : (reading : Reading) → feeds.IsReading reading → IsReading reading
same_reading (Events taken events skipped) good = good
same_reading (Table taken table rows) good = good

-- a state may append what a feed gives
pub may_append : (readings : List Reading) → All feeds.IsReading readings → All IsReading readings
may_append readings good = All-weaker feeds.IsReading IsReading same_reading readings good

pub rising : (before after : ℕ) (readings : List Reading) → Rise before readings after → AreRising before readings × (end_behind before readings ≡ after)
rising before after [] still = (tt, sym still)
rising before after (Events taken events skipped ∷ readings) (low, rest) =
    let so = rising taken after readings rest in ((low, so.0), so.1)
rising before after (Table taken table rows ∷ readings) (low, rest) =
    let so = rising taken after readings rest in ((low, so.0), so.1)

-- readings don't move the moment
pub moment_same : (counts : Counts) (source : List ℕ) (moment : ℕ) (readings : List Reading) → (counts_after counts (entries_of source moment readings)).moment ≡ counts.moment
moment_same counts source moment [] = refl
moment_same counts source moment (Events taken events skipped ∷ readings) =
    moment_same (counts_next counts (Appended source taken events skipped moment)) source moment readings
moment_same counts source moment (Table taken table rows ∷ readings) =
    moment_same (counts_next counts (TableSet source table rows taken)) source moment readings

module _ (s t : Kept) (feed next : Feeding) (source : List ℕ) (readings : List Reading) (named : source ≡ feed.name) (going : IsGoing s.counts.taken feed) (rise : Rise feed.reader.taken readings next.reader.taken) where
  place_is : feed.reader.taken ≡ offset_at s.counts.taken source
  place_is = going.place ∙ ap (offset_at s.counts.taken) (sym named)

  -- the readings rise from the state's offset on
  pub rising_on : AreRising (offset_at s.counts.taken source) readings
  rising_on =
      subst (λ (offset : ℕ). AreRising offset readings) place_is (rising feed.reader.taken next.reader.taken readings rise).0

  -- the feed goes on from the state's offset, which is where it stands
  pub going_on : SameFeed feed next → offset_at t.counts.taken source ≡ end_behind (offset_at s.counts.taken source) readings → IsGoing t.counts.taken next
  going_on same moved = record {
    begun = same.is_begun ∙ going.begun;
    unspent = same.is_spent ∙ going.unspent;
    place = sym (rising feed.reader.taken next.reader.taken readings rise).1 ∙ ap (λ (offset : ℕ). end_behind offset readings) place_is ∙ sym moved ∙ ap (offset_at t.counts.taken) (named ∙ sym same.name);
  }

module _ {S : Type 0} (tells : Type 0) (left : S → List ℕ) (faults : S → ℕ) (which : Which) (most : ℕ) (feed next : Feeding) (source rest : S) where
  -- a step is the turn of a source that takes part
  pub is_turn : (readings : List Reading) → takes_part which feed.kind ≡ true → Gave tells (left source) (left rest) feed next most readings → faults source ≤ faults rest → IsTurn tells left faults which most (turn_of feed next source rest readings)
  is_turn readings part gave later = record {
    plays = subst (λ (b : Bool). Plays tells left most b (turn_of feed next source rest readings)) (sym part) gave;
    later = later;
  }

  pub had_step : (s t : Kept) (readings : List Reading) → takes_part which feed.kind ≡ true → Gave tells (left source) (left rest) feed next most readings → faults source ≤ faults rest → AddsEntries s (entries_of feed.name s.counts.moment readings) t → HasTurn tells left faults which most feed next source rest s t
  had_step s t readings part gave later brings =
      record { readings = readings; is = is_turn readings part gave later; brings = brings }

  pub had_too_much : (s t : Kept) (readings : List Reading) → takes_part which feed.kind ≡ true → Gave tells (left source) (left rest) feed next most readings → faults source ≤ faults rest → Exceeds feed.name readings s t → HasTooMuch tells left faults which most feed next source rest s t
  had_too_much s t readings part gave later exceeds =
      record { readings = readings; is = is_turn readings part gave later; exceeds = exceeds }

-- another source stays as it is
pub had_none : {S : Type 0} (tells : Type 0) (left : S → List ℕ) (faults : S → ℕ) (which : Which) (most : ℕ) (feed : Feeding) (source : S) (s : Kept) → takes_part which feed.kind ≡ false → faults source ≤ faults source → HasTurn tells left faults which most feed feed source source s s
had_none tells left faults which most feed source s part later = record {
  readings = [];
  is = record {
    plays = subst (λ (b : Bool). Plays tells left most b (turn_of feed feed source source [])) (sym part) (record { feed = refl; source = refl; none = refl });
    later = later;
  };
  brings = brings_same s;
}
