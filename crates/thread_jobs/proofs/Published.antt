-- What comes of a publisher.
use Rattle.std.proofs.Common.{◌≡◌, ℕ, List, sym, ap, ◌∙◌, subst}
use Rattle.osq_value.specs.declared.reading.Reading.{Reading}
use Rattle.source_feeds.specs.Feeding.{Feeding}
use Rattle.source_feeds.specs.Joining.{Rise}
use Rattle.session_state.specs.Kept.{Kept}
use Rattle.shared_store.specs.declared.noted.Noted.{Noted}
use Rattle.daemon_rounds.specs.Appending.{AreRising}
use Rattle.daemon_rounds.specs.Turns.{Gave}
use Rattle.daemon_rounds.proofs.Turned.{rising}
use Rattle.thread_laws.specs.Jobs.{IsPublished, Stamped}
use Rattle.thread_jobs.specs.Publishing.{AddsFront, Exceeds, HasTakenPart, HasTooMuch, IsGoingFrom, IsTaken, offset_after}

-- what a feed gives rises from the offset up to which the notes have its source
pub rising_from : (start : Kept) (notes : List Noted) (feed next : Feeding) (name : List ℕ) (readings : List Reading) → name ≡ feed.name → IsGoingFrom start notes feed → Rise feed.reader.taken readings next.reader.taken → AreRising (offset_after start notes name) readings
rising_from start notes feed next name readings named going rise =
    subst (λ (offset : ℕ). AreRising offset readings) (going.place ∙ ap (offset_after start notes) (sym named)) (rising feed.reader.taken next.reader.taken readings rise).0

module _ (tells : Type 0) (left_before left_after : List ℕ) (most n : ℕ) (before after : Stamped) (feed next : Feeding) (name : List ℕ) (readings : List Reading) (named : name ≡ feed.name) (gave : Gave tells left_before left_after feed next most readings) where
  pub took_part : AddsFront n before after name readings → HasTakenPart tells left_before left_after most n before after feed next
  took_part front = record {
    readings = readings;
    gave = gave;
    front = subst (λ (l : List ℕ). AddsFront n before after l readings) named front;
  }

  pub took_all : IsPublished n before after name readings → IsTaken tells left_before left_after most n before after feed next
  took_all published = record {
    readings = readings;
    gave = gave;
    published = subst (λ (l : List ℕ). IsPublished n before after l readings) named published;
  }

  pub too_much : (start : Kept) → Exceeds start n before after name readings → HasTooMuch tells left_before left_after most start n before after feed next
  too_much start exceeds = record {
    readings = readings;
    gave = gave;
    exceeds = subst (λ (l : List ℕ). Exceeds start n before after l readings) named exceeds;
  }
