-- Entries among which no tick begins, or no batch is.
use Rattle.std.proofs.Common.{◌≡◌, ℕ, Bool, true, false, List, [], ◌∷◌, ◌++◌, Option, Some, None, refl, sym, subst}
use Rattle.std.specs.Prelude.{All, filter_map, option_map}
use Rattle.std.specs.List.{cons_option}
use Rattle.std.proofs.lemmas.List.Elements.{All-append, All-cons, All-nil}
use Rattle.osq_config.specs.declared.config.Config.{Config}
use Rattle.osq_value.specs.declared.reading.Reading.{Reading}
use Rattle.osq_value.specs.declared.reading.Reading.TheVariants.{Events, Table}
use Rattle.pack_rules.specs.declared.host.Host.{Host}
use Rattle.entry_model.specs.declared.entry.Batch.{Batch}
use Rattle.entry_model.specs.declared.entry.Entry.{Entry}
use Rattle.entry_model.specs.declared.entry.Entry.TheVariants.{Committed, Configured, Expired}
use Rattle.session_model.specs.Working.{is_batch}
use Rattle.session_state.specs.Kept.{Kept}
use Rattle.session_state.specs.Readings.{entry_of}
use Rattle.session_state.specs.Ticks.{owed_at}
use Rattle.daemon_rounds.specs.Answering.{committed_all}
use Rattle.daemon_rounds.specs.Appending.{entries_of}
use Rattle.daemon_rounds.specs.Keeping.{Settles}
use Rattle.daemon_rounds.specs.Rounding.{round_entries}
use Rattle.daemon_rounds.specs.Ticking.{ConfiguresAgain}
use Rattle.daemon_rounds.specs.Turns.{Turn, turn_entries}
use Rattle.replay_rounds.specs.OneTick.{is_tick}
use Rattle.replay_rounds.proofs.Again.{again_entries}

abbrev pub NoTick : Entry → Type 0
NoTick entry = is_tick entry ≡ false

abbrev pub NoBatch : Entry → Type 0
NoBatch entry = is_batch entry ≡ false

-- what holds of the entry of each reading holds of all that a round gave
module _ (P : Entry → Type 0) (each : (source : List ℕ) (moment : ℕ) (reading : Reading) → P (entry_of source moment reading)) where
  readings_all : (source : List ℕ) (moment : ℕ) (readings : List Reading) → All P (entries_of source moment readings)
  readings_all source moment [] = All-nil P
  readings_all source moment (reading ∷ readings) =
      All-cons P (entry_of source moment reading) (entries_of source moment readings) (each source moment reading) (readings_all source moment readings)

  pub round_all : {S : Type 0} (moment : ℕ) (turns : List (Turn S)) → All P (round_entries moment turns)
  round_all moment [] = All-nil P
  round_all moment (turn ∷ turns) =
      All-append P (turn_entries moment turn) (round_entries moment turns) (readings_all turn.feed.name moment turn.readings) (round_all moment turns)

reading_tickless : (source : List ℕ) (moment : ℕ) (reading : Reading) → NoTick (entry_of source moment reading)
reading_tickless source moment (Events taken events skipped) = refl
reading_tickless source moment (Table taken table rows) = refl

reading_batchless : (source : List ℕ) (moment : ℕ) (reading : Reading) → NoBatch (entry_of source moment reading)
reading_batchless source moment (Events taken events skipped) = refl
reading_batchless source moment (Table taken table rows) = refl

pub round_tickless : {S : Type 0} (moment : ℕ) (turns : List (Turn S)) → All NoTick (round_entries moment turns)
round_tickless moment turns = round_all NoTick reading_tickless moment turns

pub round_batchless : {S : Type 0} (moment : ℕ) (turns : List (Turn S)) → All NoBatch (round_entries moment turns)
round_batchless moment turns = round_all NoBatch reading_batchless moment turns

pub again_tickless : (asks : Bool) (config : Config) (documents : List (List ℕ)) (host : Host) (moment : ℕ) (old new : Kept) (again : ConfiguresAgain asks config documents host moment old new) → All NoTick (again_entries asks config documents host moment old new again)
again_tickless true config documents host moment old new configures =
    All-cons NoTick (Configured documents configures.schedule moment) [] refl (All-nil NoTick)
again_tickless false config documents host moment old new same = All-nil NoTick

committed_tickless : (batches : List Batch) → All NoTick (committed_all batches)
committed_tickless [] = All-nil NoTick
committed_tickless (batch ∷ batches) = All-cons NoTick (Committed batch) (committed_all batches) refl (committed_tickless batches)

expired_or_none : (o : Option ℕ) (table moment : ℕ) (rest : List Entry) → All NoTick rest → All NoTick (cons_option (option_map (λ (floor : ℕ). Expired (record { 0 = table }) floor moment) o) rest)
expired_or_none None table moment rest none = none
expired_or_none (Some floor) table moment rest none = All-cons NoTick (Expired (record { 0 = table }) floor moment) rest refl none

expired_tickless : (owed : ℕ → Option ℕ) (moment : ℕ) (tables : List ℕ) → All NoTick (filter_map (λ (table : ℕ). option_map (λ (floor : ℕ). Expired (record { 0 = table }) floor moment) (owed table)) tables)
expired_tickless owed moment [] = All-nil NoTick
expired_tickless owed moment (table ∷ tables) =
    expired_or_none (owed table) table moment (filter_map (λ (table : ℕ). option_map (λ (floor : ℕ). Expired (record { 0 = table }) floor moment) (owed table)) tables) (expired_tickless owed moment tables)

-- what a settled state gained
pub settled_tickless : (old new : Kept) (settles : Settles old new) → All NoTick (committed_all settles.batches ++ settles.expired)
settled_tickless old new settles =
    All-append NoTick (committed_all settles.batches) settles.expired (committed_tickless settles.batches) (subst (All NoTick) (sym settles.are) (expired_tickless (owed_at settles.between) settles.between.counts.moment (0 ∷ 1 ∷ 2 ∷ [])))
