-- Entries that configure nothing.
use Rattle.std.proofs.Common.{◌≡◌, ℕ, List, [], ◌∷◌, ◌++◌, Option, Some, None, refl, sym, ap, ◌∙◌, subst}
use Rattle.std.specs.Prelude.{filter_map, option_map}
use Rattle.std.specs.List.{cons_option}
use Rattle.osq_value.specs.declared.reading.Reading.{Reading}
use Rattle.osq_value.specs.declared.reading.Reading.TheVariants.{Events, Table}
use Rattle.entry_model.specs.declared.entry.Batch.{Batch}
use Rattle.entry_model.specs.declared.entry.Entry.{Entry}
use Rattle.entry_model.specs.declared.entry.Entry.TheVariants.{Expired}
use Rattle.entry_model.specs.Values.{last_of}
use Rattle.entry_model.proofs.Lasts.{last_of-append}
use Rattle.session_model.specs.Configuring.{configured_in}
use Rattle.session_state.specs.Kept.{Kept}
use Rattle.session_state.specs.Ticks.{owed_at}
use Rattle.daemon_rounds.specs.Answering.{committed_all}
use Rattle.daemon_rounds.specs.Appending.{entries_of}
use Rattle.daemon_rounds.specs.Keeping.{Settles}
use Rattle.daemon_rounds.specs.Rounding.{round_entries}
use Rattle.daemon_rounds.specs.Turns.{Turn, turn_entries}

-- the session was configured last where it was before them
abbrev pub ConfigureNothing : List Entry → Type 0
ConfigureNothing entries = (before : ℕ) → last_of configured_in before entries ≡ before

pub unconfigured-append : (xs ys : List Entry) → ConfigureNothing xs → ConfigureNothing ys → ConfigureNothing (xs ++ ys)
unconfigured-append xs ys first second before =
    last_of-append configured_in before xs ys ∙ ap (λ (at : ℕ). last_of configured_in at ys) (first before) ∙ second before

readings_unconfigured : (source : List ℕ) (moment : ℕ) (readings : List Reading) → ConfigureNothing (entries_of source moment readings)
readings_unconfigured source moment [] before = refl
readings_unconfigured source moment (Events taken events skipped ∷ readings) before =
    readings_unconfigured source moment readings before
readings_unconfigured source moment (Table taken table rows ∷ readings) before =
    readings_unconfigured source moment readings before

pub round_unconfigured : {S : Type 0} (moment : ℕ) (turns : List (Turn S)) → ConfigureNothing (round_entries moment turns)
round_unconfigured moment [] before = refl
round_unconfigured moment (turn ∷ turns) before =
    unconfigured-append (turn_entries moment turn) (round_entries moment turns) (readings_unconfigured turn.feed.name moment turn.readings) (round_unconfigured moment turns) before

committed_unconfigured : (batches : List Batch) → ConfigureNothing (committed_all batches)
committed_unconfigured [] before = refl
committed_unconfigured (batch ∷ batches) before = committed_unconfigured batches before

expired_or_none : (o : Option ℕ) (table moment : ℕ) (rest : List Entry) → ConfigureNothing rest → ConfigureNothing (cons_option (option_map (λ (floor : ℕ). Expired (record { 0 = table }) floor moment) o) rest)
expired_or_none None table moment rest nothing before = nothing before
expired_or_none (Some floor) table moment rest nothing before = nothing before

expired_unconfigured : (owed : ℕ → Option ℕ) (moment : ℕ) (tables : List ℕ) → ConfigureNothing (filter_map (λ (table : ℕ). option_map (λ (floor : ℕ). Expired (record { 0 = table }) floor moment) (owed table)) tables)
expired_unconfigured owed moment [] before = refl
expired_unconfigured owed moment (table ∷ tables) before =
    expired_or_none (owed table) table moment (filter_map (λ (table : ℕ). option_map (λ (floor : ℕ). Expired (record { 0 = table }) floor moment) (owed table)) tables) (expired_unconfigured owed moment tables) before

-- what a settled state gained
pub settled_unconfigured : (old new : Kept) (settles : Settles old new) → ConfigureNothing (committed_all settles.batches ++ settles.expired)
settled_unconfigured old new settles =
    unconfigured-append (committed_all settles.batches) settles.expired (committed_unconfigured settles.batches) (subst ConfigureNothing (sym settles.are) (expired_unconfigured (owed_at settles.between) settles.between.counts.moment (0 ∷ 1 ∷ 2 ∷ [])))
