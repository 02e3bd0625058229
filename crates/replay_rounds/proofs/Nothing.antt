-- Entries that take nothing of any source.
use Rattle.std.proofs.Common.{◌≡◌, ℕ, List, [], ◌∷◌, ◌++◌, Option, Some, None, refl, sym, ap, ◌∙◌, subst}
use Rattle.std.specs.Prelude.{filter_map, option_map}
use Rattle.std.specs.List.{cons_option}
use Rattle.pack_rules.specs.declared.schedule.Schedule.{Schedule}
use Rattle.entry_model.specs.declared.entry.Batch.{Batch}
use Rattle.entry_model.specs.declared.entry.Entry.{Entry}
use Rattle.entry_model.specs.declared.entry.Entry.TheVariants.{Opened, Configured, Ticked, Expired}
use Rattle.entry_model.specs.Values.{last_of, taken_from, taken_in}
use Rattle.entry_model.proofs.Lasts.{last_of-append}
use Rattle.session_state.specs.Kept.{Kept}
use Rattle.session_state.specs.Ticks.{owed_at}
use Rattle.daemon_rounds.specs.Answering.{committed_all}
use Rattle.daemon_rounds.specs.Keeping.{Settles}

-- they move no offset
abbrev pub TakeNothing : List Entry → Type 0
TakeNothing entries = (name : List ℕ) (before : ℕ) → last_of (taken_in name) before entries ≡ before

-- a list with them behind it has the sources up to where it had them
pub nothing_behind : (now entries : List Entry) → TakeNothing entries → (name : List ℕ) → taken_from (now ++ entries) name ≡ taken_from now name
nothing_behind now entries nothing name =
    last_of-append (taken_in name) 0 now entries ∙ nothing name (taken_from now name)

pub nothing-append : (xs ys : List Entry) → TakeNothing xs → TakeNothing ys → TakeNothing (xs ++ ys)
nothing-append xs ys first second name before =
    last_of-append (taken_in name) before xs ys ∙ ap (λ (offset : ℕ). last_of (taken_in name) offset ys) (first name before) ∙ second name before

pub none_nothing : TakeNothing []
none_nothing name before = refl

pub opened_nothing : (session rules : ℕ) → TakeNothing (Opened session rules ∷ [])
opened_nothing session rules name before = refl

pub configured_nothing : (documents : List (List ℕ)) (schedule : Schedule) (moment : ℕ) → TakeNothing (Configured documents schedule moment ∷ [])
configured_nothing documents schedule moment name before = refl

pub ticked_nothing : (moment : ℕ) → TakeNothing (Ticked moment ∷ [])
ticked_nothing moment name before = refl

pub committed_nothing : (batches : List Batch) → TakeNothing (committed_all batches)
committed_nothing [] name before = refl
committed_nothing (batch ∷ batches) name before = committed_nothing batches name before

expired_or_none : (o : Option ℕ) (table moment : ℕ) (rest : List Entry) → TakeNothing rest → TakeNothing (cons_option (option_map (λ (floor : ℕ). Expired (record { 0 = table }) floor moment) o) rest)
expired_or_none None table moment rest nothing name before = nothing name before
expired_or_none (Some floor) table moment rest nothing name before = nothing name before

-- an expiry of each of these tables that owes one
pub expired_nothing : (owed : ℕ → Option ℕ) (moment : ℕ) (tables : List ℕ) → TakeNothing (filter_map (λ (table : ℕ). option_map (λ (floor : ℕ). Expired (record { 0 = table }) floor moment) (owed table)) tables)
expired_nothing owed moment [] = none_nothing
expired_nothing owed moment (table ∷ tables) =
    expired_or_none (owed table) table moment (filter_map (λ (table : ℕ). option_map (λ (floor : ℕ). Expired (record { 0 = table }) floor moment) (owed table)) tables) (expired_nothing owed moment tables)

-- what a settled state gained
pub settled_nothing : (old new : Kept) (settles : Settles old new) → TakeNothing (committed_all settles.batches ++ settles.expired)
settled_nothing old new settles =
    nothing-append (committed_all settles.batches) settles.expired (committed_nothing settles.batches) (subst TakeNothing (sym settles.are) (expired_nothing (owed_at settles.between) settles.between.counts.moment (0 ∷ 1 ∷ 2 ∷ [])))
