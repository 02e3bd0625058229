-- Expiries leave due what is due.
use Rattle.std.proofs.Common.{◌≡◌, ℕ, Bool, List, [], ◌∷◌, Option, Some, None, refl, sym, ap, ◌∙◌, subst}
use Rattle.std.specs.Prelude.{filter_map, option_map, if◌then◌else◌}
use Rattle.std.specs.List.{cons_option}
use Rattle.pack_rules.specs.declared.schedule.Schedule.{Schedule}
use Rattle.entry_model.specs.declared.entry.Entry.{Entry}
use Rattle.entry_model.specs.declared.entry.Entry.TheVariants.{Expired}
use Rattle.entry_model.specs.Values.{last_of, schedule_in, tick_in}
use Rattle.entry_model.proofs.Lasts.{last_of-append}
use Rattle.query_cursors.specs.Due as cursors
use Rattle.session_state.specs.Kept.{Counts, Kept, counts_next}
use Rattle.session_state.specs.Ticks.{first_due, owed_at}
use Rattle.daemon_rounds.specs.Adding.{counts_after}
use Rattle.daemon_rounds.specs.Answering.{committed_all}
use Rattle.daemon_rounds.specs.Keeping.{Settles}
use Rattle.daemon_rounds.proofs.Adding.{counts-append}

-- entries that leave the values by which a query is due
record Leave (entries : List Entry) : Type 0 where
  pub runs : (counts : Counts) → (counts_after counts entries).runs ≡ counts.runs
  pub moment : (counts : Counts) → (counts_after counts entries).moment ≡ counts.moment
  pub schedule : (before : Schedule) → last_of schedule_in before entries ≡ before
  pub ticked : (before : Bool) → last_of tick_in before entries ≡ before

expired_or_none : (o : Option ℕ) (table moment : ℕ) (rest : List Entry) → Leave rest → Leave (cons_option (option_map (λ (floor : ℕ). Expired (record { 0 = table }) floor moment) o) rest)
expired_or_none None table moment rest leave = leave
expired_or_none (Some floor) table moment rest leave = record {
  runs = λ counts. leave.runs (counts_next counts (Expired (record { 0 = table }) floor moment));
  moment = λ counts. leave.moment (counts_next counts (Expired (record { 0 = table }) floor moment));
  schedule = leave.schedule;
  ticked = leave.ticked;
}

expired_leave : (owed : ℕ → Option ℕ) (moment : ℕ) (tables : List ℕ) → Leave (filter_map (λ (table : ℕ). option_map (λ (floor : ℕ). Expired (record { 0 = table }) floor moment) (owed table)) tables)
expired_leave owed moment [] =
    record { runs = λ counts. refl; moment = λ counts. refl; schedule = λ before. refl; ticked = λ before. refl }
expired_leave owed moment (table ∷ tables) =
    expired_or_none (owed table) table moment (filter_map (λ (table : ℕ). option_map (λ (floor : ℕ). Expired (record { 0 = table }) floor moment) (owed table)) tables) (expired_leave owed moment tables)

-- no query is due before the expiries either
module _ (old new : Kept) (settles : Settles old new) where
  leave : Leave settles.expired
  leave = subst Leave (sym settles.are) (expired_leave (owed_at settles.between) settles.between.counts.moment (0 ∷ 1 ∷ 2 ∷ []))

  counts_are : new.counts ≡ counts_after settles.between.counts settles.expired
  counts_are =
      settles.brings.counts ∙ counts-append old.counts (committed_all settles.batches) settles.expired ∙ ap (λ (counts : Counts). counts_after counts settles.expired) (sym settles.answers.counts)

  runs_are : new.counts.runs ≡ settles.between.counts.runs
  runs_are = ap (λ (counts : Counts). counts.runs) counts_are ∙ leave.runs settles.between.counts

  moment_is : new.counts.moment ≡ settles.between.counts.moment
  moment_is = ap (λ (counts : Counts). counts.moment) counts_are ∙ leave.moment settles.between.counts

  schedule_is : new.schedule ≡ settles.between.schedule
  schedule_is =
      settles.brings.schedule ∙ last_of-append schedule_in old.schedule (committed_all settles.batches) settles.expired ∙ leave.schedule (last_of schedule_in old.schedule (committed_all settles.batches)) ∙ sym settles.answers.schedule

  ticked_is : new.ticked ≡ settles.between.ticked
  ticked_is =
      settles.brings.ticked ∙ last_of-append tick_in old.ticked (committed_all settles.batches) settles.expired ∙ leave.ticked (last_of tick_in old.ticked (committed_all settles.batches)) ∙ sym settles.answers.ticked

  same : first_due new ≡ first_due settles.between
  same = λ i. if ticked_is i then cursors.first_due (runs_are i) (schedule_is i).queries (moment_is i) else None

  pub none_between : first_due settles.between ≡ None
  none_between = sym same ∙ settles.answered
