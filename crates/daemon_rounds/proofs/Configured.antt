-- A session is configured.
use Rattle.std.proofs.Common.{◌≡◌, ℕ, ◌≤◌, false, List, [], ◌∷◌, ◌++◌, length, max, replicate, sym, ap, ◌∙◌, subst, arith}
use Rattle.osq_config.specs.declared.config.Config.{Config}
use Rattle.pack_rules.specs.declared.host.Host.{Host}
use Rattle.pack_rules.specs.declared.schedule.Schedule.{Schedule}
use Rattle.sql_meaning.specs.Meaning.{View}
use Rattle.entry_model.specs.declared.entry.Entry.{Entry}
use Rattle.entry_model.specs.declared.entry.Entry.TheVariants.{Configured}
use Rattle.entry_model.specs.declared.restored.Restored.{Restored}
use Rattle.entry_model.specs.Legal.{Legal}
use Rattle.entry_model.specs.Summary.{summary}
use Rattle.entry_model.specs.Views.{view_of}
use Rattle.event_store.specs.Contents.{Shown, rows_in}
use Rattle.session_state.specs.Kept.{IsState, Kept}
use Rattle.session_state.specs.StateOf.{Adds, HasValues, IsStateOf}
use Rattle.session_state.specs.Computed.{shown_by}
use Rattle.session_state.proofs.Shown.{shows}
use Rattle.daemon_rounds.specs.Adding.{AddsEntries}
use Rattle.daemon_rounds.specs.Configuring.{Configures, IsScheduleOver, tables_of}
use Rattle.daemon_rounds.proofs.Adding.{all_free, brings_one}

-- the tables of a state are those of each list for which it stands
pub tables_same : (entries : List Entry) (state : Kept) (moment : ℕ) → IsState state → HasValues entries state → rows_in (shown_by state state.image.last moment) ≡ tables_of entries moment
tables_same entries state moment is has =
    let shown : rows_in (shown_by state state.image.last moment) ≡ view_of entries state.image.last moment = (λ i table. shows entries state is has state.image.last moment table i) in
    shown ∙ ap (λ (last : ℕ). view_of entries last moment) has.image.last

pub configures : (config : Config) (documents given : List (List ℕ)) (host : Host) (moment : ℕ) (old new : Kept) (view : Shown) (schedule : Schedule) → IsState old → given ≡ documents → old.counts.moment ≤ moment → view ≡ shown_by old old.image.last moment → IsScheduleOver config host (rows_in view) schedule
    → Adds old (Configured given schedule (max moment old.counts.moment)) new → new.claims ≡ replicate (length schedule.queries) false → Configures config documents host moment old new
configures config documents given host moment old new view schedule state same later shown is adds claims = record {
  schedule = schedule;
  of_state = over;
  of_list = λ base added stands before legal whole.
      subst (λ (view : View). IsScheduleOver config host view schedule) (tables_same (before ++ added) old moment state (stands.values before legal whole)) over;
  brings = brings_one old new (Configured documents schedule moment) (subst (λ (given : List (List ℕ)). Adds old (Configured given schedule moment) new) same (subst (λ (at : ℕ). Adds old (Configured given schedule at) new) latest adds)) (all_free old new (length schedule.queries) claims);
}
  where
    latest : max moment old.counts.moment ≡ moment
    latest = omega (arith, later)

    over : IsScheduleOver config host (rows_in (shown_by old old.image.last moment)) schedule
    over = subst (λ (view : Shown). IsScheduleOver config host (rows_in view) schedule) shown is
