-- What a session that ended early knows of its kept list.
use Rattle.std.proofs.Common.{◌≡◌, ◌≢◌, ℕ, List, [], Option, Some, refl, sym, ap, subst}
use Rattle.entry_model.specs.declared.entry.Entry.{Entry}
use Rattle.entry_model.specs.declared.restored.Restored.{Restored}
use Rattle.entry_model.specs.Summary.{summary}
use Rattle.session_state.specs.Kept.{Kept}
use Rattle.replay_rounds.specs.Fixed.{Fixed, Run}
use Rattle.replay_rounds.specs.Linking.{IsUnforwarded}
use Rattle.replay_rounds.specs.Noting.{IsBetween}
use Rattle.replay_rounds.specs.Refusals.{numbers_in, numbers_of, tick_numbers, unloaded_by, unloaded_numbers}
use Rattle.replay_rounds.specs.Stopping.{AreNumbersFor, AreNumbersOf, AreSealed, HasNumbers, Stops}
use Rattle.replay_rounds.specs.declared.loading.LoadError.{LoadError}
use Rattle.replay_rounds.specs.declared.loading.LoadError.TheVariants as loading
use Rattle.replay_rounds.specs.declared.refused.Numbers.{Numbers}
use Rattle.replay_rounds.specs.declared.refused.Refused.{Refused}
use Rattle.replay_rounds.specs.declared.refused.RunError.{RunError}
use Rattle.replay_rounds.specs.declared.refused.RunError.TheVariants as run

-- values have the numbers of the list that they are of
pub summary_numbers : (restored : Restored) (list : List Entry) → restored ≡ summary list → HasNumbers list (numbers_in restored)
summary_numbers restored list is = record {
  events = ap (λ (r : Restored). r.last) is;
  batches = ap (λ (r : Restored). r.batches) is;
  acknowledged = ap (λ (r : Restored). r.acked) is;
}

-- from which refusal of the values that of the session comes
pub unloaded_refused : (e : LoadError) → unloaded_by e ≡ run.KeeperRefused → (kept : Numbers) × (e ≡ loading.KeeperRefused kept)
unloaded_refused loading.KeeperFault h = absurd (cc)
unloaded_refused (loading.KeeperRefused kept) h = (kept, refl)
unloaded_refused loading.NoMemory h = absurd (cc)

module _ (x : Fixed) (has_read : List ℕ → Type 0) (kept : List Entry) where
  abbrev ran : Run
  ran = record { fixed = x; has_read = has_read }

  pub loaded_numbers : (restored : Restored) → (x.keeper_tells → restored ≡ summary x.start) → (x.keeper_tells → kept ≡ x.start) → AreNumbersOf x kept (numbers_in restored)
  loaded_numbers restored same kept_is = λ tells legal.
      subst (λ (list : List Entry). HasNumbers list (numbers_in restored)) (sym (kept_is tells)) (summary_numbers restored x.start (same tells))

  unloaded : (untold : Type 0) (e : LoadError) → has_read [] → untold → (x.keeper_tells → (n : Numbers) → e ≡ loading.KeeperRefused n → HasNumbers kept n) → Stops ran kept untold (unloaded_by e) (unloaded_numbers e)
  unloaded untold loading.KeeperFault read same numbers = (tt, read, same)
  unloaded untold (loading.KeeperRefused n) read same numbers = (read, λ tells. numbers tells n refl)
  unloaded untold loading.NoMemory read same numbers = (tt, read, same)

  -- where the list wasn't loaded, or no session may go on from it
  pub unloaded_stops : (untold : Type 0) (e : LoadError) (refused : Refused) → refused.error ≡ unloaded_by e → refused.numbers ≡ unloaded_numbers e → has_read [] → untold
      → (x.keeper_tells → (n : Numbers) → e ≡ loading.KeeperRefused n → HasNumbers kept n) → Stops ran kept untold refused.error refused.numbers
  unloaded_stops untold e refused error_is numbers_are read same numbers =
      subst (λ (error : RunError). Stops ran kept untold error refused.numbers) (sym error_is)
      (subst (λ (known : Option Numbers). Stops ran kept untold (unloaded_by e) known) (sym numbers_are) (unloaded untold e read same numbers))

  -- with numbers
  pub stops_with : (untold : Type 0) (error : RunError) (known : Option Numbers) (numbers : Numbers) → known ≡ Some numbers → AreNumbersFor error ran kept numbers → Stops ran kept untold error known
  stops_with untold error known numbers is are = subst (λ (known : Option Numbers). Stops ran kept untold error known) (sym is) are

  -- those of the list, where neither the keeper failed nor its values were refused
  pub numbers_for : (e : RunError) (numbers : Numbers) → e ≢ run.KeeperFault → e ≢ run.KeeperRefused → AreNumbersOf x kept numbers → AreNumbersFor e ran kept numbers
  numbers_for run.KeeperFault numbers kept_well loaded are = absurd (kept_well refl)
  numbers_for run.KeeperRefused numbers kept_well loaded are = absurd (loaded refl)
  numbers_for (run.MomentTooLarge moment) numbers kept_well loaded are = are
  numbers_for (run.SourceFault place) numbers kept_well loaded are = are
  numbers_for (run.SourceShrank place had found) numbers kept_well loaded are = are
  numbers_for run.NumbersSpent numbers kept_well loaded are = are
  numbers_for run.SinkFault numbers kept_well loaded are = are
  numbers_for run.NoMemory numbers kept_well loaded are = are

  -- behind a tick, where the session doesn't forward, or the last acknowledgements aren't sealed
  numbers_linked : (failed : Type 0) (e : RunError) (numbers : Numbers) → IsUnforwarded failed e → AreSealed ran kept numbers → (e ≢ run.KeeperFault → AreNumbersOf x kept numbers) → AreNumbersFor e ran kept numbers
  numbers_linked failed run.KeeperFault numbers is before none = before
  numbers_linked failed run.KeeperRefused numbers is before none = absurd is
  numbers_linked failed (run.MomentTooLarge moment) numbers is before none = absurd is
  numbers_linked failed (run.SourceFault place) numbers is before none = absurd is
  numbers_linked failed (run.SourceShrank place had found) numbers is before none = absurd is
  numbers_linked failed run.NumbersSpent numbers is before none = absurd is
  numbers_linked failed run.SinkFault numbers is before none = absurd is
  numbers_linked failed run.NoMemory numbers is before none = none (λ h. cc)

  pub linked_stops : (untold failed : Type 0) (refused answered : Refused) (numbers : Numbers) → answered ≡ refused → refused.numbers ≡ Some numbers → IsUnforwarded failed refused.error → AreSealed ran kept numbers → (refused.error ≢ run.KeeperFault → AreNumbersOf x kept numbers) → Stops ran kept untold answered.error answered.numbers
  linked_stops untold failed refused answered numbers same has is before none =
      subst (λ (r : Refused). Stops ran kept untold r.error r.numbers) (sym same) (stops_with untold refused.error refused.numbers numbers has (numbers_linked failed refused.error numbers is before none))

  -- between two ticks
  pub numbers_between : (late : ℕ → Type 0) (sink : Type 0) (e : RunError) (numbers : Numbers) → IsBetween late sink e → AreNumbersOf x kept numbers → AreNumbersFor e ran kept numbers
  numbers_between late sink run.KeeperFault numbers is are = absurd is
  numbers_between late sink run.KeeperRefused numbers is are = absurd is
  numbers_between late sink (run.MomentTooLarge moment) numbers is are = are
  numbers_between late sink (run.SourceFault place) numbers is are = are
  numbers_between late sink (run.SourceShrank place had found) numbers is are = are
  numbers_between late sink run.NumbersSpent numbers is are = are
  numbers_between late sink run.SinkFault numbers is are = are
  numbers_between late sink run.NoMemory numbers is are = are

  -- in a tick
  pub numbers_in_tick : (e : RunError) (sealed : Numbers) (new : Kept) → e ≢ run.KeeperRefused → (e ≡ run.KeeperFault → AreSealed ran kept sealed) → (e ≡ run.SinkFault → AreNumbersOf x kept (numbers_of new))
      → (e ≢ run.KeeperFault → e ≢ run.SinkFault → AreNumbersOf x kept sealed) → AreNumbersFor e ran kept (tick_numbers e sealed new)
  numbers_in_tick run.KeeperFault sealed new loaded before behind none = before refl
  numbers_in_tick run.KeeperRefused sealed new loaded before behind none = absurd (loaded refl)
  numbers_in_tick (run.MomentTooLarge moment) sealed new loaded before behind none = none (λ h. cc) (λ h. cc)
  numbers_in_tick (run.SourceFault place) sealed new loaded before behind none = none (λ h. cc) (λ h. cc)
  numbers_in_tick (run.SourceShrank place had found) sealed new loaded before behind none = none (λ h. cc) (λ h. cc)
  numbers_in_tick run.NumbersSpent sealed new loaded before behind none = none (λ h. cc) (λ h. cc)
  numbers_in_tick run.SinkFault sealed new loaded before behind none = behind refl
  numbers_in_tick run.NoMemory sealed new loaded before behind none = none (λ h. cc) (λ h. cc)

  -- the same of a refusal that is answered so
  pub tick_stops : (untold : Type 0) (refused answered : Refused) (sealed : Numbers) (new : Kept) → answered ≡ refused → refused.numbers ≡ Some (tick_numbers refused.error sealed new) → refused.error ≢ run.KeeperRefused
      → (refused.error ≡ run.KeeperFault → AreSealed ran kept sealed)
      → (refused.error ≡ run.SinkFault → AreNumbersOf x kept (numbers_of new))
      → (refused.error ≢ run.KeeperFault → refused.error ≢ run.SinkFault → AreNumbersOf x kept sealed) → Stops ran kept untold answered.error answered.numbers
  tick_stops untold refused answered sealed new same numbers loaded before behind none =
      subst (λ (r : Refused). Stops ran kept untold r.error r.numbers) (sym same)
      (stops_with untold refused.error refused.numbers (tick_numbers refused.error sealed new) numbers (numbers_in_tick refused.error sealed new loaded before behind none))
