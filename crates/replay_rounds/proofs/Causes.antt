-- Why a run was refused.
use Rattle.std.proofs.Common.{◌≡◌, ◌≢◌, ℕ, List, Err, refl}
use Rattle.std.specs.Prelude.{Result}
use Rattle.daemon_rounds.specs.declared.error.FinishError.{FinishError}
use Rattle.daemon_rounds.specs.declared.error.FinishError.TheVariants as finish
use Rattle.daemon_rounds.specs.declared.error.OpenError.{OpenError}
use Rattle.daemon_rounds.specs.declared.error.OpenError.TheVariants as opening
use Rattle.daemon_rounds.specs.declared.error.TakeError.{TakeError}
use Rattle.daemon_rounds.specs.declared.error.TakeError.TheVariants as taking
use Rattle.entry_model.specs.declared.entry.Entry.{Entry}
use Rattle.replay_rounds.specs.Fixed.{Fixed}
use Rattle.session_state.specs.Kept.{Kept}
use Rattle.replay_rounds.specs.Refusals.{tick_numbers, unfilled_by, unfinished_by, unfinished_numbers, unloaded_by, unnoted_by, unopened_by}
use Rattle.replay_rounds.specs.Running.{IsWritten}
use Rattle.replay_rounds.specs.Stopping.{IsBehindLoading}
use Rattle.replay_rounds.specs.declared.loading.LoadError.{LoadError}
use Rattle.replay_rounds.specs.declared.loading.LoadError.TheVariants as loading
use Rattle.replay_rounds.specs.declared.noting.NoteError.{NoteError}
use Rattle.replay_rounds.specs.declared.noting.NoteError.TheVariants as noting
use Rattle.replay_rounds.specs.declared.refused.Numbers.{Numbers}
use Rattle.replay_rounds.specs.declared.refused.Refused.{Refused}
use Rattle.replay_rounds.specs.declared.refused.RunError.{RunError}
use Rattle.replay_rounds.specs.declared.refused.RunError.TheVariants as run

pub unfilled_fault : (e : TakeError) (place : ℕ) → unfilled_by e ≡ run.SourceFault place → e ≡ taking.SourceFault place
unfilled_fault (taking.SourceFault at) place h = cc
unfilled_fault taking.NumbersSpent place h = cc
unfilled_fault taking.NoMemory place h = cc

pub unfilled_spent : (e : TakeError) → unfilled_by e ≡ run.NumbersSpent → e ≡ taking.NumbersSpent
unfilled_spent (taking.SourceFault at) h = cc
unfilled_spent taking.NumbersSpent h = refl
unfilled_spent taking.NoMemory h = cc

pub unfilled_keeper : (e : TakeError) → unfilled_by e ≡ run.KeeperFault → ⊥
unfilled_keeper (taking.SourceFault at) h = cc
unfilled_keeper taking.NumbersSpent h = cc
unfilled_keeper taking.NoMemory h = cc

pub unfilled_sink : (e : TakeError) → unfilled_by e ≡ run.SinkFault → ⊥
unfilled_sink (taking.SourceFault at) h = cc
unfilled_sink taking.NumbersSpent h = cc
unfilled_sink taking.NoMemory h = cc

pub unfilled_refused : (e : TakeError) → unfilled_by e ≡ run.KeeperRefused → ⊥
unfilled_refused (taking.SourceFault at) h = cc
unfilled_refused taking.NumbersSpent h = cc
unfilled_refused taking.NoMemory h = cc

pub unfilled_late : (e : TakeError) (moment : ℕ) → unfilled_by e ≡ run.MomentTooLarge moment → ⊥
unfilled_late (taking.SourceFault at) moment h = cc
unfilled_late taking.NumbersSpent moment h = cc
unfilled_late taking.NoMemory moment h = cc

pub unfilled_shrank : (e : TakeError) (place kept found : ℕ) → unfilled_by e ≡ run.SourceShrank place kept found → ⊥
unfilled_shrank (taking.SourceFault at) place kept found h = cc
unfilled_shrank taking.NumbersSpent place kept found h = cc
unfilled_shrank taking.NoMemory place kept found h = cc

pub unfinished_spent : (e : FinishError) → unfinished_by e ≡ run.NumbersSpent → e ≡ finish.NumbersSpent
unfinished_spent finish.NumbersSpent h = refl
unfinished_spent finish.KeeperFault h = cc
unfinished_spent finish.SinkFault h = cc
unfinished_spent finish.NoMemory h = cc

pub unloaded_keeper : (e : LoadError) → unloaded_by e ≡ run.KeeperFault → e ≡ loading.KeeperFault
unloaded_keeper loading.KeeperFault h = refl
unloaded_keeper (loading.KeeperRefused kept) h = cc
unloaded_keeper loading.NoMemory h = cc

pub unfinished_keeper : (e : FinishError) → unfinished_by e ≡ run.KeeperFault → e ≡ finish.KeeperFault
unfinished_keeper finish.NumbersSpent h = cc
unfinished_keeper finish.KeeperFault h = refl
unfinished_keeper finish.SinkFault h = cc
unfinished_keeper finish.NoMemory h = cc

pub unfinished_sink : (e : FinishError) → unfinished_by e ≡ run.SinkFault → e ≡ finish.SinkFault
unfinished_sink finish.NumbersSpent h = cc
unfinished_sink finish.KeeperFault h = cc
unfinished_sink finish.SinkFault h = refl
unfinished_sink finish.NoMemory h = cc

pub unfinished_fault : (e : FinishError) (place : ℕ) → unfinished_by e ≡ run.SourceFault place → ⊥
unfinished_fault finish.NumbersSpent place h = cc
unfinished_fault finish.KeeperFault place h = cc
unfinished_fault finish.SinkFault place h = cc
unfinished_fault finish.NoMemory place h = cc

pub unfinished_refused : (e : FinishError) → unfinished_by e ≡ run.KeeperRefused → ⊥
unfinished_refused finish.NumbersSpent h = cc
unfinished_refused finish.KeeperFault h = cc
unfinished_refused finish.SinkFault h = cc
unfinished_refused finish.NoMemory h = cc

pub unfinished_late : (e : FinishError) (moment : ℕ) → unfinished_by e ≡ run.MomentTooLarge moment → ⊥
unfinished_late finish.NumbersSpent moment h = cc
unfinished_late finish.KeeperFault moment h = cc
unfinished_late finish.SinkFault moment h = cc
unfinished_late finish.NoMemory moment h = cc

pub unfinished_shrank : (e : FinishError) (place kept found : ℕ) → unfinished_by e ≡ run.SourceShrank place kept found → ⊥
unfinished_shrank finish.NumbersSpent place kept found h = cc
unfinished_shrank finish.KeeperFault place kept found h = cc
unfinished_shrank finish.SinkFault place kept found h = cc
unfinished_shrank finish.NoMemory place kept found h = cc

pub unopened_late : (e : OpenError) (moment : ℕ) → unopened_by e ≡ run.MomentTooLarge moment → e ≡ opening.MomentTooLarge moment
unopened_late (opening.MomentTooLarge other) moment h = cc
unopened_late (opening.SourceFault place) moment h = cc
unopened_late (opening.SourceShrank place kept found) moment h = cc
unopened_late opening.NumbersSpent moment h = cc
unopened_late opening.NoMemory moment h = cc

pub unopened_spent : (e : OpenError) → unopened_by e ≡ run.NumbersSpent → e ≡ opening.NumbersSpent
unopened_spent (opening.MomentTooLarge moment) h = cc
unopened_spent (opening.SourceFault place) h = cc
unopened_spent (opening.SourceShrank place kept found) h = cc
unopened_spent opening.NumbersSpent h = refl
unopened_spent opening.NoMemory h = cc

-- a session that isn't open, by its cause
pub unopened_fault : (e : OpenError) (place : ℕ) → unopened_by e ≡ run.SourceFault place → e ≡ opening.SourceFault place
unopened_fault (opening.MomentTooLarge moment) place h = cc
unopened_fault (opening.SourceFault at) place h = cc
unopened_fault (opening.SourceShrank at old read) place h = cc
unopened_fault opening.NumbersSpent place h = cc
unopened_fault opening.NoMemory place h = cc

pub unopened_shrank : (e : OpenError) (place kept found : ℕ) → unopened_by e ≡ run.SourceShrank place kept found → e ≡ opening.SourceShrank place kept found
unopened_shrank (opening.MomentTooLarge moment) place kept found h = cc
unopened_shrank (opening.SourceFault at) place kept found h = cc
unopened_shrank (opening.SourceShrank at old read) place kept found h = cc
unopened_shrank opening.NumbersSpent place kept found h = cc
unopened_shrank opening.NoMemory place kept found h = cc

pub unopened_keeper : (e : OpenError) → unopened_by e ≡ run.KeeperFault → ⊥
unopened_keeper (opening.MomentTooLarge moment) h = cc
unopened_keeper (opening.SourceFault at) h = cc
unopened_keeper (opening.SourceShrank at old read) h = cc
unopened_keeper opening.NumbersSpent h = cc
unopened_keeper opening.NoMemory h = cc

pub unopened_refused : (e : OpenError) → unopened_by e ≡ run.KeeperRefused → ⊥
unopened_refused (opening.MomentTooLarge moment) h = cc
unopened_refused (opening.SourceFault at) h = cc
unopened_refused (opening.SourceShrank at old read) h = cc
unopened_refused opening.NumbersSpent h = cc
unopened_refused opening.NoMemory h = cc

pub unopened_sink : (e : OpenError) → unopened_by e ≡ run.SinkFault → ⊥
unopened_sink (opening.MomentTooLarge moment) h = cc
unopened_sink (opening.SourceFault at) h = cc
unopened_sink (opening.SourceShrank at old read) h = cc
unopened_sink opening.NumbersSpent h = cc
unopened_sink opening.NoMemory h = cc

-- lines that aren't written say nothing of what else may fail
pub unnoted_keeper : (e : NoteError) → unnoted_by e ≡ run.KeeperFault → ⊥
unnoted_keeper noting.SinkFault h = cc
unnoted_keeper noting.NoMemory h = cc

pub unnoted_refused : (e : NoteError) → unnoted_by e ≡ run.KeeperRefused → ⊥
unnoted_refused noting.SinkFault h = cc
unnoted_refused noting.NoMemory h = cc

pub unnoted_late : (e : NoteError) (moment : ℕ) → unnoted_by e ≡ run.MomentTooLarge moment → ⊥
unnoted_late noting.SinkFault moment h = cc
unnoted_late noting.NoMemory moment h = cc

pub unnoted_fault : (e : NoteError) (place : ℕ) → unnoted_by e ≡ run.SourceFault place → ⊥
unnoted_fault noting.SinkFault place h = cc
unnoted_fault noting.NoMemory place h = cc

pub unnoted_shrank : (e : NoteError) (place kept found : ℕ) → unnoted_by e ≡ run.SourceShrank place kept found → ⊥
unnoted_shrank noting.SinkFault place kept found h = cc
unnoted_shrank noting.NoMemory place kept found h = cc

pub unnoted_spent : (e : NoteError) → unnoted_by e ≡ run.NumbersSpent → ⊥
unnoted_spent noting.SinkFault h = cc
unnoted_spent noting.NoMemory h = cc

-- the numbers of a tick that isn't filled
pub unfilled_numbers : (e : TakeError) (sealed : Numbers) (state : Kept) → tick_numbers (unfilled_by e) sealed state ≡ sealed
unfilled_numbers (taking.SourceFault at) sealed state = refl
unfilled_numbers taking.NumbersSpent sealed state = refl
unfilled_numbers taking.NoMemory sealed state = refl

-- and of one that isn't finished
pub finished_numbers : (e : FinishError) (sealed : Numbers) (state : Kept) → tick_numbers (unfinished_by e) sealed state ≡ unfinished_numbers e state sealed
finished_numbers finish.NumbersSpent sealed state = refl
finished_numbers finish.KeeperFault sealed state = refl
finished_numbers finish.SinkFault sealed state = refl
finished_numbers finish.NoMemory sealed state = refl

-- spent numbers are no fault of the keeper, and none of a sink
pub spent_not_keeper : (e : RunError) → e ≡ run.NumbersSpent → e ≢ run.KeeperFault
spent_not_keeper e spent h = cc

pub spent_not_sink : (e : RunError) → e ≡ run.NumbersSpent → e ≢ run.SinkFault
spent_not_sink e spent h = cc

-- what was written is told apart by whether the sink failed
pub by_sink : (e : RunError) (x : Fixed) (kept : List Entry) (written : List ℕ) → (e ≡ run.SinkFault → IsWritten x kept written) → (e ≢ run.SinkFault → IsWritten x kept written) → IsWritten x kept written
by_sink run.SinkFault x kept written fault other = fault refl
by_sink run.KeeperFault x kept written fault other = other (λ h. cc)
by_sink run.KeeperRefused x kept written fault other = other (λ h. cc)
by_sink (run.MomentTooLarge moment) x kept written fault other = other (λ h. cc)
by_sink (run.SourceFault place) x kept written fault other = other (λ h. cc)
by_sink (run.SourceShrank place old found) x kept written fault other = other (λ h. cc)
by_sink run.NumbersSpent x kept written fault other = other (λ h. cc)
by_sink run.NoMemory x kept written fault other = other (λ h. cc)

-- what is answered is the refusal
pub same_refusal : {A : Type 0} (x y : Refused) → ◌≡◌ {A = Result A Refused} (Err x) (Err y) → x ≡ y
same_refusal x y h = cc

pub not_loaded : (e : LoadError) → IsBehindLoading (unloaded_by e) → ⊥
not_loaded loading.KeeperFault behind = behind
not_loaded (loading.KeeperRefused kept) behind = behind
not_loaded loading.NoMemory behind = behind
