-- What the answer to a session says of its keeper.
use Rattle.std.proofs.Common.{◌≡◌, List, refl, sym, ◌∙◌, subst, inl, inr}
use Rattle.std.specs.Prelude.{◌⊎◌}
use Rattle.osq_value.specs.declared.source.SourceName.{SourceName}
use Rattle.replay_rounds.specs.declared.refused.RunError.{RunError}
use Rattle.replay_rounds.specs.declared.refused.RunError.TheVariants as running
use Rattle.osq_program.specs.declared.status.Status.{Status}
use Rattle.osq_program.specs.declared.status.Status.TheVariants.{KeeperFault, OutOfMemory}
use Rattle.osq_program.specs.Answers.{Causes, IsCaused, IsDoneStatus, IsRefusal}
use Rattle.osq_program.specs.Ending.{IsAnswerTo}

-- a refusal is no session that was done
pub answer_not_done : (sources : List SourceName) (error : RunError) (status : Status) → IsAnswerTo sources error status → IsDoneStatus status → ⊥
answer_not_done sources running.KeeperFault status is done = subst IsDoneStatus is done
answer_not_done sources running.KeeperRefused status is done = subst IsDoneStatus is done
answer_not_done sources (running.MomentTooLarge moment) status is done = subst IsDoneStatus is done
answer_not_done sources (running.SourceFault place) status (inl is) done = subst IsDoneStatus is done
answer_not_done sources (running.SourceFault place) status (inr (name, named, is)) done = subst IsDoneStatus is done
answer_not_done sources (running.SourceShrank place kept found) status (inl is) done = subst IsDoneStatus is done
answer_not_done sources (running.SourceShrank place kept found) status (inr (name, named, is)) done = subst IsDoneStatus is done
answer_not_done sources running.NumbersSpent status is done = subst IsDoneStatus is done
answer_not_done sources running.SinkFault status is done = subst IsDoneStatus is done
answer_not_done sources running.NoMemory status is done = subst IsDoneStatus is done

-- the keeper's fault is the answer to that alone
pub answer_keeper : (sources : List SourceName) (error : RunError) (status : Status) → IsAnswerTo sources error status → status ≡ KeeperFault → error ≡ running.KeeperFault
answer_keeper sources running.KeeperFault status is fault = refl
answer_keeper sources running.KeeperRefused status is fault = cc
answer_keeper sources (running.MomentTooLarge moment) status is fault = cc
answer_keeper sources (running.SourceFault place) status (inl is) fault = cc
answer_keeper sources (running.SourceFault place) status (inr (name, named, is)) fault = cc
answer_keeper sources (running.SourceShrank place kept found) status (inl is) fault = cc
answer_keeper sources (running.SourceShrank place kept found) status (inr (name, named, is)) fault = cc
answer_keeper sources running.NumbersSpent status is fault = cc
answer_keeper sources running.SinkFault status is fault = cc
answer_keeper sources running.NoMemory status is fault = cc

-- the same where the line of the answer wanted memory
pub stopped_not_done : (status result : Status) → (result ≡ status) ⊎ (result ≡ OutOfMemory) → (IsDoneStatus status → ⊥) → IsDoneStatus result → ⊥
stopped_not_done status result (inl same) not done = not (subst IsDoneStatus same done)
stopped_not_done status result (inr starved) not done = subst IsDoneStatus starved done

pub stopped_keeper : (status result : Status) → (result ≡ status) ⊎ (result ≡ OutOfMemory) → result ≡ KeeperFault → status ≡ KeeperFault
stopped_keeper status result (inl same) fault = sym same ∙ fault
stopped_keeper status result (inr starved) fault = cc

-- the keeper's fault has its cause
pub caused_keeper : (c : Causes) (status : Status) → IsCaused c status → status ≡ KeeperFault → c.keeper
caused_keeper c status caused fault = subst (IsCaused c) fault caused

pub refused_keeper : (c : Causes) (status : Status) → (IsRefusal status → IsCaused c status) → status ≡ KeeperFault → c.keeper
refused_keeper c status caused fault = caused_keeper c status (caused (subst IsRefusal (sym fault) tt)) fault

pub starved_keeper : (status : Status) → status ≡ OutOfMemory → status ≡ KeeperFault → ⊥
starved_keeper status starved fault = cc
