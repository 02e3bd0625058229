-- What the status stream has of a run, from what its parts wrote one after another.
use Rattle.std.proofs.Common.{◌≡◌, ◌⊎◌, inl, inr, ℕ, ◌+◌, zero, suc, List, [], ◌∷◌, ◌++◌, length, take, refl, sym, ap, ◌∙◌, append_assoc, subst}
use Rattle.std.proofs.Math.Seq.{take-append-add}
use Rattle.osq_program.specs.declared.configuration.Unconfigured.{Unconfigured}
use Rattle.osq_program.specs.declared.configuration.Unconfigured.TheVariants.{Unread, Refused}
use Rattle.osq_program.specs.declared.status.Status.{Status}
use Rattle.osq_program.specs.declared.status.Status.TheVariants.{Ok as Done, Usage, FilesFault, ConfigRefused, KeeperFault, KeeperRefused, MomentTooLarge, SourceFault, SourceShrank, NumbersSpent, SinkFault, TicksSpent, QueryRefused, OutOfMemory}
use Rattle.replay_rounds.specs.declared.refused.Numbers.{Numbers}
use Rattle.osq_program.specs.Answers.{Causes, IsCaused, IsDoneStatus, IsRefusal, IsSpentStatus, IsUsageStatus, no_causes, status_number}
use Rattle.osq_program.specs.Report.{EndsAs, HasFields, IsRefusedAs, IsUnread, Tells, final_line, refusal_line, unread_line, unread_text}
use Rattle.osq_program.specs.Telling.{TellsAlone, TellsEnd, TellsSome}
use Rattle.osq_program.specs.Unconfigured.{IsAnswered, IsCausedBy, unconfigured_text}
use Rattle.osq_program.specs.Observed.{Observed}

-- a front part of a text is one of it with more behind it
pub front_more : (count : ℕ) (xs ys : List ℕ) → (n : ℕ) × (take count xs ≡ take n (xs ++ ys))
front_more zero xs ys = (0, refl)
front_more (suc count) [] ys = (0, refl)
front_more (suc count) (x ∷ xs) ys =
    let (n, is) = front_more count xs ys in
    (suc n, ap (λ (l : List ℕ). x ∷ l) is)

-- a text that was written behind another one
pub tells_behind : (failed more : Type 0) (before between after front text : List ℕ) → between ≡ before ++ front → (failed → more) → Tells failed between after text → Tells more before after (front ++ text)
tells_behind failed more before between after front text was rise (inl is) =
    inl (is ∙ ap (λ (b : List ℕ). b ++ text) was ∙ append_assoc before front text)
tells_behind failed more before between after front text was rise (inr (fault, (count, is))) =
    inr (rise fault, (length front + count, is ∙ ap (λ (b : List ℕ). b ++ take count text) was ∙ append_assoc before front (take count text) ∙ ap (λ (t : List ℕ). before ++ t) (sym (take-append-add front text count))))

-- what holds of a refusal and of want of memory holds of its answer
pub as_refused : (P : Status → Type 0) (refused status : Status) → IsRefusedAs refused status → P refused → P OutOfMemory → P status
as_refused P refused status (inl is) same wanting = subst P (sym is) same
as_refused P refused status (inr (fields, is)) same wanting = subst P (sym is) wanting

-- the same of one that is told with a final line
pub as_stopped : (P : Status → Type 0) (stopped status : Status) → (status ≡ stopped) ⊎ (status ≡ OutOfMemory) → P stopped → P OutOfMemory → P status
as_stopped P stopped status (inl is) same wanting = subst P (sym is) same
as_stopped P stopped status (inr is) same wanting = subst P (sym is) wanting

-- a status without fields is answered as it is
pub as_plain : (refused status : Status) → (HasFields refused → ⊥) → IsRefusedAs refused status → status ≡ refused
as_plain refused status plain (inl is) = is
as_plain refused status plain (inr (fields, is)) = absurd (plain fields)

-- a cause of a refusal is one of its answer
pub refused_cause : (c : Causes) (refused status : Status) → IsRefusedAs refused status → IsCaused c refused → IsCaused c status
refused_cause c refused status is caused = as_refused (IsCaused c) refused status is caused tt

pub stopped_cause : (c : Causes) (stopped status : Status) → (status ≡ stopped) ⊎ (status ≡ OutOfMemory) → IsCaused c stopped → IsCaused c status
stopped_cause c stopped status is caused = as_stopped (IsCaused c) stopped status is caused tt

more_files : (failed : Type 0) (R : List ℕ → List ℕ → Type 0) (s : Status) → IsCaused (record no_causes { refused = R }) s → IsCaused (record no_causes { files = failed; refused = R }) s
more_files failed R Done caused = caused
more_files failed R Usage caused = caused
more_files failed R FilesFault caused = absurd caused
more_files failed R (ConfigRefused kind key) caused = caused
more_files failed R KeeperFault caused = caused
more_files failed R KeeperRefused caused = caused
more_files failed R (MomentTooLarge moment) caused = caused
more_files failed R (SourceFault name) caused = caused
more_files failed R (SourceShrank name kept found) caused = caused
more_files failed R NumbersSpent caused = caused
more_files failed R SinkFault caused = caused
more_files failed R TicksSpent caused = caused
more_files failed R (QueryRefused place kind) caused = caused
more_files failed R OutOfMemory caused = tt

-- the answer where there is no configuration is caused by that
pub unconfigured_cause : (failed : Type 0) (is_file : List ℕ → Type 0) (R : List ℕ → List ℕ → Type 0) (refused : Unconfigured) (status : Status) → IsCausedBy failed is_file R refused → IsAnswered refused status → IsCaused (record no_causes { files = failed; refused = R }) status
unconfigured_cause failed is_file R (Unread file) status (rose, is) (inl same) = subst (IsCaused (record no_causes { files = failed; refused = R })) (sym same) rose
unconfigured_cause failed is_file R (Unread file) status (rose, is) (inr same) = subst (IsCaused (record no_causes { files = failed; refused = R })) (sym same) tt
unconfigured_cause failed is_file R (Refused s) status caused answered = refused_cause (record no_causes { files = failed; refused = R }) s status answered (more_files failed R s caused)

module _ (may : Status → List ℕ → Type 0) (seen : Observed) where
  -- its line alone
  pub tells_line : (status : Status) → may status [] → (seen.sink_tells → Tells seen.status_failed seen.status_before seen.status_after (refusal_line status)) → TellsSome may seen status
  tells_line status is told = record { front = []; before = is; behind = told }

  -- a file that can't be read
  pub tells_unread : (file : List ℕ) (status : Status) → IsUnread status → may FilesFault (unread_line file) → may OutOfMemory [] → (seen.sink_tells → Tells seen.status_failed seen.status_before seen.status_after (unread_text file status)) → TellsSome may seen status
  tells_unread file status (inl is) unread wanting told =
      subst (TellsSome may seen) (sym is) (record { front = unread_line file; before = unread; behind = λ tells. subst (λ (s : Status). Tells seen.status_failed seen.status_before seen.status_after (unread_text file s)) is (told tells) })
  tells_unread file status (inr is) unread wanting told =
      subst (TellsSome may seen) (sym is) (record { front = []; before = wanting; behind = λ tells. subst (λ (s : Status). Tells seen.status_failed seen.status_before seen.status_after (unread_text file s)) is (told tells) })

  -- no configuration
  pub tells_unconfigured : (failed : Type 0) (is_file : List ℕ → Type 0) (R : List ℕ → List ℕ → Type 0) (refused : Unconfigured) (status : Status) → IsCausedBy failed is_file R refused → IsAnswered refused status
      → ((file : List ℕ) → is_file file → may FilesFault (unread_line file)) → ((s : Status) → IsCaused (record no_causes { refused = R }) s → may s [])
      → (seen.sink_tells → Tells seen.status_failed seen.status_before seen.status_after (unconfigured_text refused status)) → TellsSome may seen status
  tells_unconfigured failed is_file R (Unread file) status (rose, is) answered unread alone told =
      tells_unread file status answered (unread file is) (alone OutOfMemory tt) told
  tells_unconfigured failed is_file R (Refused s) status caused answered unread alone told =
      tells_line status (as_refused (λ (s : Status). may s []) s status answered (alone s caused) (alone OutOfMemory tt)) told

  -- these lines could not be written
  pub tells_part : (front : List ℕ) → may SinkFault front → seen.status_failed → (seen.sink_tells → (count : ℕ) × (seen.status_after ≡ seen.status_before ++ take count front)) → TellsSome may seen SinkFault
  tells_part front is failed part = record {
    front = front;
    before = is;
    behind = λ tells.
        let (count, after) = part tells in
        let (n, same) = front_more count front (refusal_line SinkFault) in
        inr (failed, (n, after ∙ ap (λ (t : List ℕ). seen.status_before ++ t) same));
  }

  -- these were, and behind them the line of the status
  pub tells_more : (front : List ℕ) (status : Status) (failed : Type 0) (between : List ℕ) → may status front → (failed → seen.status_failed) → (seen.sink_tells → between ≡ seen.status_before ++ front)
      → (seen.sink_tells → Tells failed between seen.status_after (refusal_line status)) → TellsSome may seen status
  tells_more front status failed between is more was told =
      record { front = front; before = is; behind = λ tells. tells_behind failed seen.status_failed seen.status_before between seen.status_after front (refusal_line status) (was tells) more (told tells) }

  -- the same of the answer to a refusal
  pub tells_refused : (refused status : Status) → IsRefusedAs refused status → may refused [] → may OutOfMemory [] → (seen.sink_tells → Tells seen.status_failed seen.status_before seen.status_after (refusal_line status)) → TellsSome may seen status
  tells_refused refused status is same wanting told = tells_line status (as_refused (λ (s : Status). may s []) refused status is same wanting) told

  pub tells_more_refused : (front : List ℕ) (refused status : Status) (failed : Type 0) (between : List ℕ) → IsRefusedAs refused status → may refused front → may OutOfMemory front → (failed → seen.status_failed)
      → (seen.sink_tells → between ≡ seen.status_before ++ front) → (seen.sink_tells → Tells failed between seen.status_after (refusal_line status)) → TellsSome may seen status
  tells_more_refused front refused status failed between is same wanting more was told =
      tells_more front status failed between (as_refused (λ (s : Status). may s front) refused status is same wanting) more was told

  -- a status that carries nothing
  pub tells_more_plain : (front : List ℕ) (refused status : Status) (failed : Type 0) (between : List ℕ) → (HasFields refused → ⊥) → IsRefusedAs refused status → may refused front → (failed → seen.status_failed)
      → (seen.sink_tells → between ≡ seen.status_before ++ front) → (seen.sink_tells → Tells failed between seen.status_after (refusal_line status)) → TellsSome may seen status
  tells_more_plain front refused status failed between plain is same more was told =
      tells_more front status failed between (subst (λ (s : Status). may s front) (sym (as_plain refused status plain is)) same) more was told

  -- behind these lines others could not be written
  pub tells_part_behind : (front rest : List ℕ) (failed : Type 0) (between : List ℕ) → may SinkFault (front ++ rest) → failed → (failed → seen.status_failed) → (seen.sink_tells → between ≡ seen.status_before ++ front)
      → (seen.sink_tells → (count : ℕ) × (seen.status_after ≡ between ++ take count rest)) → TellsSome may seen SinkFault
  tells_part_behind front rest failed between is fault more was part =
      tells_part (front ++ rest) is (more fault) (λ tells.
      let (count, after) = part tells in
      (length front + count, after ∙ ap (λ (b : List ℕ). b ++ take count rest) (was tells) ∙ append_assoc seen.status_before front (take count rest) ∙ ap (λ (t : List ℕ). seen.status_before ++ t) (sym (take-append-add front rest count))))

  -- as it is, whether or not the command is done
  pub tells_end : (status : Status) → TellsSome may seen status → TellsEnd may seen status
  tells_end status some = record { tells = λ short. some }

-- nothing but its line
pub tells_alone : (seen : Observed) (status : Status) → (seen.sink_tells → Tells seen.status_failed seen.status_before seen.status_after (refusal_line status)) → TellsAlone seen status
tells_alone seen status told = record { tells = λ short. record { front = []; before = refl; behind = told } }

-- the same text, or the line of the same status
pub text_is : (failed : Type 0) (before after text wanted : List ℕ) → text ≡ wanted → Tells failed before after text → Tells failed before after wanted
text_is failed before after text wanted is told = subst (Tells failed before after) is told

pub line_is : (failed : Type 0) (before after : List ℕ) (s r : Status) → r ≡ s → Tells failed before after (refusal_line s) → Tells failed before after (refusal_line r)
line_is failed before after s r is told = subst (λ (s : Status). Tells failed before after (refusal_line s)) (sym is) told

pub plain_or_wanting : (refused status : Status) → IsRefusedAs refused status → (status ≡ refused) ⊎ (status ≡ OutOfMemory)
plain_or_wanting refused status (inl is) = inl is
plain_or_wanting refused status (inr (fields, is)) = inr is

pub with_fields : (refused status : Status) → HasFields refused → (status ≡ refused) ⊎ (status ≡ OutOfMemory) → IsRefusedAs refused status
with_fields refused status fields (inl is) = inl is
with_fields refused status fields (inr is) = inr (fields, is)

-- memory was wanting, and that was told
pub starved : (failed : Type 0) (before after : List ℕ) (status : Status) → status ≡ OutOfMemory → Tells failed before after (refusal_line OutOfMemory) → ((status ≡ OutOfMemory) × (after ≡ before ++ refusal_line status)) ⊎ failed
starved failed before after status is (inl told) = inl (is, told ∙ ap (λ (s : Status). before ++ refusal_line s) (sym is))
starved failed before after status is (inr (fault, part)) = inr fault

pub starved_end : (failed : Type 0) (before after : List ℕ) (refused status : Status) (kept : Numbers) (faults : ℕ) → status ≡ OutOfMemory → Tells failed before after (refusal_line OutOfMemory) → EndsAs before after refused status kept faults ⊎ failed
starved_end failed before after refused status kept faults is (inl told) = inl (inr (is, told ∙ ap (λ (s : Status). before ++ refusal_line s) (sym is)))
starved_end failed before after refused status kept faults is (inr (fault, part)) = inr fault

-- both lines were written
pub whole_end : (failed : Type 0) (before after text : List ℕ) (status : Status) (kept : Numbers) (faults : ℕ) → text ≡ refusal_line status ++ final_line (status_number status) kept faults → Tells failed before after text → EndsAs before after status status kept faults ⊎ failed
whole_end failed before after text status kept faults is (inl told) = inl (inl (refl, told ∙ ap (λ (t : List ℕ). before ++ t) is))
whole_end failed before after text status kept faults is (inr (fault, part)) = inr fault

-- the end of a session whose ticks are spent
module _ (failed : Type 0) (before after : List ℕ) (status : Status) (kept : Numbers) (faults : ℕ) where
  pub spent_end : EndsAs before after TicksSpent status kept faults ⊎ failed → IsSpentStatus status → (after ≡ before ++ (refusal_line TicksSpent ++ final_line 11 kept faults)) ⊎ failed
  spent_end (inl (inl (same, told))) spent = inl told
  spent_end (inl (inr (wanting, told))) spent = absurd (subst IsSpentStatus wanting spent)
  spent_end (inr fault) spent = inr fault

  pub wanting_end : EndsAs before after TicksSpent status kept faults ⊎ failed → IsRefusal status → ((status ≡ OutOfMemory) × (after ≡ before ++ refusal_line status)) ⊎ failed
  wanting_end (inl (inl (same, told))) refusal = absurd (subst IsRefusal same refusal)
  wanting_end (inl (inr (wanting, told))) refusal = inl (wanting, told)
  wanting_end (inr fault) refusal = inr fault

pub spent_not_done : (status : Status) → (status ≡ TicksSpent) ⊎ (status ≡ OutOfMemory) → IsDoneStatus status → ⊥
spent_not_done status (inl is) done = subst IsDoneStatus is done
spent_not_done status (inr is) done = subst IsDoneStatus is done

pub spent_not_usage : (status : Status) → (status ≡ TicksSpent) ⊎ (status ≡ OutOfMemory) → IsUsageStatus status → ⊥
spent_not_usage status (inl is) usage = subst IsUsageStatus is usage
spent_not_usage status (inr is) usage = subst IsUsageStatus is usage

pub spent_caused : (status : Status) → (status ≡ TicksSpent) ⊎ (status ≡ OutOfMemory) → IsRefusal status → IsCaused no_causes status
spent_caused status (inl is) refusal = absurd (subst IsRefusal is refusal)
spent_caused status (inr is) refusal = subst (IsCaused no_causes) (sym is) tt
