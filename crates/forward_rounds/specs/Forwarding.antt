-- What forwarding behind a seal leaves.
use Rattle.std.specs.Prelude.{◌≡◌, ◌⊎◌, ◌≤◌, ◌<◌, ℕ, List, [], ◌∷◌, ◌++◌, length, map, Option}
use Rattle.osq_outside.specs.Causes.{Rose}
use Rattle.entry_model.specs.declared.entry.Entry.{Entry}
use Rattle.entry_model.specs.declared.entry.Entry.TheVariants.{Acked}
use Rattle.session_state.specs.Kept.{Kept}
use Rattle.session_model.specs.Working.{acks_of, marks_beyond}
use Rattle.batch_forwarder.specs.declared.link.Link as link_trait
use Rattle.batch_forwarder.specs.Frames.{frames_due}
use Rattle.batch_forwarder.specs.Polling.{AreMarks, POLLS}
use Rattle.batch_forwarder.specs.Sending.{SendsFront}

-- what a link tells: the frames that were sent, the answers that wait, and how often it failed
pub record View : Type 0 where
  pub sent : List (List ℕ)
  pub waiting : List (List ℕ)
  pub faults : ℕ

abbrev pub view_of : {L : Type 0} → link_trait.Ghosts L → L → View
view_of link object = record { sent = link.sent object; waiting = link.waiting object; faults = link.faults object }

-- each of these marks passes the one before, and none the number of the batches
abbrev pub AreBeyond : ℕ → ℕ → List ℕ → Type 0
AreBeyond mark batches [] = Unit {0}
AreBeyond mark batches (upto ∷ rest) = (mark < upto) × (upto ≤ batches) × AreBeyond upto batches rest

-- Behind this sealed list the first of the frames that are due were sent, and all of them unless the link failed. Then answers were polled: all that
-- waited, or as many as are polled at once, unless the link failed; and these are the marks that they give the host, one each. Each of the two parts that
-- isn't whole has made the link's count of faults rise between its own two readings of it.
pub record Forwards (tells : Type 0) (host : List ℕ) (kept : List Entry) (found : List (Option ℕ)) (before after : View) : Type 0 where
  pub between : ℕ
  pub earlier : before.faults ≤ between
  pub later : between ≤ after.faults
  pub front : tells → SendsFront (frames_due host kept) before.sent after.sent
  pub all : tells → (after.sent ≡ before.sent ++ frames_due host kept) ⊎ Rose before.faults between
  pub polled : List (List ℕ)
  pub waits : tells → before.waiting ≡ polled ++ after.waiting
  pub most : length polled ≤ POLLS
  pub whole : (length polled ≡ POLLS) ⊎ ((tells → after.waiting ≡ []) ⊎ Rose between after.faults)
  pub are : AreMarks host polled found

-- The marks that were answered are those of the marks found that move the state's; where the list is legal, they are what is acknowledged behind it.
pub record Forwarded (legal tells : Type 0) (host : List ℕ) (kept : List Entry) (state : Kept) (marks : List ℕ) (before after : View) : Type 0 where
  pub found : List (Option ℕ)
  pub marks_are : marks ≡ marks_beyond state.counts.acked state.counts.batches found
  pub acks_are : legal → map Acked marks ≡ acks_of kept found
  pub forwards : legal → Forwards tells host kept found before after
