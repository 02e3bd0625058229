-- What a collector has answered, and what a host acknowledges by it.
use Rattle.std.specs.Prelude.{◌≡◌, ℕ, ◌≤◌, List, ◌∷◌, ◌++◌}
use Rattle.entry_model.specs.declared.entry.Entry.{Entry}
use Rattle.entry_model.specs.declared.entry.Entry.TheVariants.{Acked}
use Rattle.collector_core.specs.Received.{HostDigests}
use Rattle.collector_answers.specs.declared.judging.Judged.{Judged}
use Rattle.collector_answers.specs.Lines.{line_of}
use Rattle.collector_answers.specs.Reads.{IsHeld}
use Rattle.collect_rounds.specs.Collecting.{after_lines, answer_in}

-- the line is the collector's answer to one of these lines, which come behind what is recorded
pub record WasAnswered (recorded : HostDigests) (judged : List Judged) (line : List ℕ) : Type 0 where
  pub before : List Judged
  pub one : Judged
  pub after : List Judged
  pub are : before ++ one ∷ after ≡ judged
  pub held : IsHeld (answer_in (after_lines recorded before) one)
  pub is : line ≡ line_of (answer_in (after_lines recorded before) one)

-- an acknowledgement of no more than so many
abbrev pub AcksWithin : ℕ → Entry → Type 0
AcksWithin most (Acked upto) = upto ≤ most
AcksWithin most entry = ⊥
