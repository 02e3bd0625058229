-- What answers tell of the acknowledged mark.
use Rattle.std.specs.Prelude.{◌≡◌, ◌⊎◌, ◌≤◌, ℕ, bytes_eq, if◌then◌else◌, List, [], ◌∷◌, ◌++◌, length, Option, Some, None, IfSome, option_and_then}
use Rattle.std.specs.Option.{option_to_list}
use Rattle.entry_model.specs.Values.{last_of}
use Rattle.collector_answers.specs.declared.answer.Answer.{Answer}
use Rattle.collector_answers.specs.declared.answer.Answer.TheVariants.{Recorded, Repeat, Gap, Conflict, Bad}
use Rattle.collector_answers.specs.Reads.{IsHeld, Reads}
use Rattle.session_model.specs.Working.{marks_beyond}
use Rattle.batch_forwarder.specs.declared.forwarder.Forwarder.{Forwarder}

-- the most answers that are polled at once
abbrev pub POLLS : ℕ
POLLS = 1000

abbrev pub mark_if : List ℕ → List ℕ → ℕ → Option ℕ
mark_if host told recorded = if bytes_eq told host then Some recorded else None

-- how many frames of this host are recorded, where the answer tells of it
abbrev pub mark_of : List ℕ → Answer → Option ℕ
mark_of host (Recorded told number recorded) = mark_if host told recorded
mark_of host (Repeat told number recorded) = mark_if host told recorded
mark_of host (Gap told number recorded) = mark_if host told recorded
mark_of host (Conflict told number recorded kept found) = mark_if host told recorded
mark_of host (Bad kind) = None

-- the mark that a line gives this host: none where it is the text of no answer, or of one that doesn't tell of this host
pub record IsMark (host line : List ℕ) (mark : Option ℕ) : Type 0 where
  pub answer : Option Answer
  pub reads : Reads line answer
  pub held : IfSome answer IsHeld
  pub is : mark ≡ option_and_then (mark_of host) answer

-- each line gives its mark
abbrev pub AreMarks : List ℕ → List (List ℕ) → List (Option ℕ) → Type 0
AreMarks host [] [] = Unit {0}
AreMarks host [] (mark ∷ marks) = ⊥
AreMarks host (line ∷ lines) [] = ⊥
AreMarks host (line ∷ lines) (mark ∷ marks) = IsMark host line mark × AreMarks host lines marks

-- the forwarder behind these marks, each above the one before
abbrev pub moved : Forwarder → List ℕ → Forwarder
moved forwarder marks = record forwarder { acked = last_of Some forwarder.acked marks }

-- of the marks found, those that move the forwarder's mark were added, in order, and the last of them is its mark now
pub record Marks (found : List (Option ℕ)) (old new : Forwarder) (before after : List ℕ) : Type 0 where
  pub added : after ≡ before ++ marks_beyond old.acked old.sealed found
  pub moves : new ≡ moved old (marks_beyond old.acked old.sealed found)

-- some of the answers that waited were polled, each gave what it tells of this host, and `lost` was polled behind them
pub record Polls (tells : Type 0) (host : List ℕ) (lost waiting left : List (List ℕ)) (old new : Forwarder) (before after : List ℕ) : Type 0 where
  pub polled : List (List ℕ)
  pub found : List (Option ℕ)
  pub waits : tells → waiting ≡ polled ++ (lost ++ left)
  pub most : length polled ≤ POLLS
  pub are : AreMarks host polled found
  pub marks : Marks found old new before after

-- all of them, or as many as are polled at once, where the link didn't fail
pub record PollsAll (tells failed : Type 0) (host : List ℕ) (waiting left : List (List ℕ)) (old new : Forwarder) (before after : List ℕ) : Type 0 where
  pub polls : Polls tells host [] waiting left old new before after
  pub whole : (length polls.polled ≡ POLLS) ⊎ ((tells → left ≡ []) ⊎ failed)

-- memory was wanting: at most one answer was polled that gave nothing
abbrev pub PollsPart : Type 0 → List ℕ → List (List ℕ) → List (List ℕ) → Forwarder → Forwarder → List ℕ → List ℕ → Type 0
PollsPart tells host waiting left old new before after = (lost : Option (List ℕ)) × Polls tells host (option_to_list lost) waiting left old new before after
