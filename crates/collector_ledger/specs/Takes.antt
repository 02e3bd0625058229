-- One line is taken.
use Rattle.std.specs.Prelude.{◌≡◌, ℕ, List, [], ◌∷◌}
use Rattle.collector_core.specs.Received.{HostDigests, all_received}
use Rattle.collector_answers.specs.declared.judging.Judged.{Judged}
use Rattle.collector_answers.specs.Judging.{IsJudged, frames_of}

pub record TakesLine (before : HostDigests) (line : List ℕ) (after : HostDigests) : Type 0 where
  pub judged : Judged
  pub is : IsJudged line judged
  pub after_is : (host : List ℕ) → after host ≡ all_received before (frames_of (judged ∷ [])) host
