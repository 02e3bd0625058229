-- What a state knows of a cut that was made of it, whatever was added since.
use Rattle.std.specs.Prelude.{◌≡◌, ℕ, ◌≤◌, true, find, nat_le, slice_get, Option, Some, None}
use Rattle.pack_rules.specs.declared.schedule.Scheduled.{Scheduled}
use Rattle.query_cursors.specs.Due.{is_due_by, number_of}
use Rattle.session_state.specs.Kept.{Kept}
use Rattle.session_state.specs.Cut.{CutValue}

-- the first Configured or Ticked entry of the session from this position on
abbrev pub mark_from : Kept → ℕ → Option ℕ
mark_from s position = find (λ (mark : ℕ). nat_le position mark) s.marks

-- it is the tick of the cut, whose query stands in the schedule, and is due while it has no later batch
pub record IsCurrent (s : Kept) (cut : CutValue) : Type 0 where
  pub ticked : s.ticked ≡ true
  pub now : s.counts.moment ≡ cut.moment
  pub scheduled : Scheduled
  pub stands : slice_get s.schedule.queries cut.place ≡ Some scheduled
  pub key : scheduled.key ≡ cut.key
  pub due : number_of s.counts.runs cut.key ≡ cut.last → is_due_by s.counts.runs s.counts.moment scheduled ≡ true

-- the cut was made of the state, or of one that it was before
pub record IsCutOf (s : Kept) (cut : CutValue) : Type 0 where
  pub past : cut.position ≤ s.counts.position
  pub known : cut.last ≤ s.counts.batches
  pub current : mark_from s cut.position ≡ None → IsCurrent s cut
