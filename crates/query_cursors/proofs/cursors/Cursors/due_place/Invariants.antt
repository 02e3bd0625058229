use Rattle.std.proofs.Common.{◌≡◌, ℕ, ◌<◌, false, Some}
use Rattle.std.specs.Prelude.{slice_get}
use Rattle.pack_rules.specs.declared.schedule.Scheduled.{Scheduled}
use Rattle.query_cursors.specs.Due.{is_due_by}
use Rattle.query_cursors.proofs.cursors.Cursors.due_place.Given as goal

-- none of the queries so far is due
abbrev pub invariant-loop-at : goal.invariant-loop-at
invariant-loop-at l = (place : ℕ) (other : Scheduled) → place < l.at → slice_get l.queries place ≡ Some other → is_due_by l.self.runs l.moment other ≡ false
