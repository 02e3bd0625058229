use Rattle.std.proofs.Common.{◌<◌, ◌≤◌, length, get_or}
use Rattle.session_state.proofs.state.first_mark.Given as goal

-- all marks from this place of the list on are at the position or behind it, since the first of them is
abbrev pub invariant-loop-at : goal.invariant-loop-at
invariant-loop-at l = record {
  within : l.at ≤ length l.marks;
  behind : l.at < length l.marks → l.position ≤ get_or l.marks l.at 0;
}

abbrev pub decreases-loop-at : goal.decreases-loop-at
decreases-loop-at l = l.at
