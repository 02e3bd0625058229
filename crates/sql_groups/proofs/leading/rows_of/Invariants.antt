use Rattle.std.proofs.Common.{◌≡◌, map, take}
use Rattle.sql_groups.proofs.leading.rows_of.Given as goal

abbrev pub invariant-loop-member : goal.invariant-loop-member
invariant-loop-member l = l.rows ≡ map (λ member. member.row) (take l.member-index l.members)
