use Rattle.std.proofs.Common.{◌≡◌, map}
use Rattle.sql_meaning.specs.Firsts.{firsts_by}
use Rattle.sql_meaning.specs.Groups.{groups_by}
use Rattle.sql_meaning.specs.Worths.{worths}
use Rattle.sql_meaning.proofs.groups.groups.Given as goal

abbrev pub invariant-loop-member : goal.invariant-loop-member
invariant-loop-member l = record {
  keys : l.keys.keys ≡ map (λ member. member.key) (firsts_by (λ member. worths member.key) l.yielded);
  lists : l.groups.items ≡ map (map (λ member. member.row)) (groups_by (λ member. worths member.key) l.yielded);
}
