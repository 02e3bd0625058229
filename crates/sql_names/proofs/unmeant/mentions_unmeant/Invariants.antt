use Rattle.std.proofs.Common.{◌≡◌, drop, map}
use Rattle.sql_scope.specs.declared.mention.Mention.{Mention}
use Rattle.sql_names.specs.Kinds.{names_in}
use Rattle.sql_names.specs.Unmeant.{mentioned_unmeant}
use Rattle.sql_names.specs.Least.{lesser, least}
use Rattle.sql_scope.specs.Shown.{names_of}
use Rattle.sql_names.proofs.unmeant.mentions_unmeant.Given as goal

abbrev pub invariant-loop-mention : goal.invariant-loop-mention
invariant-loop-mention l = lesser l.place (least (map (λ (m : Mention). mentioned_unmeant (names_in (names_of l.names) m.clause) m.what) (drop l.mention-index l.found))) ≡ least (map (λ (m : Mention). mentioned_unmeant (names_in (names_of l.names) m.clause) m.what) l.found)
