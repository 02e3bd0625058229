use denote.Text.{Utf8}
use denote.Shadow.{shadow}
use Rattle.sql_cases.proofs.nodes.+nodes.Given as goal

abbrev pub invariant-push_list-loop-item : goal.invariant-push_list-loop-item
invariant-push_list-loop-item l = shadow (Utf8 l.mark)
