use Rattle.std.proofs.Common.{◌∙◌, ap, subst, sym}
use Rattle.program_words.specs.Bounds.{IsBounded}
use Rattle.osq_program.specs.Commands.{is_forwarding}
use Rattle.osq_program.proofs.commands.run_command.Goals as goal

pub run_in_turn-requires-clause-bounded : goal.run_in_turn-requires-clause-bounded
unfolding IsBounded
run_in_turn-requires-clause-bounded g c κs within = subst IsBounded c.in-Replay.is c.requires.bounded

pub do_query-requires-clause-bounded : goal.do_query-requires-clause-bounded
unfolding IsBounded
do_query-requires-clause-bounded g c κs within = subst IsBounded c.in-Query.is c.requires.bounded

pub run_collect-requires-clause-bounded : goal.run_collect-requires-clause-bounded
unfolding IsBounded
run_collect-requires-clause-bounded g c κs within = subst IsBounded c.in-Collect.is c.requires.bounded

pub run_self_test-requires-clause-bounded : goal.run_self_test-requires-clause-bounded
unfolding IsBounded
run_self_test-requires-clause-bounded g c κs within = subst IsBounded c.in-SelfTest.is c.requires.bounded

pub returns-in-Replay-clause-link : goal.returns-in-Replay-clause-link
returns-in-Replay-clause-link g c = λ quiet. c.run_in_turn.ensures.link (ap is_forwarding (sym c.in-Replay.is) ∙ quiet)
