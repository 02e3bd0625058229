use Rattle.std.proofs.Common.{length}
use Rattle.sql_groups.proofs.having.+do_tests_hold.Given as goal

abbrev pub decreases-do_tests_hold : goal.decreases-do_tests_hold
decreases-do_tests_hold l = length l.tests.now
