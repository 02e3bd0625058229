use Rattle.std.proofs.Common.{length}
use Rattle.sql_faults.proofs.expecting.+expect_all.Given as goal

abbrev pub decreases-expect_all : goal.decreases-expect_all
decreases-expect_all l = length l.inner.now
