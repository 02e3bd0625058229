use Rattle.std.proofs.Common.{length}
use Rattle.thread_jobs.proofs.forking.+fn-publish_all-join_mut+arg2+fn-publish_all-join_mut+arg3+publish_all.Given as goal

abbrev pub decreases-join_mut+arg2 : goal.decreases-join_mut+arg2
decreases-join_mut+arg2 g l = length l.front_jobs.now

abbrev pub decreases-join_mut+arg3 : goal.decreases-join_mut+arg3
decreases-join_mut+arg3 g l = length l.back_jobs.now

abbrev pub decreases-publish_all : goal.decreases-publish_all
decreases-publish_all g l = length l.jobs.now
