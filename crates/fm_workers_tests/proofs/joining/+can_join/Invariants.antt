use Rattle.std.proofs.Common.{length}
use Rattle.fm_workers_tests.proofs.joining.+can_join.Given as goal

abbrev pub decreases-can_join : goal.decreases-can_join
decreases-can_join l = length l.a.now
