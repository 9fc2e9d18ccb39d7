use Rattle.std.proofs.Common.{◌-◌, length}
use Rattle.fm_records.proofs.answer.+join_from.Given as goal

abbrev pub decreases-join_from : goal.decreases-join_from
decreases-join_from l = length l.next.now.items - l.k
