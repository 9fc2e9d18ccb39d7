use Rattle.fm_bench.proofs.Working.{still_reached}
use Rattle.fm_bench.proofs.updates.swapping.Goals as goal

pub loop-preserved : goal.loop-preserved
loop-preserved c = still_reached c.loop.invariant c.swap_if-found.ensures
