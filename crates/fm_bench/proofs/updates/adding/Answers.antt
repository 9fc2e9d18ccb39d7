use Rattle.fm_bench.proofs.Working.{still_reached}
use Rattle.fm_bench.proofs.updates.adding.Goals as goal

pub loop-turn-preserved : goal.loop-turn-preserved
loop-turn-preserved c = still_reached c.loop-turn.invariant c.add-joined.ensures
