use Rattle.fm_gate.proofs.Tries.{reach_on}
use Rattle.fm_bench.proofs.updates.patching.Goals as goal

pub loop-turn-preserved : goal.loop-turn-preserved
loop-turn-preserved g c = reach_on c.loop-turn.invariant c.patch-joined.ensures
