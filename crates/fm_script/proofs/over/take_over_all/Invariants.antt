use Rattle.std.proofs.Common.{take}
use Rattle.fm_script.specs.Mains.{TakesOver}
use Rattle.fm_script.proofs.over.take_over_all.Given as goal

abbrev pub invariant-loop-player : goal.invariant-loop-player
invariant-loop-player l = TakesOver l.fn.table l.table (take l.player-index l.players)
