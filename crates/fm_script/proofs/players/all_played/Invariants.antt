use Rattle.std.proofs.Common.{take}
use Rattle.fm_script.specs.Runs.{AllPlayed}
use Rattle.fm_script.proofs.players.all_played.Given as goal

abbrev pub invariant-loop-player : goal.invariant-loop-player
invariant-loop-player l = AllPlayed (take l.player-index l.players)
