use Rattle.std.{proofs.Common.{◌≡◌, ◌++◌, take}, specs.List.{flat_map}}
use Rattle.fm_script.proofs.joining.replies_of.Given as goal

abbrev pub invariant-loop-player : goal.invariant-loop-player
invariant-loop-player l = l.replies.items ≡ l.fn.firsts.items ++ flat_map (λ player. player.replies.items) (take l.player-index l.players)
