use Rattle.std.proofs.Common.{◌≡◌, ◌∷◌, map, take}
use Rattle.fm_script.proofs.joining.callers_of.Given as goal

abbrev pub invariant-loop-player : goal.invariant-loop-player
invariant-loop-player l = l.callers.items ≡ l.fn.main ∷ map (λ player. player.caller) (take l.player-index l.players)
