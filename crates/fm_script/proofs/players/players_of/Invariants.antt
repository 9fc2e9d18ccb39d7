use Rattle.std.proofs.Common.{◌≡◌, ℕ, ◌+◌, ◌<◌, get_or, length}
use Rattle.fm_script.specs.{declared.player.Player.{Player}, Players.{IsPlayer}}
use Rattle.fm_script.proofs.players.players_of.Given as goal

abbrev pub invariant-loop-place : goal.invariant-loop-place
invariant-loop-place l = record {
  many : length l.players.items ≡ l.place;
  each : (k : ℕ) (d : Player) → k < l.place → IsPlayer l.lines (k + 1) (get_or l.starts k 0) (get_or l.players.items k d);
}
