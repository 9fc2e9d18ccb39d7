use Rattle.std.specs.Prelude.{◌≡◌, ◌≤◌, Some}
use Rattle.fm_base.specs.Arenas.{arena_of}
use Rattle.fm_mono.specs.Shown.{IsKnown}
use Rattle.fm_bench.proofs.visits.visits.Given as goal
use Rattle.fm_bench.specs.Ready.{IsReady}

abbrev pub invariant-loop-turn : goal.invariant-loop-turn
invariant-loop-turn g l = IsReady l.memory l.arena 65536

abbrev pub invariant-loop-word : goal.invariant-loop-word
invariant-loop-word g l = (l.memory.inside ≡ Some l.arena) × IsKnown l.memory l.arena × (65536 ≤ (arena_of l.memory.state l.arena).given)
