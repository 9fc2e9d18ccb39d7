use Rattle.std.specs.Prelude.{◌≡◌, length}
use Rattle.fm_bench.proofs.gates.hops.Given as goal
use Rattle.fm_bench.specs.Ready.{AreOpen}

abbrev pub invariant-loop-slot : goal.invariant-loop-slot
invariant-loop-slot g l = AreOpen l.pool l.pass l.arenas.items 1024 × (length l.arenas.items ≡ l.slot)
