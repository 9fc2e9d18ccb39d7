use Rattle.fm_path.proofs.Indices.{IsPassed}
use Rattle.fm_path.proofs.resolved.Resolved.offset_at.Given as goal

abbrev pub invariant-loop-k : goal.invariant-loop-k
invariant-loop-k l = IsPassed l.k l.at l.self.offset l.dims l.indices
