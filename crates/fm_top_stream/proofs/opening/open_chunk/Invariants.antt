use Rattle.fm_top_stream.proofs.Waiting.{Waits}
use Rattle.fm_top_stream.proofs.opening.open_chunk.Given as goal

abbrev pub invariant-loop : goal.invariant-loop
invariant-loop g l = Waits l.pool l.fn.pass l.pass
