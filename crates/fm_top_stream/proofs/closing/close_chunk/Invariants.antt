use Rattle.fm_top_stream.proofs.Closes.{WaitsToClose}
use Rattle.fm_top_stream.proofs.closing.close_chunk.Given as goal

abbrev pub invariant-loop : goal.invariant-loop
invariant-loop g l = WaitsToClose l.pool l.fn.pass l.pass
