use Rattle.fm_top_stream.proofs.Waiting.{WaitsFor}
use Rattle.fm_top_stream.proofs.giving.give_chunk.Given as goal

abbrev pub invariant-loop : goal.invariant-loop
invariant-loop g l = WaitsFor l.pool l.fn.pass l.pass l.arena
