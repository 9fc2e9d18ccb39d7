use Rattle.fm_top_stream.proofs.Reading.{Awaits}
use Rattle.fm_top_stream.proofs.asking.ask.Given as goal

abbrev pub invariant-loop : goal.invariant-loop
invariant-loop g l = Awaits l.fn.pass.shape.passes l.crew.pool.now l.fn.pass l.pass l.s
