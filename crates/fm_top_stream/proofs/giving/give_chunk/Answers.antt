use Rattle.std.proofs.Common.{refl}
use Rattle.fm_top_stream.proofs.{Going.{goes_here}, Waiting.{gives_then, waits_on}}
use Rattle.fm_top_stream.proofs.giving.give_chunk.Goals as goal

pub loop-init : goal.loop-init
loop-init g c = record { goes = goes_here c.requires.alone; state = refl; empty = c.requires.empty }

pub loop-preserved : goal.loop-preserved
loop-preserved g c = waits_on c.args.arena c.args.size c.loop.invariant c.in-Err.field-0 c.requires.room c.in-Err.ensures

pub returns-in-Ok : goal.returns-in-Ok
returns-in-Ok g c = gives_then c.args.arena c.args.size c.loop.invariant c.in-Ok.field-0 c.in-Ok.ensures
