use Rattle.fm_top_stream.proofs.Closes.{closes_then, waits_more, waits_none}
use Rattle.fm_top_stream.proofs.closing.close_chunk.Goals as goal

pub loop-init : goal.loop-init
loop-init g c = waits_none c.requires

pub loop-preserved : goal.loop-preserved
loop-preserved g c = waits_more c.args.arena c.loop.invariant c.in-Err.field-0 c.in-Err.ensures

pub returns-in-Ok : goal.returns-in-Ok
returns-in-Ok g c = closes_then c.args.arena c.loop.invariant c.requires.known c.in-Ok.ensures
