use Rattle.fm_top_stream.proofs.Waiting.{opened_then, waits_more, waits_none}
use Rattle.fm_top_stream.proofs.opening.open_chunk.Goals as goal

pub loop-init : goal.loop-init
loop-init g c = waits_none c.requires

pub loop-preserved : goal.loop-preserved
loop-preserved g c = waits_more c.loop.invariant c.in-Err.field-0 c.in-Err.ensures

pub returns-in-Ok : goal.returns-in-Ok
returns-in-Ok g c = opened_then c.loop.invariant c.in-Ok.arena c.in-Ok.ensures
