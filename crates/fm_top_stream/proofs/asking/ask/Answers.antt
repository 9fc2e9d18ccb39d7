use Rattle.fm_top_pooled.proofs.Shows.{can_ask}
use Rattle.fm_top_stream.proofs.Reading.{answered, awaits_more, awaits_none, wanting}
use Rattle.fm_top_stream.proofs.asking.ask.Goals as goal

pub loop-init : goal.loop-init
loop-init g c = awaits_none c.requires.alone c.requires.stocked

pub query_with-requires-after_bounds : goal.query_with-requires-after_bounds
query_with-requires-after_bounds g c κs within = can_ask c.args.crew.now.q.now c.args.crew.now.threads c.loop.invariant.stocked c.requires.some c.requires.few

pub wait_for_pass-requires : goal.wait_for_pass-requires
wait_for_pass-requires g c = wanting c.loop.invariant c.in-Err.refusal c.in-Err.ensures.queried c.requires.even

pub loop-preserved : goal.loop-preserved
loop-preserved g c = awaits_more c.loop.invariant c.query_with.ensures.queried c.query_with.ensures.outside

pub returns-in-Ok : goal.returns-in-Ok
returns-in-Ok g c = answered c.loop.invariant c.in-Ok.answer c.in-Ok.ensures.queried c.in-Ok.ensures.outside
