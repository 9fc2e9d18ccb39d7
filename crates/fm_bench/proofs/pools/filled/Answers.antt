use Rattle.fm_bench.proofs.Working.{free_then}
use Rattle.fm_bench.proofs.pools.filled.Goals as goal

pub returns-clause-free : goal.returns-clause-free
returns-clause-free g c = free_then c.given.ensures.free c.fill.ensures

pub returns-in_err-fill-clause-free : goal.returns-in_err-fill-clause-free
returns-in_err-fill-clause-free g c = free_then c.given.ensures.free c.fill.ensures
