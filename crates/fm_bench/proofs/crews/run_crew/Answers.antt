use Rattle.fm_bench.proofs.Working.{free_then}
use Rattle.fm_bench.proofs.crews.run_crew.Goals as goal

pub returns : goal.returns
returns g c = free_then c.in_ok-crew.ensures.free c.gather_all.ensures
