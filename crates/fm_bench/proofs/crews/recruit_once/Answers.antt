use Rattle.fm_bench.proofs.Working.{free_then}
use Rattle.fm_bench.proofs.crews.recruit_once.Goals as goal

pub returns : goal.returns
returns g c = free_then c.drawn.ensures.free c.take_in.ensures
