use Rattle.fm_arena.proofs.Gathering.{lasts}
use Rattle.fm_arena.proofs.laws.a_worker_can_be_gathered.Goals as goal

pub returns : goal.returns
returns c = lasts
