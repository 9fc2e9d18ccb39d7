use Rattle.fm_workers_crew.proofs.Again.{crews_come}
use Rattle.fm_workers_crew.proofs.laws.crews_come_again.Goals as goal

pub returns : goal.returns
returns c = crews_come
