use Rattle.std.proofs.Common.{refl}
use Rattle.fm_close.proofs.Walks.{finished, after_walk}
use Rattle.fm_close.proofs.closing.close.Goals as goal

pub returns-in-Ok : goal.returns-in-Ok
returns-in-Ok g c = after_walk tt c.in-Ok.ensures (finished _ refl c.walk.ensures c.sweep.ensures)
