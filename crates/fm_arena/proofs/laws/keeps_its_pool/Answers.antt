use Rattle.fm_arena.proofs.Lasting.{keeps}
use Rattle.fm_arena.proofs.laws.keeps_its_pool.Goals as goal

pub returns : goal.returns
returns c = keeps
