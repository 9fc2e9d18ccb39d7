use Rattle.fm_arena.proofs.Beside.{holds}
use Rattle.fm_arena.proofs.laws.a_hold_lasts.Goals as goal

pub returns : goal.returns
returns c = holds
