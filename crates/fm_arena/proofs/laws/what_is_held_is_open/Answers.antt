use Rattle.fm_arena.proofs.Open.{held_open}
use Rattle.fm_arena.proofs.laws.what_is_held_is_open.Goals as goal

pub returns : goal.returns
returns c = held_open
