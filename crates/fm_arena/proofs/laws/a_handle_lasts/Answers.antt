use Rattle.fm_arena.proofs.Beside.{handles}
use Rattle.fm_arena.proofs.laws.a_handle_lasts.Goals as goal

pub returns : goal.returns
returns c = handles
