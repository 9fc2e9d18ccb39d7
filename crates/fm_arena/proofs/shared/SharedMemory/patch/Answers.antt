use Rattle.fm_arena.proofs.Calls.{patches}
use Rattle.fm_arena.proofs.shared.SharedMemory.patch.Goals as goal

pub returns : goal.returns
returns g c = rw (← c.self.view_is) (patches c.patch.ensures)
