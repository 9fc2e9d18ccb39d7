use Rattle.fm_arena.proofs.Calls.{leaves}
use Rattle.fm_arena.proofs.shared.SharedMemory.leave.Goals as goal

pub returns : goal.returns
returns c = rw (← c.self.view_is) (leaves c.leave.ensures)
