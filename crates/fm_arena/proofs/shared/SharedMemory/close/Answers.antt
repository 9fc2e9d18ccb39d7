use Rattle.fm_arena.proofs.Calls.{closes}
use Rattle.fm_arena.proofs.shared.SharedMemory.close.Goals as goal

pub returns-clause-closes : goal.returns-clause-closes
returns-clause-closes g c = let can = rw (← c.self.view_is) at c.requires in rw (← c.self.view_is) (closes can c.close.ensures)
