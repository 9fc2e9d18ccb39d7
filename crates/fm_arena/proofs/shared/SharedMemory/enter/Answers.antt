use Rattle.fm_arena.proofs.Calls.{enters}
use Rattle.fm_arena.proofs.shared.SharedMemory.enter.Goals as goal

pub returns-clause-enters : goal.returns-clause-enters
returns-clause-enters c = let can = rw (← c.self.view_is) at c.requires in rw (← c.self.view_is) (enters can c.enter.ensures)
