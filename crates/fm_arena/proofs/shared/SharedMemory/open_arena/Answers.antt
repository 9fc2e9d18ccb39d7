use Rattle.fm_arena.proofs.{Calls.{opens}, Opening.{opens_exactly}}
use Rattle.fm_arena.proofs.shared.SharedMemory.open_arena.Goals as goal

pub returns-clause-opens : goal.returns-clause-opens
returns-clause-opens g c = let can = rw (← c.self.view_is) at c.requires in rw (← c.self.view_is) (opens can c.open_arena.ensures)

pub returns-clause-exact : goal.returns-clause-exact
returns-clause-exact g c = rw (← c.self.view_is) (opens_exactly c.open_arena.result c.open_arena.ensures)
