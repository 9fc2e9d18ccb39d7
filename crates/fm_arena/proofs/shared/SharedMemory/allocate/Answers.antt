use Rattle.fm_arena.proofs.{Allocating.{allocates_exactly}, Calls.{allocates}}
use Rattle.fm_arena.proofs.shared.SharedMemory.allocate.Goals as goal

pub returns-clause-allocates : goal.returns-clause-allocates
returns-clause-allocates g c = let can = rw (← c.self.view_is) at c.requires in rw (← c.self.view_is) (allocates can c.allocate.ensures)

pub returns-clause-exact : goal.returns-clause-exact
returns-clause-exact g c = rw (← c.self.view_is) (allocates_exactly c.allocate.ensures)
