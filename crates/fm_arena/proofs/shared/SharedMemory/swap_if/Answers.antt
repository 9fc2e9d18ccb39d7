use Rattle.std.proofs.Common.{refl}
use Rattle.fm_arena.proofs.Calls.{acts}
use Rattle.fm_arena.proofs.shared.SharedMemory.swap_if.Goals as goal

pub returns : goal.returns
returns c = rw (← c.self.view_is) (acts (λ id. refl) c.swap_if.ensures)
