use Rattle.std.proofs.Common.{refl}
use Rattle.fm_arena.proofs.Calls.{acts}
use Rattle.fm_arena.proofs.shared.SharedMemory.store.Goals as goal

pub returns : goal.returns
returns c = rw (← c.self.view_is) (acts (λ id. refl) c.store.ensures)
