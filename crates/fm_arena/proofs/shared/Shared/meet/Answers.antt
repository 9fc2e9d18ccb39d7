use Rattle.fm_arena.proofs.Meeting.{meets}
use Rattle.fm_arena.proofs.shared.Shared.meet.Goals as goal

pub returns : goal.returns
returns c = rw (← c.self.view_is) (meets c.meet.ensures.stepped c.meet.ensures.met)
