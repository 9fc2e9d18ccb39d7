use Rattle.std.proofs.Common.{refl}
use Rattle.fm_close.proofs.{Walks.{finished}, Backs.{after_kept, after_ended}}
use Rattle.fm_close.proofs.giving.give_back.Goals as goal

pub returns-in-None : goal.returns-in-None
returns-in-None g c = after_kept c.in-None.ensures

pub returns-in-Some : goal.returns-in-Some
returns-in-Some g c =
    after_ended c.requires.handle.automatic c.in-Some.ensures (finished _ refl c.walk.ensures c.sweep.ensures)
