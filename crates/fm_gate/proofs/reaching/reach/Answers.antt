use Rattle.fm_gate.proofs.Acts.{can_find, reached}
use Rattle.fm_gate.proofs.reaching.reach.Goals as goal

pub place_of-requires-clause-find : goal.place_of-requires-clause-find
place_of-requires-clause-find c = can_find c.requires

pub returns : goal.returns
returns c = reached c.requires c.place_of.ensures
