use Rattle.std.proofs.Common.{arith}
use Rattle.fm_words.specs.Places.{at}
use Rattle.fm_words.proofs.shape.Shape.map_place.Goals as goal

pub returns : goal.returns
unfolding at
returns c = rw (c.from.ensures, c.from-2.ensures, c.from-3.ensures) (omega arith)
