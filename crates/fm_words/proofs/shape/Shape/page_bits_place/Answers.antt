use Rattle.std.proofs.Common.{arith}
use Rattle.fm_words.specs.Places.{at}
use Rattle.fm_words.proofs.shape.Shape.page_bits_place.Goals as goal

pub returns : goal.returns
unfolding at
returns c = omega arith
