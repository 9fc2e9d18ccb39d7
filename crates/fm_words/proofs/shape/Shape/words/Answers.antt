use Rattle.std.proofs.Common.{arith}
use Rattle.fm_words.specs.Places.{words}
use Rattle.fm_words.proofs.shape.Shape.words.Goals as goal

pub returns : goal.returns
unfolding words
returns c = rw c.terms_from.ensures (omega arith)
