-- The words that are kept are gone through one by one.
use Rattle.std.proofs.Common.{arith}
use Rattle.fm_records.proofs.Keeping.{found_later, found_next}
use Rattle.fm_records.proofs.words.KeptKeep.find.Goals as goal

pub returns-then-kept-word : goal.returns-then-kept-word
returns-then-kept-word c =
    found_next c.self.inside.words c.self.inside.len c.loop-k.k (0, 0) c.args.word c.self.view_is c.self.invariant.0 c.self.invariant.1 c.loop-k-test.true
    c.if-kept-word.true c.loop-k.invariant

pub loop-k-preserved : goal.loop-k-preserved
loop-k-preserved c =
    found_later c.self.inside.words c.loop-k.k (0, 0) c.args.word (omega (arith, c.loop-k-test.true, c.self.invariant.0, c.self.invariant.1))
    c.if-kept-word.false c.loop-k.invariant
