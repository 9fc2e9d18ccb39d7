use Rattle.std.proofs.Common.{ap, length, arith}
use Rattle.fm_async.specs.Sets.{closes_of}
use Rattle.fm_async.proofs.Counts.{length-closes_of, unfinished-le}
use Rattle.fm_async.proofs.set.SetCloser.unfinished.Goals as goal

pub overflow_cast-result : goal.overflow_cast-result
overflow_cast-result c =
    let ws = c.deref.result.now in
    omega (arith, c.self.invariant.0.few, c.self.invariant.0.most, c.count_unfinished.ensures, unfinished-le (closes_of ws), length-closes_of ws, ap length c.deref.ensures.value)
