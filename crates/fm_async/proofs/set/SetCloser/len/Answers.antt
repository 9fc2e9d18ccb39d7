use Rattle.std.proofs.Common.{arith}
use Rattle.fm_async.proofs.set.SetCloser.len.Goals as goal

pub overflow_cast-result : goal.overflow_cast-result
overflow_cast-result c = omega (arith, c.self.invariant.0.few, c.self.invariant.0.most, c.self.inside.closes.ok.0)
