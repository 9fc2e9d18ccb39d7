use Rattle.std.proofs.Common.{refl}
use Rattle.fm_async.proofs.Closers.{begun_closing}
use Rattle.fm_async.proofs.closer.Closer.start.Goals as goal

pub invariant_of-result : goal.invariant_of-result
invariant_of-result c = begun_closing c.in-Ok.ensures

pub returns-in-Ok : goal.returns-in-Ok
returns-in-Ok c = (refl, begun_closing c.in-Ok.ensures, c.in-Ok.ensures)
