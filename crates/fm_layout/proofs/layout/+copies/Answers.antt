use Rattle.std.proofs.Common.{arith}
use Rattle.fm_layout.proofs.Deep.{deep_at}
use Rattle.fm_layout.proofs.layout.+copies.Goals as goal

pub copies::clone_all-copy-requires : goal.copies::clone_all-copy-requires
copies::clone_all-copy-requires t c =
    (omega (arith, deep_at c.args.layouts.now c.loop-layout.layout-index _ c.layout-item.result c.loop-layout-test.true c.layout-item.is, c.decreases), tt)
