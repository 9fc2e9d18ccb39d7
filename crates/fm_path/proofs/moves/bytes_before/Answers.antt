-- Each member before the wanted one adds its size.
use Rattle.std.proofs.Common.{sym, arith}
use Rattle.fm_path_meaning.proofs.Members.{offset_more}
use Rattle.fm_path.proofs.moves.bytes_before.Goals as goal

pub overflow_add-by : goal.overflow_add-by
overflow_add-by c =
    let r = offset_more c.args.layout.now c.loop-i.i c.in-Some.member.now c.requires.kind c.requires.well (sym c.in-Some.ensures) in
    omega (arith, r.1, c.loop-i.invariant, c.size-by.ensures.size)
