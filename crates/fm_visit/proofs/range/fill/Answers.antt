use Rattle.std.proofs.Common.{sym, ◌∙◌, arith}
use Rattle.fm_segment.proofs.Exits.{gave}
use Rattle.fm_visit.proofs.Values.{filled, not_filled, reaches}
use Rattle.fm_visit.proofs.range.fill.Goals as goal

pub returns-in_err-check_write : goal.returns-in_err-check_write
returns-in_err-check_write g c =
    rw (gave c.from_residual.ensures.1) (not_filled c.requires c.args.byte (sym (rw c.size.ensures.size at c.check_write.ensures) ∙ c.in_err-check_write.was))

pub fill_all-requires : goal.fill_all-requires
fill_all-requires g c =
    let ends = c.first.ensures.ends in
    rw (c.arena.ensures, c.first.ensures.first, c.size-2.ensures.size) (reaches 0 c.args.s.now.size c.requires (omega arith) (omega arith) (omega arith))

pub returns : goal.returns
returns g c =
    filled c.requires c.args.byte (omega arith) (sym (rw c.size.ensures.size at c.check_write.ensures) ∙ c.in_ok-check_write.was)
    (rw (c.arena.ensures, c.first.ensures.first, c.size-2.ensures.size) at c.fill_all.ensures.did) (rw c.arena.ensures at c.fill_all.ensures.inside)
