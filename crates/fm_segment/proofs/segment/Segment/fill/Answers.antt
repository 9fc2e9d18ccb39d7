use Rattle.fm_segment.proofs.{Access.{known_still}, Checking.{refused_before, passed, fill_refused, fill_cause}}
use Rattle.fm_segment.proofs.segment.Segment.fill.Goals as goal

pub returns-in_err-check_write : goal.returns-in_err-check_write
returns-in_err-check_write g c =
    refused_before _ _ c.requires.outside (rw c.size.ensures.size at c.check_write.ensures) c.in_err-check_write.was
    (fill_refused c.args.self.now (g.M.Memory.view c.args.m.now).caller _) c.requires.known c.from_residual.ensures.1

pub returns : goal.returns
returns g c =
    let a = rw (c.arena.ensures, c.first.ensures.first, c.size-2.ensures.size) at c.fill.ensures in
    passed (rw c.size.ensures.size at c.check_write.ensures) c.in_ok-check_write.was a
    (fill_cause c.args.self.now (g.M.Memory.view c.args.m.now).caller) (λ w. known_still _ _ _ w c.requires.known)
