use Rattle.std.proofs.Common.{length}
use Rattle.fm_segment.proofs.{Access.{known_still}, Checking.{refused_before, passed, put_refused, put_cause}}
use Rattle.fm_segment.proofs.segment.Segment.put_bytes.Goals as goal

pub returns-in_err-check_put : goal.returns-in_err-check_put
returns-in_err-check_put g c =
    let why = put_refused c.args.self.now c.args.offset (length c.args.bytes.now) (g.M.Memory.view c.args.m.now).caller _ in
    refused_before _ _ c.requires.outside c.check_put.ensures c.in_err-check_put.was why c.requires.known c.from_residual.ensures.1

pub returns : goal.returns
returns g c =
    let a = rw (c.arena.ensures, c.first.ensures.first, c.part-to.ensures) at c.put_bytes.ensures in
    passed c.check_put.ensures c.in_ok-check_put.was a
    (put_cause c.args.self.now c.args.offset (length c.args.bytes.now) (g.M.Memory.view c.args.m.now).caller) (λ w. known_still _ _ _ w c.requires.known)
