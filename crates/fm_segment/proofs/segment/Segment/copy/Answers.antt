use Rattle.fm_segment.proofs.{Checking.{refused_before, passed, copy_refused, copy_cause}, Learning.{both_known}}
use Rattle.fm_segment.proofs.segment.Segment.copy.Goals as goal

pub returns-in_err-check_copy : goal.returns-in_err-check_copy
returns-in_err-check_copy g c =
    let why = copy_refused c.args.src.now c.args.src_at c.args.dst.now c.args.dst_at c.args.n (g.M.Memory.view c.args.m.now).caller _ in
    refused_before _ _ c.requires.outside c.check_copy.ensures c.in_err-check_copy.was why
    (record { first = c.requires.first_known; second = c.requires.second_known }) c.from_residual.ensures.1

pub returns : goal.returns
returns g c =
    let l = rw (
      c.arena.ensures,
      c.first.ensures.first,
      c.arena-2.ensures,
      c.first-2.ensures.first,
      c.part-from.ensures,
      c.part-to.ensures,
    ) at c.copy_range.ensures in
    passed c.check_copy.ensures c.in_ok-check_copy.was l
    (copy_cause c.args.src.now c.args.src_at c.args.dst.now c.args.dst_at c.args.n (g.M.Memory.view c.args.m.now).caller) (both_known c.requires)
