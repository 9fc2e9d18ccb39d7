use Rattle.std.proofs.Common.{sym, ◌∙◌, arith}
use Rattle.fm_segment.proofs.Exits.{gave}
use Rattle.fm_visit.proofs.Pairs.{both_reach, copied, copy_fits, not_copied, second_known}
use Rattle.fm_visit.proofs.sides.copy.Goals as goal

pub returns-in_err-check_copy-clause-copied : goal.returns-in_err-check_copy-clause-copied
returns-in_err-check_copy-clause-copied g c =
    rw (gave c.from_residual.ensures.1) (not_copied c.requires c.args.src_at c.args.dst_at c.args.n (sym c.check_copy.ensures ∙ c.in_err-check_copy.was))

pub side_at-from-requires : goal.side_at-from-requires
side_at-from-requires g c =
    let f = (copy_fits c.args.src.now c.args.src_at c.args.dst.now c.args.dst_at c.args.n (sym c.check_copy.ensures ∙ c.in_ok-check_copy.was)).source in omega arith

pub side_at-to-requires : goal.side_at-to-requires
side_at-to-requires g c =
    let f = (copy_fits c.args.src.now c.args.src_at c.args.dst.now c.args.dst_at c.args.n (sym c.check_copy.ensures ∙ c.in_ok-check_copy.was)).target in omega arith

pub copy_all-requires : goal.copy_all-requires
copy_all-requires g c =
    let f = copy_fits c.args.src.now c.args.src_at c.args.dst.now c.args.dst_at c.args.n (sym c.check_copy.ensures ∙ c.in_ok-check_copy.was) in
    rw (c.side_at-from.ensures.side, c.side_at-to.ensures.side) (both_reach c.requires c.args.src_at c.args.dst_at c.args.n f.source f.target
    c.side_at-from.ensures.ends c.side_at-to.ensures.ends)

pub returns-clause-copied : goal.returns-clause-copied
returns-clause-copied g c =
    let d = rw (c.side_at-from.ensures.side, c.side_at-to.ensures.side) at c.copy_all.ensures.did in
    let i = rw c.side_at-from.ensures.side at c.copy_all.ensures.inside in
    copied c.requires c.args.src_at c.args.dst_at c.args.n (sym c.check_copy.ensures ∙ c.in_ok-check_copy.was) d i

pub returns-clause-known : goal.returns-clause-known
returns-clause-known g c = second_known c.requires c.copy_all.ensures.did
