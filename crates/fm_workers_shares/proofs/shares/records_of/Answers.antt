use Rattle.std.proofs.Common.{arith}
use Rattle.fm_workers_shares.proofs.Numbers.{run_within}
use Rattle.fm_workers_shares.proofs.shares.records_of.Goals as goal

pub overflow_mul-from : goal.overflow_mul-from
overflow_mul-from c =
    let fits = run_within c.args.from c.args.to c.args.q.now.size c.record_size-size.ensures.size c.requires.order c.requires.within in
    let small = c.requires.small in
    omega (arith, fits, small)

pub overflow_mul-to : goal.overflow_mul-to
overflow_mul-to c =
    let fits = run_within c.args.from c.args.to c.args.q.now.size c.record_size-size.ensures.size c.requires.order c.requires.within in
    let small = c.requires.small in
    omega (arith, fits, small)

pub part-requires : goal.part-requires
part-requires c = run_within c.args.from c.args.to c.args.q.now.size c.record_size-size.ensures.size c.requires.order c.requires.within
