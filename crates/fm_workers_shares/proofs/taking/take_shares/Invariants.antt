use Rattle.fm_workers_shares.proofs.Serving.{HasServed}
use Rattle.fm_workers_shares.proofs.taking.take_shares.Given as goal

abbrev pub invariant-loop : goal.invariant-loop
invariant-loop g l = HasServed (g.J.Job.making l.job) l.jobs (g.M.Memory.view l.fn.m) (g.M.Memory.view l.m) l.taker
