use Rattle.fm_workers_chunks.specs.Taking.{IsServing}
use Rattle.fm_workers_chunks.proofs.taking.serve_chunks.Given as goal

abbrev pub invariant-loop : goal.invariant-loop
invariant-loop g l = IsServing l.desk g.K.Terms.plan l.fn.memory l.memory l.server
