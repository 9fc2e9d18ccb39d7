use Rattle.std.proofs.Common.{refl, subst}
use Rattle.fm_records_query.specs.Plan.{Plan}
use Rattle.fm_workers_chunks.specs.Serving.{Serves}
use Rattle.fm_workers_chunks.proofs.Rounds.{begins, is_stop, one_more, stopped}
use Rattle.fm_workers_chunks.proofs.taking.serve_chunks.Goals as goal

pub loop-init : goal.loop-init
loop-init g c = begins c.args.desk.now c.requires.ready c.requires.outside

pub returns-in_default-clause-did : goal.returns-in_default-clause-did
returns-in_default-clause-did g c = stopped c.args.desk.now c.loop.invariant c.take.ensures.account (is_stop c.take.result c.in_default.not-Serve) refl

pub loop-preserved : goal.loop-preserved
loop-preserved g c = one_more c.args.desk.now c.loop.invariant c.in-Serve.ensures.account
    (subst (λ (p : Plan). Serves c.loop.memory c.serve_chunk-served.new.memory p c.in-Serve.chunk c.serve_chunk-served.result) c.requires.terms.same_plan
    c.serve_chunk-served.ensures)
    c.push.ensures
