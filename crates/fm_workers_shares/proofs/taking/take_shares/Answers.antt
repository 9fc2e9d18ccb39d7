use Rattle.std.proofs.Common.{refl}
use Rattle.fm_workers_shares.proofs.Serving.{knows_on, served_more, served_none, took_refused, took_stop}
use Rattle.fm_workers_shares.proofs.taking.take_shares.Goals as goal

pub loop-init : goal.loop-init
loop-init g c = served_none c.requires.outside c.requires.ready

pub end-taker-requires-clause-can : goal.end-taker-requires-clause-can
end-taker-requires-clause-can g c =
    let laws = g.met.J.Job in
    laws.stays c.args.job.now (g.M.Memory.view c.args.m.now) (g.M.Memory.view c.loop.m) (knows_on c.loop.invariant) c.requires.can

pub returns-in_default-clause-did : goal.returns-in_default-clause-did
returns-in_default-clause-did g c = took_stop c.loop.invariant c.end-taker.ensures.did c.in_default.ensures refl

pub share-done-requires-clause-can : goal.share-done-requires-clause-can
share-done-requires-clause-can g c =
    let laws = g.met.J.Job in
    laws.stays c.args.job.now (g.M.Memory.view c.args.m.now) (g.M.Memory.view c.loop.m) (knows_on c.loop.invariant) c.requires.can

pub returns-in-Err-clause-did : goal.returns-in-Err-clause-did
returns-in-Err-clause-did g c =
    took_refused c.loop.invariant c.in-Some-take.number c.share-done.new.part c.in-Err.refusal c.in-Err.ensures.did c.in-Some-take.ensures refl

pub loop-preserved : goal.loop-preserved
loop-preserved g c =
    served_more c.loop.invariant c.in-Some-take.number c.in_default-done.field-0 c.in_default-done.ensures.did c.in_default-done.ensures.outside
    c.in-Some-take.ensures refl
