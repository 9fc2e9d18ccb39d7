use Rattle.std.proofs.{Common.{Some}, lemmas.List.Elements.{All-pop}}
use Rattle.fm_bench.{specs.{Ready.{IsFree}, declared.crews.Worker.{Worker}}, proofs.Working.{free_on, free_then}}
use Rattle.fm_bench.proofs.crews.gather_all.Goals as goal

pub take_in-requires-clause-other : goal.take_in-requires-clause-other
take_in-requires-clause-other c = (All-pop (λ (w : Worker). IsFree c.args.pool.now w.pass) _ _ (Some c.in-Some.worker) c.in-Some.ensures.items c.loop-worker.invariant.1).1

pub loop-worker-preserved : goal.loop-worker-preserved
loop-worker-preserved c = (
  free_then c.loop-worker.invariant.0 c.take_in.ensures,
  (All-pop (λ (w : Worker). IsFree c.args.pool.now w.pass) _ _ (Some c.in-Some.worker) c.in-Some.ensures.items c.loop-worker.invariant.1).0,
)

pub returns : goal.returns
returns c =
    let was = c.loop-worker.invariant.0 in
    free_then was (free_on was.free (c.a_crew_stands.ensures.at_look c.args.pool.now _ _ _ c.whole.ensures))
