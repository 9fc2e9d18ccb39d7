use Rattle.fm_bench.specs.{Ready.{FreeAfter}, declared.crews.Worker.{Worker}}
use Rattle.fm_bench.proofs.{Pushing.{all_pushed}, Working.{free_then}}
use Rattle.fm_bench.proofs.crews.hire.Goals as goal

pub returns-in_err-drawn-clause-free : goal.returns-in_err-drawn-clause-free
returns-in_err-drawn-clause-free g c = free_then c.loop.invariant.0 c.drawn.ensures.free

pub loop-2-init : goal.loop-2-init
loop-2-init g c = free_then c.loop.invariant.0 c.drawn.ensures.free

pub returns-in_err-drawn-2-clause-free : goal.returns-in_err-drawn-2-clause-free
returns-in_err-drawn-2-clause-free g c = free_then c.loop-2.invariant c.drawn-in-loop-2.ensures.free

pub loop-2-preserved : goal.loop-2-preserved
loop-2-preserved g c = free_then c.loop-2.invariant c.drawn-in-loop-2.ensures.free

pub loop-preserved : goal.loop-preserved
loop-preserved g c = (
  c.loop-2.invariant,
  all_pushed (λ (w : Worker). FreeAfter c.args.pool.now c.args.pass.now w.pass) _ _ _ c.push.ensures.items c.loop.invariant.1
      (free_then c.loop.invariant.0 c.in_ok-drawn.ensures.drawn),
)
