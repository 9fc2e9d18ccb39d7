use Rattle.fm_rule_calls.proofs.Waiting.{waits}
use Rattle.fm_gate.proofs.Takes.{waited_of, waited_may, takes_on, after_take}
use Rattle.fm_gate.proofs.holding.take.Goals as goal

pub loop-init : goal.loop-init
loop-init g c = waits

pub step_hold-found-requires-clause-of : goal.step_hold-found-requires-clause-of
step_hold-found-requires-clause-of g c = waited_of c.args.pool.now c.loop.invariant c.requires.of

pub step_hold-found-requires-clause-may : goal.step_hold-found-requires-clause-may
step_hold-found-requires-clause-may g c = waited_may c.args.id c.loop.invariant c.requires.may

pub loop-preserved : goal.loop-preserved
loop-preserved g c = takes_on c.args.id _ _ c.loop.invariant c.step_hold-found.ensures.stepped c.if-found-word.false

pub returns-then-found-word : goal.returns-then-found-word
returns-then-found-word g c =
    after_take c.args.id _ _ c.loop.invariant c.step_hold-found.ensures.stepped c.if-found-word.true c.step_hold-found.ensures.alive
