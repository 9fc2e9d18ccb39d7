use Rattle.std.proofs.Common.{ap, refl}
use Rattle.fm_rule_facts.specs.{Views.{View}, Steps.{can_draw}}
use Rattle.fm_rule.proofs.Counting.{counting_begins, counts_on, counts_one, counts_none}
use Rattle.fm_rule.proofs.pool.Pool.count_draw.Goals as goal

pub loop-init : goal.loop-init
loop-init g c = counting_begins _ _ _ _ c.requires.learnt c.requires.of c.guess_draws-expected.ensures

pub step_draw-found-requires-clause-can : goal.step_draw-found-requires-clause-can
step_draw-found-requires-clause-can g c =
    can_draw c.args.caller.number c.args.caller.term (ap (λ (v : View). v.number) c.loop.invariant.asks.asked.is)

pub returns-then-found-clause-no_pass : goal.returns-then-found-clause-no_pass
returns-then-found-clause-no_pass g c = (
  refl,
  counts_none _ _ _ _ _ _ _ c.loop.invariant c.step_draw-found.ensures.stepped c.step_draw-found.ensures.count c.if-found-expected.true c.if-found.true _
      c.step_give_number.ensures,
)

pub returns-then-found-expected-clause-drew : goal.returns-then-found-expected-clause-drew
returns-then-found-expected-clause-drew g c =
    counts_one _ _ _ _ _ _ _ c.loop.invariant c.step_draw-found.ensures.stepped c.step_draw-found.ensures.count c.if-found-expected.true c.if-found.false

pub loop-preserved : goal.loop-preserved
loop-preserved g c =
    counts_on _ _ _ _ _ _ _ c.loop.invariant c.step_draw-found.ensures.stepped c.step_draw-found.ensures.count c.if-found-expected.false
