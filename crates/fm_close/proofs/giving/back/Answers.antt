use Rattle.std.proofs.Common.{sym, subst}
use Rattle.fm_rule_facts.specs.Views.{View, In}
use Rattle.fm_rule_calls.proofs.Waiting.{waits}
use Rattle.fm_gate.proofs.Takes.{waited_of}
use Rattle.fm_close.proofs.Backs.{backs_on, after_back}
use Rattle.fm_close.proofs.giving.back.Goals as goal

pub loop-init : goal.loop-init
loop-init g c = waits

pub step_back-found-requires-clause-of : goal.step_back-found-requires-clause-of
step_back-found-requires-clause-of g c = waited_of c.args.pool.now c.loop.invariant c.requires.of

pub step_back-found-requires-clause-handle : goal.step_back-found-requires-clause-handle
step_back-found-requires-clause-handle g c = subst (λ (x : View). In c.args.id x.handles) (sym c.loop.invariant.is) c.requires.has

pub loop-preserved : goal.loop-preserved
loop-preserved g c = backs_on c.args.id _ _ c.loop.invariant c.step_back-found.ensures.stepped c.if-found-word.false

pub returns-then-found-word : goal.returns-then-found-word
returns-then-found-word g c =
    after_back c.args.id _ _ c.loop.invariant c.step_back-found.ensures.stepped c.if-found-word.true c.step_back-found.ensures.alive
