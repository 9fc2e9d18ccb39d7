use Rattle.std.proofs.Common.{ap, refl}
use Rattle.fm_words.specs.{declared.shape.Shape.{Shape}, Places.{groups}}
use Rattle.fm_rule.proofs.Seeking.{seeks_none, seeks_both, took_then, none_then}
use Rattle.fm_rule.proofs.pool.Pool.take_number.Goals as goal

pub loop-init : goal.loop-init
loop-init g c = seeks_none _ _ _ c.requires.none c.requires.of

pub returns-then-try_number-clause-takes : goal.returns-then-try_number-clause-takes
returns-then-try_number-clause-takes g c = took_then _ _ _ _ _ c.in-Some-guess_number.ensures c.loop.invariant c.if-try_number.ensures

pub loop-preserved-else-try_number : goal.loop-preserved-else-try_number
loop-preserved-else-try_number g c = seeks_both _ _ _ _ _ _ c.loop.invariant c.if-try_number.ensures

pub returns-then-finds_none-clause-no_pass : goal.returns-then-finds_none-clause-no_pass
returns-then-finds_none-clause-no_pass g c =
    (refl, none_then _ _ _ _ (ap (λ (z : Shape). groups z) c.requires.of.1) c.loop.invariant c.if-finds_none.ensures)

pub loop-preserved : goal.loop-preserved
loop-preserved g c = seeks_both _ _ _ _ _ _ c.loop.invariant c.if-finds_none.ensures
