use Rattle.std.proofs.Common.{ap, ◌∙◌, ◌==◌, ◌+◌, length, ℕ}
use Rattle.fm_rule_facts.specs.Views.{View}
use Rattle.fm_rule.proofs.Asking.{looked, still_gathered}
use Rattle.fm_rule.proofs.pool.Pool.whole.Goals as goal

pub returns : goal.returns
returns c =
    let s = c.step_draw-draws.ensures.stepped in
    looked _ _ _ c.requires.none s c.step_draw-draws.ensures.count _
    (ap (λ (n : ℕ). c.step_draw-draws.result == n + 1) (c.pass.invariant.counted ∙ (ap (λ (v : View). length v.gathered) c.pass.view_is ∙ still_gathered _ _ _ _ s)))
