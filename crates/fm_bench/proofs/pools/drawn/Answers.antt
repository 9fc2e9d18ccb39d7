use Rattle.std.specs.Prelude.{◌≡◌, Result, Ok, Err, IfOk, IfErr}
use Rattle.fm_base.specs.declared.refusal.Refusal.{Refusal, TheVariants.{NoPass}}
use Rattle.fm_rule_facts.specs.Views.{View}
use Rattle.fm_rule.specs.{declared.pool.Pool.{Pool}, Draws.{Drawn, NoneDrawn}}
use Rattle.fm_gate.specs.Crews.{CrewStands}
use Rattle.fm_bench.{specs.Ready.{FreeAfter, IsFree}, proofs.Working.{free_on}}
use Rattle.fm_bench.proofs.pools.drawn.Goals as goal

-- The giver is free, whatever the answer, and so is who was drawn.
both_free : CrewStands → (pool : Pool) (p q : View) → IsFree pool p → (r : Result View Refusal) → IfOk r (λ d. Drawn p q d)
    → IfErr r (λ e. (e ≡ NoPass) × NoneDrawn p q) → FreeAfter pool p q × IfOk r (λ d. FreeAfter pool p d)
both_free law pool p q free (Ok d) h k =
    let stands = law.at_draw pool p q d free.outside.of h in (
      free_on free stands.giver,
      record { free = record { outside = stands.outside; nothing = stands.nothing }; lasts = stands.lasts },
    )
both_free law pool p q free (Err e) h k = (free_on free (law.at_no_pass pool p q k.1), tt)

pub returns-clause-free : goal.returns-clause-free
returns-clause-free g c =
    (both_free c.a_crew_stands.ensures c.args.pool.now _ _ c.requires c.draw.result c.draw.ensures.drawn c.draw.ensures.no_pass).0

pub returns-clause-drawn : goal.returns-clause-drawn
returns-clause-drawn g c =
    (both_free c.a_crew_stands.ensures c.args.pool.now _ _ c.requires c.draw.result c.draw.ensures.drawn c.draw.ensures.no_pass).1
