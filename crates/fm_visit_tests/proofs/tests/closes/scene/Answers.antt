use Rattle.std.proofs.Common.{subst, sym}
use Rattle.fm_rule_facts.specs.Views.{View, IsKnown}
use Rattle.fm_rule.specs.Passes.{IsOf}
use Rattle.fm_visit_tests.proofs.tests.closes.scene.Goals as goal

-- The pass is one of the pool, and knows the arena that it opened: telling another leaves it as it was
pub returns-clause-closer : goal.returns-clause-closer
returns-clause-closer g c =
    let told = c.tell.ensures.ours in
    let of = c.keeps_its_pool.ensures.of c.args.pool.now _ _ c.filled-s.ensures.same c.both-ours.ensures.of in
    record {
      outside = c.into_pass.ensures.outside c.args.pool.now (subst (λ (p : View). IsOf c.args.pool.now p) (sym told) of);
      known = subst (λ (p : View). IsKnown p c.filled-s.result.arena) (sym c.into_pass.ensures.same)
          (subst (λ (p : View). IsKnown p c.filled-s.result.arena) (sym told) c.filled-s.ensures.known.arena);
    }
