use Rattle.std.proofs.Common.{subst}
use Rattle.fm_base.specs.declared.arena_id.ArenaId.{ArenaId}
use Rattle.fm_gate.specs.Learnt.{AfterUnhold}
use Rattle.fm_gate_tests.proofs.tests.closes.holds.close_and_spend.Goals as goal

pub unhold-requires : goal.unhold-requires
unhold-requires g c = (c.both_holds_stand.ensures.stand _ _ _ _ _ _ _ c.close-answer.ensures.did.goes c.close-answer.ensures.did.rest c.requires.both).second

pub returns-clause-first : goal.returns-clause-first
returns-clause-first g c =
    let b = c.both_holds_stand.ensures.stand _ _ _ _ _ _ _ c.close-answer.ensures.did.goes c.close-answer.ensures.did.rest c.requires.both in
    (c.both_holds_stand.ensures.one_left _ _ _ _ _ b
    (subst (λ (a : ArenaId). AfterUnhold c.args.pool.now c.close-answer.new.pass c.unhold.new.pass a) c.requires.both.same c.unhold.ensures)).0
