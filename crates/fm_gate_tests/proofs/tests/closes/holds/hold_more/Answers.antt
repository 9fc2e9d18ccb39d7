use Rattle.std.proofs.Common.{subst}
use Rattle.fm_base.specs.declared.arena_id.ArenaId.{ArenaId}
use Rattle.fm_gate.specs.Learnt.{AfterHold}
use Rattle.fm_gate_tests.proofs.tests.closes.holds.hold_more.Goals as goal

pub returns-clause-first : goal.returns-clause-first
returns-clause-first g c = c.both_holds_stand.ensures.at_hold _ _ _ _ _ _ c.hold.ensures c.requires.first

pub returns-clause-both : goal.returns-clause-both
returns-clause-both g c =
    c.both_holds_stand.ensures.both _ _ _ _ _
    (subst (λ (a : ArenaId). AfterHold c.args.pool.now c.args.pass.now c.hold.new.pass a c.hold.result) c.arena.ensures c.hold.ensures) c.requires.first
