use Rattle.std.{proofs.Common.{refl, subst}, specs.Prelude.{Result, IfOk}}
use Rattle.fm_base.specs.declared.{arena_id.ArenaId.{ArenaId}, refusal.Refusal.{Refusal}}
use Rattle.fm_gate.specs.{Needs.{HasHandle}, Learnt.{AfterAgain}}
use Rattle.fm_gate_tests.proofs.tests.closes.kinds.with_two_handles.Goals as goal

pub returns-clause-two : goal.returns-clause-two
returns-clause-two g c =
    let first = subst (λ (r : Result ArenaId Refusal). IfOk r (λ a. HasHandle c.args.pool.now c.open_arena.new.pass a))
    c.expect-a.ensures (c.open_arena.ensures.handle refl) in
    let second = subst (λ (r : Result (Unit {0}) Refusal). AfterAgain c.args.pool.now c.open_arena.new.pass c.again.new.pass c.expect-a.result r)
    c.expect.ensures c.again.ensures in
    c.a_handle_lasts.ensures.two c.args.pool.now _ _ c.expect-a.result second first
