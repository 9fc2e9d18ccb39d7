use Rattle.std.{proofs.Common.{sym, subst, Result}, specs.Prelude.{Err}}
use Rattle.fm_base.specs.declared.{arena_id.ArenaId.{ArenaId}, refusal.Refusal.{Refusal}}
use Rattle.fm_gate.{specs.Learnt.{AfterOpen}, proofs.Opens.{after_no_slot, after_opened}}
use Rattle.fm_gate.proofs.opening.open_arena.Goals as goal

abbrev err : Refusal → Result ArenaId Refusal
err r = Err r

pub returns-in-Err : goal.returns-in-Err
returns-in-Err g c =
    subst (λ (r : Refusal). AfterOpen c.args.pool.now c.args.pass.now c.take_slot.new.pass c.args.kind (err r)) (sym c.in-Err.ensures.no_slot.0)
    (after_no_slot c.requires c.in-Err.ensures.no_slot.1)

pub returns-in-Ok : goal.returns-in-Ok
returns-in-Ok g c = after_opened c.in-Ok.ensures.taken c.open_in.ensures c.requires
