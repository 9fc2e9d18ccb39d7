use Rattle.std.proofs.Common.{Ok, Err, subst}
use Rattle.fm_base.specs.{declared.arena_id.ArenaId.{ArenaId}, Learnt.{AfterClose}}
use Rattle.fm_arena.specs.Shares.{IsGone}
use Rattle.fm_rule_calls.specs.Told.{view_of_pass}
use Rattle.fm_workers_chunks.proofs.Closing.{both_done, not_answered, not_closed}
use Rattle.fm_workers_chunks.proofs.answering.answer_and_close.Goals as goal

pub returns-in-Err : goal.returns-in-Err
returns-in-Err g c = not_answered c.in-Err.refusal c.requires c.in-Err.ensures

pub returns-in-Ok-close : goal.returns-in-Ok-close
returns-in-Ok-close g c = both_done c.args.memory.now c.query_segment.new.m c.close.new.self c.in-Ok.answer c.in-Ok.ensures
    (subst (λ (i : ArenaId). AfterClose (view_of_pass c.query_segment.new.m) (view_of_pass c.close.new.self) i (Ok tt)) c.arena.ensures c.in-Ok-close.ensures.closes)
    (subst (λ (i : ArenaId). IsGone c.close.new.self i) c.arena.ensures c.in-Ok-close.ensures.gone)

pub returns-in-Err-close : goal.returns-in-Err-close
returns-in-Err-close g c = not_closed c.args.memory.now c.query_segment.new.m c.close.new.self c.in-Ok.answer c.in-Ok.ensures c.in-Err-close.refusal c.requires
    (subst (λ (i : ArenaId). AfterClose (view_of_pass c.query_segment.new.m) (view_of_pass c.close.new.self) i (Err c.in-Err-close.refusal)) c.arena.ensures
    c.in-Err-close.ensures.closes)
