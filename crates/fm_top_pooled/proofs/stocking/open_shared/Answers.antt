use Rattle.fm_top_pooled.proofs.Opening.{has_slot, opens}
use Rattle.fm_top_pooled.proofs.stocking.open_shared.Goals as goal

pub returns : goal.returns
returns g c = opens c.args.pool.now c.args.pass.now c.open_arena.new.pass c.in-Ok.arena c.requires.lone c.in-Ok.ensures

pub unreachable-unreachable : goal.unreachable-unreachable
unreachable-unreachable g c =
    has_slot c.args.pool.now c.args.pass.now c.open_arena.new.pass c.in-Err.field-0 c.requires.lone c.requires.free c.in-Err.ensures
