use Rattle.std.proofs.Common.{Ok, Err, ap, subst, ◌∙◌}
use Rattle.fm_base.specs.{declared.arena_id.ArenaId.{ArenaId}, View.{Did}}
use Rattle.fm_rule_calls.specs.Told.{view_of_pass}
use Rattle.fm_segment.specs.Region.{region_of}
use Rattle.fm_top_load.specs.{Filled.{Fills}, Putting.{PutsStretch}, declared.room.Room.TheVariants.{Given}}
use Rattle.fm_top_load.proofs.Telling.{tells_of}
use Rattle.fm_top_pooled.proofs.Filed.{by_reads, holds_room, stock_put}
use Rattle.fm_top_pooled.proofs.loading.put_file.Goals as goal

pub returns-clause-put : goal.returns-clause-put
returns-clause-put g c =
    let m = c.new-memory.result in
    let x = view_of_pass m in
    let z = view_of_pass c.put_stretch.new.m in
    let at = c.arena-arena.ensures in
    let stretch = c.args.stretch.now in
    let told = (g.F.Files.view c.args.files.now).holds in
    let left = c.into_pass.ensures in
    let room = holds_room stretch c.requires.stock c.new-memory.ensures at c.requires.all in
    stock_put c.requires.stock c.new-memory.ensures left.same (left.outside c.args.room.pool) left.sound c.of.result c.requires.all
    (subst (λ (a : ArenaId). Did x z (PutsStretch stretch told m.caller (Given a) c.args.portion.now c.in-Ok.reached)) at c.in-Ok.ensures.did)
    (subst (λ (a : ArenaId). Fills _ stretch told x z (Given a) (Ok c.in-Ok.reached)) at (c.in-Ok.ensures.alone room))
    (c.of.ensures ∙ ap (λ (a : ArenaId). region_of a 0 c.in-Ok.reached.count) at)

pub returns-in-Err-clause-tells : goal.returns-in-Err-clause-tells
returns-in-Err-clause-tells g c =
    let room = holds_room c.args.stretch.now c.requires.stock c.new-memory.ensures c.arena-arena.ensures c.requires.all in
    tells_of (λ by. by_reads c.in-Err.fault by (λ r e. (c.in-Err.ensures.alone room).wants r (ap Err e))) c.in-Err.ensures.tells
