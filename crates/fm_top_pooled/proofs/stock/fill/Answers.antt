use Rattle.std.proofs.Common.{Ok, subst}
use Rattle.fm_base.specs.{declared.arena_id.ArenaId.{ArenaId}, View.{Did}}
use Rattle.fm_rule_calls.specs.Told.{view_of_pass}
use Rattle.fm_segment_access.specs.Runs.{DoesPutAll}
use Rattle.fm_top_load.specs.Held.{PutsHeld}
use Rattle.fm_top_pooled.proofs.Filed.{stock_filled}
use Rattle.fm_top_pooled.proofs.stock.fill.Goals as goal

pub returns-clause-stock : goal.returns-clause-stock
returns-clause-stock g c =
    let x = view_of_pass c.new-memory.result in
    let z = view_of_pass c.put_held.new.m in
    let put = c.put_held.ensures in
    let left = c.into_pass.ensures in
    (stock_filled c.requires.stock c.new-memory.ensures left.same (left.outside c.args.stock.pool) left.sound c.args.bytes.now c.requires.all
    (subst (λ (a : ArenaId). Did x z (DoesPutAll c.new-memory.result.caller a 0 c.args.bytes.now (Ok tt))) c.arena.ensures put.did) put.are
    (subst (λ (a : ArenaId). PutsHeld x z a 0 c.args.bytes.now) c.arena.ensures put.puts)).0

pub returns-clause-bytes : goal.returns-clause-bytes
returns-clause-bytes g c =
    let x = view_of_pass c.new-memory.result in
    let z = view_of_pass c.put_held.new.m in
    let put = c.put_held.ensures in
    let left = c.into_pass.ensures in
    (stock_filled c.requires.stock c.new-memory.ensures left.same (left.outside c.args.stock.pool) left.sound c.args.bytes.now c.requires.all
    (subst (λ (a : ArenaId). Did x z (DoesPutAll c.new-memory.result.caller a 0 c.args.bytes.now (Ok tt))) c.arena.ensures put.did) put.are
    (subst (λ (a : ArenaId). PutsHeld x z a 0 c.args.bytes.now) c.arena.ensures put.puts)).1
