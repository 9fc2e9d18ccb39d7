use Rattle.std.proofs.Common.{Err, ap, refl}
use Rattle.fm_top_load.proofs.Telling.{tells_of}
use Rattle.fm_top_pooled.proofs.Filed.{by_reads}
use Rattle.fm_top_stream.proofs.Beginning.{begins, can_put, room_for}
use Rattle.fm_top_stream.proofs.streaming.begin.Goals as goal

pub put_stretch-requires : goal.put_stretch-requires
put_stretch-requires g c = can_put c.requires c.give_chunk.ensures c.new-memory.ensures

pub returns-clause-has : goal.returns-clause-has
returns-clause-has g c =
    let left = c.into_pass.ensures in
    let put = c.in-Ok.ensures in
    begins c.requires c.open_chunk-arena.ensures c.give_chunk.ensures c.new-memory.ensures put.did
    (put.alone (room_for c.args.stretch.now c.give_chunk.ensures c.new-memory.ensures c.requires.asks.room)) left.same (left.outside c.args.crew.now.pool.now) left.sound refl refl

pub returns-in-Err-clause-tells : goal.returns-in-Err-clause-tells
returns-in-Err-clause-tells g c =
    let put = c.in-Err.ensures in
    let fills = put.alone (room_for c.args.stretch.now c.give_chunk.ensures c.new-memory.ensures c.requires.asks.room) in
    tells_of (λ by. by_reads c.in-Err.fault by (λ r e. fills.wants r (ap Err e))) put.tells
