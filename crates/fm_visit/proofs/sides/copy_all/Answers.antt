use Rattle.std.proofs.Common.{arith}
use Rattle.fm_visit.proofs.Pairs.{copy_starts, copy_on, copy_done, first_reaches, second_reaches}
use Rattle.fm_visit.proofs.sides.copy_all.Goals as goal

pub loop-left-init : goal.loop-left-init
loop-left-init g c = copy_starts c.args.from c.args.to c.args.n c.way_of-way.result c.requires.first.inside

pub next_piece-piece-requires-clause-left : goal.next_piece-piece-requires-clause-left
next_piece-piece-requires-clause-left g c = c.loop-left.invariant.below

pub copy_piece-requires-clause-first : goal.copy_piece-requires-clause-first
copy_piece-requires-clause-first g c =
    let w = c.loop-left.invariant.way_is in
    first_reaches w.so_far c.requires w.did w.inside c.next_piece-piece.result c.next_piece-piece.ensures.piece

pub copy_piece-requires-clause-second : goal.copy_piece-requires-clause-second
copy_piece-requires-clause-second g c =
    let w = c.loop-left.invariant.way_is in
    second_reaches w.so_far c.requires w.did w.inside c.next_piece-piece.result c.next_piece-piece.ensures.piece

pub loop-left-preserved : goal.loop-left-preserved
loop-left-preserved g c =
    rw c.from-left.ensures (copy_on c.loop-left.invariant c.next_piece-piece.result c.loop-left-test.true c.next_piece-piece.ensures.value
    c.copy_piece.ensures.inside c.copy_piece.ensures.did)

pub returns-clause-did : goal.returns-clause-did
returns-clause-did g c = copy_done c.loop-left.invariant c.way_of-way.ensures (let t = c.loop-left-test.false in omega arith)

pub returns-clause-inside : goal.returns-clause-inside
returns-clause-inside g c = c.loop-left.invariant.way_is.inside
