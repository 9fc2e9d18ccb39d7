use Rattle.std.proofs.Common.{◌≡◌, ◌+◌, arith, ap, None}
use Rattle.fm_visit.proofs.Pairs.{compare_starts, compare_on, compare_differs, compare_done, first_reaches, second_reaches}
use Rattle.fm_visit.proofs.sides.compare_all.Goals as goal

pub loop-left-init : goal.loop-left-init
loop-left-init g c = compare_starts c.args.first c.args.second c.args.n c.requires.first.inside

pub next_piece-piece-requires-clause-left : goal.next_piece-piece-requires-clause-left
next_piece-piece-requires-clause-left g c = c.loop-left.invariant.below

pub compare_piece-requires-clause-first : goal.compare_piece-requires-clause-first
compare_piece-requires-clause-first g c =
    let w = c.loop-left.invariant.way_is in
    first_reaches w.so_far c.requires w.did w.inside c.next_piece-piece.result c.next_piece-piece.ensures.piece

pub compare_piece-requires-clause-second : goal.compare_piece-requires-clause-second
compare_piece-requires-clause-second g c =
    let w = c.loop-left.invariant.way_is in
    second_reaches w.so_far c.requires w.did w.inside c.next_piece-piece.result c.next_piece-piece.ensures.piece

pub returns-in-Some-clause-did : goal.returns-in-Some-clause-did
returns-in-Some-clause-did g c =
    let d = rw c.in-Some.is at c.compare_piece.ensures.did in
    compare_differs c.loop-left.invariant c.next_piece-piece.result c.in-Some.at (c.next_piece-piece.result.offset + c.from.result)
    c.loop-left-test.true c.next_piece-piece.ensures.value c.compare_piece.ensures.inside (ap (λ n. c.next_piece-piece.result.offset + n) c.from.ensures) d

pub loop-left-preserved : goal.loop-left-preserved
loop-left-preserved g c =
    let none : c.compare_piece.result ≡ None = c.in_default.is in
    let d = rw none at c.compare_piece.ensures.did in
    rw c.from-left.ensures (compare_on c.loop-left.invariant c.next_piece-piece.result c.loop-left-test.true c.next_piece-piece.ensures.value
    c.compare_piece.ensures.inside d)

pub returns-clause-did : goal.returns-clause-did
returns-clause-did g c = compare_done c.loop-left.invariant (let t = c.loop-left-test.false in omega arith)

pub returns-clause-inside : goal.returns-clause-inside
returns-clause-inside g c = c.loop-left.invariant.way_is.inside
