use Rattle.std.proofs.Common.{◌+◌, ◌%◌, ◌≤◌, arith}
use Rattle.fm_segment_access.proofs.{Getting.{got_one}, Learnt.{after_get}}
use Rattle.fm_segment_access.proofs.number.get_number.Goals as goal

pub returns-then-place-from-le8 : goal.returns-then-place-from-le8
returns-then-place-from-le8 g c =
    let fits : c.args.place % 8 + c.args.width ≤ 8 = (let t = c.if-place-from-le8.true in let e = c.from.ensures in omega arith) in
    after_get c.requires (got_one c.args.arena c.args.place c.args.width c.get_piece.result c.requires.some fits c.get_piece.ensures.did)

pub returns-else-place-from-le8 : goal.returns-else-place-from-le8
returns-else-place-from-le8 g c = after_get c.requires c.get_across.ensures
