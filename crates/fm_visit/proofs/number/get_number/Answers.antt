use Rattle.std.proofs.Common.{◌+◌, ◌%◌, ◌≤◌, arith}
use Rattle.fm_visit.proofs.{Getting.{got_one}, Putting.{reaches_word}}
use Rattle.fm_visit.proofs.number.get_number.Goals as goal

pub get_piece-requires-clause-reach : goal.get_piece-requires-clause-reach
get_piece-requires-clause-reach g c = reaches_word c.requires.reach c.requires.some

pub returns-then-place-from-le8-clause-did : goal.returns-then-place-from-le8-clause-did
returns-then-place-from-le8-clause-did g c =
    let fits : c.args.place % 8 + c.args.width ≤ 8 = (let t = c.if-place-from-le8.true in let e = c.from.ensures in omega arith) in
    got_one c.requires.some fits c.get_piece.ensures
