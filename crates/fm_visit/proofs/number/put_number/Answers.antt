use Rattle.std.proofs.Common.{◌+◌, ◌*◌, ◌%◌, ◌^◌, ◌<◌, ◌≤◌, arith, sym, subst}
use Rattle.fm_base_bytes.proofs.Bytes.{lane-lt}
use Rattle.fm_visit.proofs.Putting.{put_one, reaches_word}
use Rattle.fm_visit.proofs.number.put_number.Goals as goal

pub put_inside-requires-clause-reach : goal.put_inside-requires-clause-reach
put_inside-requires-clause-reach g c = reaches_word c.requires.reach c.requires.some

pub put_inside-requires-clause-fits : goal.put_inside-requires-clause-fits
put_inside-requires-clause-fits g c = subst (λ n. n < 2 ^ (8 * c.args.width)) (sym c.read.ensures) (lane-lt c.args.number 0 c.args.width)

pub returns-then-place-from-le8-clause-did : goal.returns-then-place-from-le8-clause-did
returns-then-place-from-le8-clause-did g c =
    let fits : c.args.place % 8 + c.args.width ≤ 8 = (let t = c.if-place-from-le8.true in let e = c.from.ensures in omega arith) in
    put_one c.args.number c.requires.reach.inside c.requires.some fits c.read.ensures c.put_inside.ensures.did c.put_inside.ensures.inside
