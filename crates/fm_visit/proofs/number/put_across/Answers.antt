use Rattle.std.proofs.Common.{◌≡◌, ◌+◌, ◌-◌, ◌*◌, ◌%◌, ◌^◌, ◌<◌, arith, sym, subst}
use Rattle.fm_base_bytes.proofs.Bytes.{lane-lt}
use Rattle.fm_visit.proofs.Putting.{inside_acts, put_two, reaches_word, still_reaches}
use Rattle.fm_visit.proofs.number.put_across.Goals as goal

pub put_inside-requires-clause-reach : goal.put_inside-requires-clause-reach
put_inside-requires-clause-reach g c = reaches_word c.requires.reach (let across = c.requires.across in omega arith)

pub put_inside-requires-clause-fits : goal.put_inside-requires-clause-fits
put_inside-requires-clause-fits g c = subst (λ n. n < 2 ^ (8 * (8 - c.args.place % 8))) (sym c.read.ensures) (lane-lt c.args.number 0 (8 - c.args.place % 8))

pub put_inside-requires-2-clause-reach : goal.put_inside-requires-2-clause-reach
put_inside-requires-2-clause-reach g c =
    let across = c.requires.across in
    let few = c.requires.few in
    let from = c.from.ensures in
    let p = c.put_inside.ensures in
    reaches_word (still_reaches _ (c.args.place + c.from.result) (c.args.width - (8 - c.args.place % 8)) c.requires.reach (inside_acts p.did) p.inside (omega arith))
    (omega arith)

pub put_inside-requires-2-clause-fits : goal.put_inside-requires-2-clause-fits
put_inside-requires-2-clause-fits g c =
    subst (λ n. n < 2 ^ (8 * (c.args.width - (8 - c.args.place % 8)))) (sym c.read-2.ensures)
    (lane-lt c.args.number (8 - c.args.place % 8) (c.args.width - (8 - c.args.place % 8)))

pub returns-clause-did : goal.returns-clause-did
returns-clause-did g c =
    let across = c.requires.across in
    let few = c.requires.few in
    let sum : c.args.width ≡ 8 - c.args.place % 8 + (c.args.width - (8 - c.args.place % 8)) = omega arith in
    rw sum (put_two (8 - c.args.place % 8) (c.args.width - (8 - c.args.place % 8)) c.args.number c.requires.reach.inside (omega arith) (omega arith) (omega arith)
    (omega arith) c.read.ensures c.read-2.ensures c.put_inside.ensures.did c.put_inside.ensures.inside
    (rw c.from.ensures at c.put_inside-2.ensures.did) c.put_inside-2.ensures.inside)
