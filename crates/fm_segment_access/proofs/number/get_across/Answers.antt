use Rattle.std.proofs.{Common.{◌≡◌, ◌+◌, ◌-◌, ◌%◌, arith}, lemmas.Result.{err_from_is_err_and}}
use Rattle.fm_segment_access.proofs.Getting.{got_none, got_half, pieces_placed, got_two}
use Rattle.fm_segment_access.proofs.number.get_across.Goals as goal

pub returns-in_err-low : goal.returns-in_err-low
returns-in_err-low g c =
    let p = err_from_is_err_and c.from_residual.result c.from_residual.ensures.1 in
    let first = 8 - c.args.place % 8 in
    let sum : c.args.width ≡ 8 - c.args.place % 8 + (c.args.width - (8 - c.args.place % 8)) = (let across = c.requires.across in omega arith) in
    rw (p.1, p.2, sum) (got_none c.args.arena c.args.place first (c.args.width - first) (omega arith) (let across = c.requires.across in omega arith)
    (let few = c.requires.touch.few in omega arith) c.in_err-low.field-0.0 (omega arith) c.in_err-low.ensures.did)

pub returns-in_err-high : goal.returns-in_err-high
returns-in_err-high g c =
    let p = err_from_is_err_and c.from_residual-in_err-high.result c.from_residual-in_err-high.ensures.1 in
    let first = 8 - c.args.place % 8 in
    let sum : c.args.width ≡ 8 - c.args.place % 8 + (c.args.width - (8 - c.args.place % 8)) = (let across = c.requires.across in omega arith) in
    rw (p.1, p.2, sum) (got_half c.args.arena c.args.place first (c.args.width - first) (omega arith) (let across = c.requires.across in omega arith)
    (let few = c.requires.touch.few in omega arith) c.in_ok-low.low c.in_ok-low.ensures.did c.in_err-high.field-0.0 (omega arith)
    (rw c.from.ensures at c.in_err-high.ensures.did))

pub overflow_add-result : goal.overflow_add-result
overflow_add-result g c =
    let first = 8 - c.args.place % 8 in
    let p = pieces_placed c.args.arena c.args.place first (c.args.width - first) (omega arith) (let across = c.requires.across in omega arith)
    (let few = c.requires.touch.few in omega arith) c.in_ok-low.low c.in_ok-low.ensures.did c.in_ok-high.high (rw c.from.ensures at c.in_ok-high.ensures.did) in
    rw p.whole (let f = p.fits in omega arith)

pub returns : goal.returns
returns g c =
    let first = 8 - c.args.place % 8 in
    let sum : c.args.width ≡ 8 - c.args.place % 8 + (c.args.width - (8 - c.args.place % 8)) = (let across = c.requires.across in omega arith) in
    let p = pieces_placed c.args.arena c.args.place first (c.args.width - first) (omega arith) (let across = c.requires.across in omega arith)
    (let few = c.requires.touch.few in omega arith) c.in_ok-low.low c.in_ok-low.ensures.did c.in_ok-high.high (rw c.from.ensures at c.in_ok-high.ensures.did) in
    rw (p.whole, sum) (got_two c.args.arena c.args.place first (c.args.width - first) (omega arith) (let across = c.requires.across in omega arith)
    (let few = c.requires.touch.few in omega arith) c.in_ok-low.low c.in_ok-low.ensures.did c.in_ok-high.high
    (rw c.from.ensures at c.in_ok-high.ensures.did) (omega arith))
