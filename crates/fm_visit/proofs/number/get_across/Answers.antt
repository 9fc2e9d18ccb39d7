use Rattle.std.proofs.Common.{◌≡◌, ◌+◌, ◌-◌, ◌/◌, ◌%◌, [], ◌∷◌, arith}
use Rattle.fm_base.specs.Calls.{Read, Found}
use Rattle.fm_visit.proofs.{Getting.{high_fits, sum_fits, got_two}, Putting.{reaches_word, still_reaches}}
use Rattle.fm_visit.proofs.number.get_across.Goals as goal

pub get_piece-low-requires-clause-reach : goal.get_piece-low-requires-clause-reach
get_piece-low-requires-clause-reach g c = reaches_word c.requires.reach (let across = c.requires.across in omega arith)

pub get_piece-high-requires-clause-reach : goal.get_piece-high-requires-clause-reach
get_piece-high-requires-clause-reach g c =
    let across = c.requires.across in
    let few = c.requires.few in
    let from = c.from.ensures in
    let p = c.get_piece-low.ensures in
    reaches_word (still_reaches ((Read c.args.arena (c.args.place / 8), Found p.word) ∷ []) (c.args.place + c.from.result) (c.args.width - (8 - c.args.place % 8)) c.requires.reach p.did p.inside (omega arith)) (omega arith)

pub overflow_add-result : goal.overflow_add-result
overflow_add-result g c =
    let across = c.requires.across in
    let few = c.requires.few in
    let p = c.get_piece-low.ensures in
    let q = rw c.from.ensures at c.get_piece-high.ensures in
    rw (high_fits p q (omega arith)) (let f = sum_fits p q (omega arith) in omega arith)

pub returns-clause-did : goal.returns-clause-did
returns-clause-did g c =
    let across = c.requires.across in
    let few = c.requires.few in
    let p = c.get_piece-low.ensures in
    let q = rw c.from.ensures at c.get_piece-high.ensures in
    let sum : c.args.width ≡ 8 - c.args.place % 8 + (c.args.width - (8 - c.args.place % 8)) = omega arith in
    rw (high_fits p q (omega arith), sum) (got_two p q (omega arith) (omega arith) (omega arith) (omega arith))
