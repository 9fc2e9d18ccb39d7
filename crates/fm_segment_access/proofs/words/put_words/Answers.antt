use Rattle.std.proofs.Common.{◌+◌, ◌*◌, ◌/◌, ◌^◌, ◌≤◌, arith, ◌∙◌, refl}
use Rattle.fm_base.specs.{View.{given_in}, Visits.{writes}}
use Rattle.fm_base_bytes.specs.Words.{words_from}
use Rattle.fm_segment_access.proofs.Touching.{visited_inside}
use Rattle.fm_segment_access.proofs.words.put_words.Goals as goal

pub store_words-requires-clause-reach : goal.store_words-requires-clause-reach
store_words-requires-clause-reach g c =
    let v = g.M.Memory.view in
    let e = c.in_ok-enter.ensures in
    let touch = c.requires.touch in
    let given : c.args.place + 8 * c.args.count ≤ given_in (v c.args.m.now) c.args.arena = touch.given in
    let small : c.args.place + 8 * c.args.count ≤ 2 ^ 40 = touch.small in
    let more : given_in (v c.args.m.now) c.args.arena ≤ given_in (v c.enter.new.self) c.args.arena = e.lasts.given c.args.arena in
    record { id = c.args.arena; inside = e.inside; given = (let even = c.requires.even in omega arith); small = (let even = c.requires.even in omega arith) }

pub returns : goal.returns
returns g c =
    let a = c.store_words.ensures in
    let inside = c.in_ok-enter.ensures.inside in
    visited_inside (writes c.args.arena (c.args.place / 8) (words_from c.args.count c.args.bytes.now)) c.in_ok-enter.ensures.did (a.inside ∙ inside) a.did
    (rw inside at a.did.does) c.leave.ensures (λ may. (may, refl))
