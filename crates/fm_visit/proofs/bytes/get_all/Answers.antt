use Rattle.std.proofs.Common.{◌≡◌, ◌-◌, ℕ, List, length, take, drop, ap, ◌∙◌, arith}
use Rattle.std.proofs.lemmas.List.{length-drop, take_rest}
use Rattle.fm_visit.proofs.{Loading.{got_starts, got_next, got_all}, Putting.{still_reaches}}
use Rattle.fm_visit.proofs.bytes.get_all.Goals as goal

-- How many bytes are left.
length-rest : (bytes : List ℕ) (n : ℕ) → length (take (length bytes - n) (drop n bytes)) ≡ length bytes - n
length-rest bytes n = ap length (take_rest bytes n) ∙ length-drop n bytes

pub loop-at-init : goal.loop-at-init
loop-at-init g c = got_starts c.args.place c.args.into.now c.requires.inside

pub get_next-requires-clause-reach : goal.get_next-requires-clause-reach
get_next-requires-clause-reach g c =
    let above = c.loop-at.invariant.above in
    let below = c.loop-at.invariant.below in
    let rest = length-rest c.loop-at.into (c.loop-at.at - c.args.place) in
    let same = c.loop-at.auto.into in
    still_reaches _ c.loop-at.at (length (take (length c.loop-at.into - (c.loop-at.at - c.args.place)) (drop (c.loop-at.at - c.args.place) c.loop-at.into)))
    c.requires c.loop-at.invariant.did c.loop-at.invariant.inside (omega arith)

pub loop-at-preserved : goal.loop-at-preserved
loop-at-preserved g c =
    let above = c.loop-at.invariant.above in
    let rest = length-rest c.loop-at.into (c.loop-at.at - c.args.place) in
    let size = c.get_next.ensures.size in
    let within = c.get_next.ensures.within in
    got_next c.loop-at.invariant c.get_next.result c.get_next.new.into (size ∙ rest) (omega arith) c.get_next.ensures.did c.get_next.ensures.inside

pub returns-clause-did : goal.returns-clause-did
returns-clause-did g c =
    let same = c.loop-at.auto.into in
    got_all c.loop-at.invariant (let f = c.loop-at-test.false in omega arith)
