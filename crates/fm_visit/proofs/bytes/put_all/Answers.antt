use Rattle.std.proofs.Common.{◌≡◌, ◌-◌, ℕ, List, length, take, drop, arith, ap, ◌∙◌, subst}
use Rattle.std.proofs.lemmas.List.{length-drop, take_rest}
use Rattle.fm_base.specs.View.{Did}
use Rattle.fm_segment_access.specs.Ranges.{putting}
use Rattle.fm_visit.specs.{Acts.{HasActs}, Values.{PutsNext}}
use Rattle.fm_visit.proofs.Putting.{up_to_starts, up_to_next, up_to_all, still_reaches}
use Rattle.fm_visit.proofs.bytes.put_all.Goals as goal

-- How many bytes are left.
length-rest : (bytes : List ℕ) (n : ℕ) → length (take (length bytes - n) (drop n bytes)) ≡ length bytes - n
length-rest bytes n = ap length (take_rest bytes n) ∙ length-drop n bytes

pub loop-at-init : goal.loop-at-init
loop-at-init g c = up_to_starts c.args.place c.args.bytes.now c.requires.inside

pub overflow_sub-at : goal.overflow_sub-at
overflow_sub-at g c = let a = c.loop-at.invariant.above in omega arith

pub put_next-requires-clause-reach : goal.put_next-requires-clause-reach
put_next-requires-clause-reach g c =
    let above = c.loop-at.invariant.above in
    let below = c.loop-at-test.true in
    let rest = length-rest c.args.bytes.now (c.loop-at.at - c.args.place) in
    still_reaches _ c.loop-at.at (length (take (length c.args.bytes.now - (c.loop-at.at - c.args.place)) (drop (c.loop-at.at - c.args.place) c.args.bytes.now)))
    c.requires c.loop-at.invariant.way.did c.loop-at.invariant.way.inside (omega arith)

pub put_next-requires-clause-some : goal.put_next-requires-clause-some
put_next-requires-clause-some g c =
    let above = c.loop-at.invariant.above in
    let below = c.loop-at-test.true in
    omega (arith, length-rest c.args.bytes.now (c.loop-at.at - c.args.place))

pub loop-at-preserved : goal.loop-at-preserved
loop-at-preserved g c =
    let now = g.M.Memory.view c.loop-at.m in
    let next = g.M.Memory.view c.put_next.new.m in
    let above = c.loop-at.invariant.above in
    let within = c.put_next.ensures.within in
    let below = c.loop-at-test.true in
    up_to_next c.loop-at.invariant c.put_next.result (omega (arith, length-rest c.args.bytes.now (c.loop-at.at - c.args.place)))
    (subst (λ (bytes : List ℕ). Did now next (HasActs now.caller (PutsNext c.args.arena (putting c.loop-at.at bytes) c.put_next.result)))
    (take_rest c.args.bytes.now (c.loop-at.at - c.args.place)) c.put_next.ensures.did) c.put_next.ensures.inside

pub returns-clause-did : goal.returns-clause-did
returns-clause-did g c = up_to_all c.loop-at.invariant (let f = c.loop-at-test.false in omega arith)

pub returns-clause-inside : goal.returns-clause-inside
returns-clause-inside g c = c.loop-at.invariant.way.inside
