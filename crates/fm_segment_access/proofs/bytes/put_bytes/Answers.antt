use Rattle.std.proofs.Common.{◌≡◌, ◌+◌, ◌-◌, ◌<◌, ◌≤◌, ℕ, List, length, take, drop, arith, sym, subst, ap, ◌∙◌, length-drop, Ok}
use Rattle.std.proofs.lemmas.{Bool.{eqb-true, eqb-false}, List.{take_rest, nil_from_length}, Result.{err_from_is_err_and}}
use Rattle.fm_base.specs.View.{Did}
use Rattle.fm_segment_access.{specs.{Ranges.{putting}, Runs.{PutsMore, DoesPutNext}}, proofs.{Alone.{AreBytes-slice}, Learnt.{after_no_bytes, after_bytes}}}
use Rattle.fm_segment_access.proofs.{Putting.{put_lasts, puts_on, put_refused, puts_all}, PuttingAlone.{words_put}, Touching.{touch_later}}
use Rattle.fm_segment_access.proofs.bytes.put_bytes.Goals as goal

-- How many bytes are left.
length-rest : (bytes : List ℕ) (n : ℕ) → length (take (length bytes - n) (drop n bytes)) ≡ length bytes - n
length-rest bytes n = ap length (take_rest bytes n) ∙ length-drop n bytes

pub returns-then-is_empty : goal.returns-then-is_empty
returns-then-is_empty g c =
    let none = eqb-true (length c.args.bytes.now) 0 (sym c.is_empty.ensures ∙ c.if-is_empty.true) in
    after_no_bytes PutsMore (length c.args.bytes.now) c.args.bytes.now c.requires none (nil_from_length c.args.bytes.now none)

pub put_next-requires-clause-touch : goal.put_next-requires-clause-touch
put_next-requires-clause-touch g c =
    let i = c.loop-at.invariant in
    let above = i.above in
    let below = c.loop-at-test.true in
    let rest = length-rest c.args.bytes.now (c.loop-at.at - c.args.place) in
    touch_later c.loop-at.at (length (take (length c.args.bytes.now - (c.loop-at.at - c.args.place)) (drop (c.loop-at.at - c.args.place) c.args.bytes.now)))
    c.requires (put_lasts i) i.outside (omega arith)

pub returns-in_err-at : goal.returns-in_err-at
returns-in_err-at g c =
    let p = err_from_is_err_and c.from_residual.result c.from_residual.ensures.1 in
    let some : 0 < length c.args.bytes.now = (let t = c.loop-at-test.true in let a = c.loop-at.invariant.above in omega arith) in
    after_bytes words_put (length c.args.bytes.now) c.requires some (AreBytes-slice c.args.bytes.now c.type_inv.bytes)
    (rw (p.1, p.2) (put_refused c.loop-at.invariant c.in_err-at.field-0.0 c.loop-at-test.true c.in_err-at.ensures.did.did))

pub loop-at-preserved : goal.loop-at-preserved
loop-at-preserved g c =
    let now = g.M.Memory.view c.loop-at.m in
    let next = g.M.Memory.view c.put_next.new.m in
    let i = c.loop-at.invariant in
    let e = c.in_ok-at.ensures in
    let fits : c.loop-at.at + c.in_ok-at.field-0 ≤ c.args.place + length c.args.bytes.now =
    (let a = i.above in let t = c.loop-at-test.true in let w = e.within in omega (arith, length-rest c.args.bytes.now (c.loop-at.at - c.args.place))) in
    puts_on i c.in_ok-at.field-0 fits e.did.outside
    (subst (λ (bytes : List ℕ). Did now next (DoesPutNext now.caller c.args.arena (putting c.loop-at.at bytes) (Ok c.in_ok-at.field-0)))
    (take_rest c.args.bytes.now (c.loop-at.at - c.args.place)) e.did.did)

pub returns : goal.returns
returns g c =
    let some : 0 < length c.args.bytes.now = (let n = eqb-false (length c.args.bytes.now) 0 (sym c.is_empty.ensures ∙ c.if-is_empty.false) in omega arith) in
    after_bytes words_put (length c.args.bytes.now) c.requires some (AreBytes-slice c.args.bytes.now c.type_inv.bytes)
    (puts_all c.loop-at.invariant (let f = c.loop-at-test.false in omega arith) some)
