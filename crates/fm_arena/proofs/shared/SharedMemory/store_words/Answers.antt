use Rattle.std.proofs.{Common.{◌-◌, length, drop, arith, subst}, lemmas.List.{length-take-le, length-drop, take_all}}
use Rattle.fm_base.{specs.Learnt.{AfterStores}, proofs.Rows.{acts_none, writes_in_a_row}}
use Rattle.fm_rule_calls.specs.Told.{view_of_pass}
use Rattle.fm_arena.proofs.Pages.{rest_reaches, puts_more}
use Rattle.fm_arena.proofs.shared.SharedMemory.store_words.Goals as goal

pub loop-k-init : goal.loop-k-init
loop-k-init c = (acts_none writes_in_a_row c.args.first (length c.args.words.now) c.caller.ensures.sound c.requires, omega arith)

pub store_page-k-requires-clause-reach : goal.store_page-k-requires-clause-reach
store_page-k-requires-clause-reach c = rest_reaches c.loop-k.k c.args.words.now c.loop-k.invariant.0 c.loop-k.invariant.1 c.requires

pub loop-k-preserved : goal.loop-k-preserved
loop-k-preserved c =
    let below = c.loop-k-test.true in
    let words = c.args.words.now in
    let left = length-drop c.loop-k.k words in
    let whole = length-take-le (length words - c.loop-k.k) (drop c.loop-k.k words) (omega arith) in
    let within = c.store_page-k.ensures.within in
    (puts_more c.loop-k.k words c.loop-k.invariant.0 c.loop-k.invariant.1 c.store_page-k.result (omega arith) c.store_page-k.ensures.stores, omega arith)

pub returns : goal.returns
returns c =
    let last = c.loop-k-test.false in
    let below = c.loop-k.invariant.1 in
    subst (λ ws. AfterStores (view_of_pass c.args.self.now) (view_of_pass c.loop-k.self) c.args.first ws) (take_all c.loop-k.k c.args.words.now (omega arith)) c.loop-k.invariant.0
