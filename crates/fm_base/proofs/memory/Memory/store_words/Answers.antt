use Rattle.std.proofs.{Common.{arith, sym, subst, length}, lemmas.List.{length-take-le, take_all, take_more}}
use Rattle.fm_base.{specs.Learnt.{AfterStores}, proofs.Rows.{writes_in_a_row, acts_none, stores_one, act_reaches, acts_more}}
use Rattle.fm_base.proofs.memory.Memory.store_words.Goals as goal

pub loop-k-init : goal.loop-k-init
loop-k-init g c = acts_none writes_in_a_row c.args.first (length c.args.words.now) c.caller.ensures.sound c.requires

pub overflow_add-first : goal.overflow_add-first
overflow_add-first g c = let below = c.loop-k-test.true in let small = c.requires.small in omega arith

pub store-requires : goal.store-requires
store-requires g c =
    let words = c.args.words.now in
    let below = c.loop-k-test.true in
    act_reaches c.loop-k.invariant c.loop-k.k (length-take-le c.loop-k.k words (omega arith)) (length words) c.requires below

pub loop-k-preserved : goal.loop-k-preserved
loop-k-preserved g c =
    let v = g.Self.Memory.view in
    let words = c.args.words.now in
    let below = c.loop-k-test.true in
    subst (λ ws. AfterStores (v c.args.self.now) (v c.store.new.self) c.args.first ws) (sym (take_more words c.loop-k.k 0 below))
    (acts_more c.loop-k.invariant c.loop-k.k (length-take-le c.loop-k.k words (omega arith)) writes_in_a_row _ (stores_one _ _ c.store.ensures))

pub returns : goal.returns
returns g c =
    let v = g.Self.Memory.view in
    subst (λ ws. AfterStores (v c.args.self.now) (v c.loop-k.self) c.args.first ws) (take_all c.loop-k.k c.args.words.now c.loop-k-test.false)
    c.loop-k.invariant
