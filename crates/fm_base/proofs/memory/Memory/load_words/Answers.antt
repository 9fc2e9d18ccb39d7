use Rattle.std.proofs.{Common.{arith, sym, subst, length}, lemmas.List.{length-take-le, take_all, take_more_set}}
use Rattle.fm_base.{specs.Learnt.{AfterLoads}, proofs.Rows.{reads_in_a_row, acts_none, loads_one, act_reaches, acts_more}}
use Rattle.fm_base.proofs.memory.Memory.load_words.Goals as goal

pub loop-k-init : goal.loop-k-init
loop-k-init g c = acts_none reads_in_a_row c.args.first (length c.args.words.now) c.caller.ensures.sound c.requires

pub overflow_add-first : goal.overflow_add-first
overflow_add-first g c = let below = c.loop-k-test.true in let small = c.requires.small in omega arith

pub load-requires : goal.load-requires
load-requires g c =
    let words = c.loop-k.words in
    let same = c.loop-k.auto.words in
    let below = c.loop-k-test.true in
    act_reaches c.loop-k.invariant c.loop-k.k (length-take-le c.loop-k.k words (omega arith)) (length c.args.words.now) c.requires below

pub loop-k-preserved : goal.loop-k-preserved
loop-k-preserved g c =
    let v = g.Self.Memory.view in
    let words = c.loop-k.words in
    let same = c.loop-k.auto.words in
    let below = c.loop-k-test.true in
    subst (λ ws. AfterLoads (v c.args.self.now) (v c.load.new.self) c.args.first ws)
    (sym (take_more_set words c.loop-k.k c.load.result (omega arith)))
    (acts_more c.loop-k.invariant c.loop-k.k (length-take-le c.loop-k.k words (omega arith)) reads_in_a_row _ (loads_one _ _ c.load.ensures))

pub returns : goal.returns
returns g c =
    let v = g.Self.Memory.view in
    let same = c.loop-k.auto.words in
    let all = c.loop-k-test.false in
    subst (λ ws. AfterLoads (v c.args.self.now) (v c.loop-k.self) c.args.first ws) (take_all c.loop-k.k c.loop-k.words (omega arith)) c.loop-k.invariant
