use Rattle.std.proofs.{Common.{◌-◌, length, drop, arith, subst}, lemmas.List.{length-take-le, length-drop, take_all}}
use Rattle.fm_base.{specs.Learnt.{AfterLoads}, proofs.Rows.{acts_none, reads_in_a_row}}
use Rattle.fm_rule_calls.specs.Told.{view_of_pass}
use Rattle.fm_arena.proofs.Pages.{behind_fits, rest_reaches, page_more}
use Rattle.fm_arena.proofs.shared.SharedMemory.load_words.Goals as goal

pub loop-k-init : goal.loop-k-init
loop-k-init c = (acts_none reads_in_a_row c.args.first (length c.args.words.now) c.caller.ensures.sound c.requires, omega arith)

pub load_page-k-requires-clause-reach : goal.load_page-k-requires-clause-reach
load_page-k-requires-clause-reach c =
    rest_reaches c.loop-k.k c.loop-k.words c.loop-k.invariant.0 c.loop-k.invariant.1 (rw c.loop-k.auto.words c.requires)

pub loop-k-preserved : goal.loop-k-preserved
loop-k-preserved c =
    let below = c.loop-k-test.true in
    let left = length-drop c.loop-k.k c.loop-k.words in
    let whole = length-take-le (length c.loop-k.words - c.loop-k.k) (drop c.loop-k.k c.loop-k.words) (omega arith) in
    let size = c.load_page-k.ensures.size in
    let within = c.load_page-k.ensures.within in (
      page_more c.loop-k.k c.loop-k.words c.loop-k.invariant.0 c.loop-k.invariant.1 c.load_page-k.result c.load_page-k.new.words (omega arith) c.load_page-k.ensures.loads,
      behind_fits c.loop-k.k c.load_page-k.result c.loop-k.words c.load_page-k.new.words c.loop-k.invariant.1 (omega arith),
    )

pub returns : goal.returns
returns c =
    let last = c.loop-k-test.false in
    let below = c.loop-k.invariant.1 in
    subst (λ ws. AfterLoads (view_of_pass c.args.self.now) (view_of_pass c.loop-k.self) c.args.first ws) (take_all c.loop-k.k c.loop-k.words (omega arith)) c.loop-k.invariant.0
