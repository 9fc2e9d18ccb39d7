use Rattle.std.proofs.{Common.{◌≡◌, ◌%◌, ◌<◌, ◌≤◌, length, take, length-set, ap, sym, subst, ◌∙◌, arith}, Math.Nat.{mod-lt}}
use Rattle.fm_base.specs.Learnt.{AfterLoads}
use Rattle.fm_words.specs.declared.shape.Shape.{Shape}
use Rattle.fm_rule_calls.specs.Told.{view_of_pass}
use Rattle.fm_arena.proofs.Pages.{loaded_one, next_reaches, next_stands, loaded_more}
use Rattle.fm_arena.proofs.shared.Shared.load_page.Goals as goal

pub loop-k-init : goal.loop-k-init
loop-k-init c =
    let is = c.from-size.ensures ∙ ap (λ (z : Shape). z.page_words) (c.shape.ensures.shape ∙ sym c.self.invariant.of.1) in
    rw (← c.self.view_is) (loaded_one c.args.words.now c.load_placed-word.result.0 c.self.invariant (rw (← c.self.view_is) at c.requires.reach) c.requires.some is
    c.load_placed-word.ensures.acted c.load_placed-word.ensures.place)

pub invariant_of-self : goal.invariant_of-self
invariant_of-self c = c.loop-k.invariant.held

pub load_at-requires-clause-reach : goal.load_at-requires-clause-reach
load_at-requires-clause-reach c =
    let below = c.loop-k-test.true in
    let least = c.min-count.ensures in
    let size = c.loop-k.auto.words in
    let set = length-set c.args.words.now 0 c.load_placed-word.result.0 in
    next_reaches c.loop-k.invariant (length c.args.words.now) c.requires.reach (omega arith) (omega arith)

pub load_at-requires-clause-place : goal.load_at-requires-clause-place
load_at-requires-clause-place c =
    let below = c.loop-k-test.true in
    let least = c.min-count.ensures in
    next_stands c.loop-k.invariant (omega arith)

pub loop-k-preserved : goal.loop-k-preserved
loop-k-preserved c =
    let below = c.loop-k-test.true in
    let least = c.min-count.ensures in
    let size = c.loop-k.auto.words in
    let set = length-set c.args.words.now 0 c.load_placed-word.result.0 in
    loaded_more c.loop-k.invariant c.load_at.result
    (next_reaches c.loop-k.invariant (length c.args.words.now) c.requires.reach (omega arith) (omega arith)) (omega arith)
    c.load_at.ensures.acted (c.load_at.ensures.stand c.args.first c.load_placed-word.result.1 c.loop-k.invariant.place_is)

pub returns-clause-loads : goal.returns-clause-loads
returns-clause-loads c =
    let above = c.loop-k-test.false in
    let some = c.requires.some in
    let least = c.min-count.ensures in
    let set = length-set c.args.words.now 0 c.load_placed-word.result.0 in
    let many = c.shape.ensures.valid.page_words.0 in
    let size = c.from-size.ensures in
    let page : 0 < c.from-size.result = omega arith in
    let rest : c.args.first % c.from-size.result < c.from-size.result = mod-lt c.args.first page in
    let one : 1 ≤ c.min-count.result = omega arith in
    let upto = c.loop-k.auto.k-end one in
    let end : c.loop-k.k ≡ c.min-count.result = omega arith in
    subst (λ n. AfterLoads (view_of_pass c.args.self.now) (view_of_pass c.loop-k.self-inside.pass) c.args.first (take n c.loop-k.words)) end c.loop-k.invariant.did
