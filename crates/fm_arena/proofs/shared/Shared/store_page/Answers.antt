use Rattle.std.proofs.{Common.{◌≡◌, ◌%◌, ◌<◌, ◌≤◌, length, take, ap, sym, subst, ◌∙◌, arith}, Math.Nat.{mod-lt}}
use Rattle.fm_base.specs.Learnt.{AfterStores}
use Rattle.fm_words.specs.declared.shape.Shape.{Shape}
use Rattle.fm_rule_calls.specs.Told.{view_of_pass}
use Rattle.fm_arena.proofs.Pages.{stored_one, next_reaches, next_stands, stored_more}
use Rattle.fm_arena.proofs.shared.Shared.store_page.Goals as goal

pub loop-k-init : goal.loop-k-init
loop-k-init c =
    let is = c.from-size.ensures ∙ ap (λ (z : Shape). z.page_words) (c.shape.ensures.shape ∙ sym c.self.invariant.of.1) in
    rw (← c.self.view_is) (stored_one c.args.words.now c.self.invariant (rw (← c.self.view_is) at c.requires.reach) c.requires.some is
    c.store_placed-place.ensures.acted c.store_placed-place.ensures.place)

pub invariant_of-self : goal.invariant_of-self
invariant_of-self c = c.loop-k.invariant.held

pub store_at-requires-clause-reach : goal.store_at-requires-clause-reach
store_at-requires-clause-reach c =
    let below = c.loop-k-test.true in
    let least = c.min-count.ensures in
    next_reaches c.loop-k.invariant (length c.args.words.now) c.requires.reach (omega arith) (omega arith)

pub store_at-requires-clause-place : goal.store_at-requires-clause-place
store_at-requires-clause-place c =
    let below = c.loop-k-test.true in
    let least = c.min-count.ensures in
    next_stands c.loop-k.invariant (omega arith)

pub loop-k-preserved : goal.loop-k-preserved
loop-k-preserved c =
    let below = c.loop-k-test.true in
    let least = c.min-count.ensures in
    stored_more c.loop-k.invariant
    (next_reaches c.loop-k.invariant (length c.args.words.now) c.requires.reach (omega arith) (omega arith)) (omega arith)
    c.store_at.ensures.acted (c.store_at.ensures.stand c.args.first c.store_placed-place.result c.loop-k.invariant.place_is)

pub returns-clause-stores : goal.returns-clause-stores
returns-clause-stores c =
    let above = c.loop-k-test.false in
    let some = c.requires.some in
    let least = c.min-count.ensures in
    let many = c.shape.ensures.valid.page_words.0 in
    let size = c.from-size.ensures in
    let page : 0 < c.from-size.result = omega arith in
    let rest : c.args.first % c.from-size.result < c.from-size.result = mod-lt c.args.first page in
    let one : 1 ≤ c.min-count.result = omega arith in
    let upto = c.loop-k.auto.k-end one in
    let end : c.loop-k.k ≡ c.min-count.result = omega arith in
    subst (λ n. AfterStores (view_of_pass c.args.self.now) (view_of_pass c.loop-k.self-inside.pass) c.args.first (take n c.args.words.now)) end c.loop-k.invariant.did
