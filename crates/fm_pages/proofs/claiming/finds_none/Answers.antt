use Rattle.std.proofs.Common.{◌<◌, ◌≤◌, subst, arith}
use Rattle.fm_words.specs.{declared.shape.Shape.{Shape}, Places.{page_groups}, Shapes.{IsValid}}
use Rattle.fm_pages.proofs.Looking.{looks_all, looks_begin, looks_on, looks_so_far}
use Rattle.fm_pages.proofs.claiming.finds_none.Goals as goal

pub loop-group-init : goal.loop-group-init
loop-group-init c = looks_begin c.requires.of c.requires.none

pub step_take_page-requires-clause-of : goal.step_take_page-requires-clause-of
step_take_page-requires-clause-of c = c.loop-group.invariant.bids.of

pub step_take_page-requires-clause-none : goal.step_take_page-requires-clause-none
step_take_page-requires-clause-none c = c.loop-group.invariant.bids.none

pub returns-then-step_take_page-ne0 : goal.returns-then-step_take_page-ne0
returns-then-step_take_page-ne0 c = looks_so_far _ c.loop-group.invariant c.step_take_page.ensures

pub loop-group-preserved : goal.loop-group-preserved
loop-group-preserved c = looks_on _ c.loop-group.invariant c.step_take_page.ensures c.if-step_take_page-ne0.false

-- a pool has a page, and so a word for its bit
some_groups : (z : Shape) → IsValid z → 0 < page_groups z
some_groups z v = let p = v.pages.0 in omega arith

pub returns : goal.returns
returns c =
    let past : page_groups c.shape.result ≤ c.loop-group.group = (let l = c.loop-group-test.false in let e = c.page_groups-groups.ensures in omega arith) in
    let all : page_groups c.args.pool.now.shape ≤ c.loop-group.group =
    subst (λ (z : Shape). page_groups z ≤ c.loop-group.group) c.shape.ensures.shape past in
    looks_all c.loop-group.invariant (let s = some_groups c.args.pool.now.shape c.args.pool.now.valid in omega arith) all
