use Rattle.std.proofs.Common.{◌<◌, ◌≤◌, arith}
use Rattle.fm_words.specs.{declared.shape.Shape.{Shape}, Shapes.{IsValid}, Places.{groups}}
use Rattle.fm_rule.proofs.Seeking.{seeks_none, look_asks, look_on}
use Rattle.fm_rule.proofs.pool.Pool.finds_none.Goals as goal

pub loop-group-init : goal.loop-group-init
loop-group-init c = (seeks_none _ _ _ c.requires.none c.requires.of, (λ g l. absurd (omega arith)), (λ l. absurd (omega arith)))

pub returns-then-step_take_number-ne0 : goal.returns-then-step_take_number-ne0
returns-then-step_take_number-ne0 c = look_asks _ _ _ _ _ _ c.loop-group.invariant.0 c.step_take_number.ensures

pub loop-group-preserved : goal.loop-group-preserved
loop-group-preserved c = (
  look_asks _ _ _ _ _ _ c.loop-group.invariant.0 c.step_take_number.ensures,
  look_on _ _ _ _ _ _ c.loop-group.invariant.0 c.step_take_number.ensures c.if-step_take_number-ne0.false c.loop-group.invariant.1,
  (λ l. c.step_take_number.ensures.sound),
)

-- a pool has a group
some_groups : (z : Shape) → IsValid z → 0 < groups z
some_groups z v = let p = v.passes.0 in omega arith

pub returns : goal.returns
returns c =
    let y = c.loop-group.invariant in
    let all : groups c.args.self.now.shape ≤ c.loop-group.group = (let e = c.groups-group-end.ensures in let l = c.loop-group-test.false in omega arith) in
    (y.0, (λ g l. y.1 g (omega arith)), y.2 (let s = some_groups c.args.self.now.shape c.args.self.now.valid in omega arith))
