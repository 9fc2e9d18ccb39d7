-- Members stand side by side.
use Rattle.std.proofs.{Common.{◌≡◌, max, arith, refl}}
use Rattle.fm_ljson.proofs.Laying.{stacked_end, stacked_more, stacked_start}
use Rattle.fm_ljson.proofs.footprint.Footprint.union_of.Goals as goal

pub loop-member-init : goal.loop-member-init
loop-member-init c = (omega arith, omega arith, λ ts h. stacked_start c.args.members.now ts h)

pub loop-member-preserved : goal.loop-member-preserved
loop-member-preserved c =
    let larger : c.max-size.result ≡ max c.member-item.result.size c.loop-member.size = omega (arith, c.max-size.ensures) in
    let wider : c.max-alignment.result ≡ max c.member-item.result.alignment c.loop-member.alignment = omega (arith, c.max-alignment.ensures) in (
      omega (arith, wider, c.loop-member.invariant.0),
      omega (arith, larger, c.loop-member.invariant.1, c.member-item.result.small),
      λ ts h. stacked_more c.loop-member.member-index _ _ _ _ ts c.args.members.now c.member-item.result c.loop-member-test.true c.member-item.is
          (c.loop-member.invariant.2 ts h) larger wider,
    )

pub returns : goal.returns
returns c = λ ts h.
    stacked_end c.loop-member.member-index _ _ ts c.args.members.now _ c.loop-member-test.false (c.loop-member.invariant.2 ts h) c.loop-member.invariant.0
    refl refl refl
