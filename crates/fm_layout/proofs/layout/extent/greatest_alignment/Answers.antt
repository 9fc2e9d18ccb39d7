use Rattle.std.proofs.Common.{arith}
use Rattle.fm_layout.{specs.Views.{trees}, proofs.Groups.{greatest_positive, greatest_more, greatest_end}}
use Rattle.fm_layout.proofs.layout.extent.greatest_alignment.Goals as goal

pub loop-member-init : goal.loop-member-init
loop-member-init c = (omega arith, omega (arith, greatest_positive (trees c.args.members.now)))

pub loop-member-preserved : goal.loop-member-preserved
loop-member-preserved c =
    greatest_more c.loop-member.member-index _ _ c.args.members.now c.member-item.result c.loop-member.invariant.0 c.loop-member.invariant.1
    c.loop-member-test.true c.member-item.is (omega (arith, c.max-greatest.ensures, c.alignment.ensures.alignment))

pub returns : goal.returns
returns c = greatest_end c.loop-member.member-index _ c.args.members.now c.loop-member.invariant.0 c.loop-member.invariant.1 c.loop-member-test.false
