use Rattle.fm_layout.{specs.Views.{trees}, proofs.Groups.{stacking_more, stacking_end, stacking_start}}
use Rattle.std.proofs.Common.{arith}
use Rattle.fm_layout.proofs.layout.extent.union_extent.Goals as goal

pub loop-member-init : goal.loop-member-init
loop-member-init c = stacking_start (trees c.args.members.now)

pub loop-member-preserved : goal.loop-member-preserved
loop-member-preserved c = stacking_more _ _ _ _ _ _ c.member-item.result c.loop-member.invariant c.loop-member-test.true c.member-item.is
    c.size.ensures.well_formed c.size.ensures.named (omega (arith, c.max-size.ensures, c.size.ensures.size))
    (omega (arith, c.max-alignment.ensures, c.alignment.ensures.alignment))

pub returns : goal.returns
returns c = stacking_end _ _ _ _ c.loop-member.invariant c.loop-member-test.false
