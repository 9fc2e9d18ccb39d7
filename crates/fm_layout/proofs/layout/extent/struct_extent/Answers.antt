use Rattle.fm_layout.{specs.Views.{trees}, proofs.{Groups.{laying_more, laying_end, laying_start}, Sound.{ord_max_is}}}
use Rattle.std.proofs.Common.{◌∙◌}
use Rattle.fm_layout.proofs.layout.extent.struct_extent.Goals as goal

pub loop-i-init : goal.loop-i-init
loop-i-init c = laying_start (trees c.args.members.now)

pub loop-i-preserved : goal.loop-i-preserved
loop-i-preserved c = laying_more _ _ _ _ _ _ _ c.index-members-i.result c.loop-i.invariant c.loop-i-test.true c.index-members-i.is c.size-bytes.ensures.size
    c.alignment-least.ensures.alignment c.size-bytes.ensures.well_formed c.size-bytes.ensures.named c.if-size-least-ne0.false c.if-size-bytes-gt-LIMIT.false
    (c.max-alignment.ensures ∙ ord_max_is _ _)

pub returns-clause-found : goal.returns-clause-found
returns-clause-found c = laying_end _ _ _ _ c.loop-i.invariant c.loop-i-test.false
