use Rattle.std.proofs.Common.{◌∙◌}
use Rattle.fm_layout.proofs.Sound.{value_sound}
use Rattle.fm_layout.proofs.layout.Layout.value.Goals as goal

pub invariant_of-result : goal.invariant_of-result
invariant_of-result c = value_sound c.args.kind c.from-size.result (c.from-size.ensures ∙ c.width.ensures)

pub returns-clause-well_formed : goal.returns-clause-well_formed
returns-clause-well_formed c = (value_sound c.args.kind c.from-size.result (c.from-size.ensures ∙ c.width.ensures)).well_formed
