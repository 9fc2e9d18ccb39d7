use Rattle.fm_group.proofs.Ordinals.{by_ordinal}
use Rattle.fm_group.proofs.laws.numbers_by_ordinal.Goals as goal

pub returns : goal.returns
returns c = by_ordinal
