use Rattle.fm_group_laws.proofs.Crewing.{is_never_full}
use Rattle.fm_group_laws.proofs.laws.never_full.Goals as goal

pub returns : goal.returns
returns c = is_never_full
