use Rattle.fm_records.proofs.Sharing.{spared_found}
use Rattle.fm_records.proofs.laws.spared_are_found.Goals as goal

pub returns : goal.returns
returns c = spared_found
