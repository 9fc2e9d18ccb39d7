use Rattle.fm_records.proofs.Sharing.{shares_read}
use Rattle.fm_records.proofs.laws.shares_read.Goals as goal

pub returns : goal.returns
returns c = shares_read
