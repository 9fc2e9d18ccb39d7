use Rattle.std.proofs.Common.{refl}
use Rattle.fm_workers.proofs.Numbers.{none_counted}
use Rattle.fm_workers.proofs.counts.Counts.none.Goals as goal

pub returns : goal.returns
returns c = none_counted _ refl
