use Rattle.fm_base.proofs.Listing.{looked_up}
use Rattle.fm_base.proofs.laws.looks_up.Goals as goal

pub returns : goal.returns
returns c = looked_up
