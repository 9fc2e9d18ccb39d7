use Rattle.fm_lanes.proofs.Lanes.{bits_are}
use Rattle.fm_lanes.proofs.lane.bits.Goals as goal

pub returns : goal.returns
returns c = bits_are c.args.v c.args.at c.args.width c.mask.result c.requires.fits c.mask.ensures
