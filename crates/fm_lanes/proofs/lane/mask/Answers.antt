use Rattle.fm_lanes.proofs.Lanes.{mask_is}
use Rattle.fm_lanes.proofs.lane.mask.Goals as goal

pub returns : goal.returns
returns c = mask_is c.args.at c.args.width c.requires.width c.requires.fits
