use Rattle.std.proofs.Common.{◌/◌, ◌*◌, ◌^◌}
use Rattle.fm_lanes.proofs.Lanes.{masked_is}
use Rattle.fm_lanes.proofs.lane.read.Goals as goal

pub returns : goal.returns
returns c = masked_is (c.args.word / 2 ^ (8 * c.args.at)) c.args.width c.mask.result c.mask.ensures
