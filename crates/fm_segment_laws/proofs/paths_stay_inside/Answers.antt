use Rattle.fm_segment_laws.proofs.Handling.{paths_inside}
use Rattle.fm_segment_laws.proofs.paths_stay_inside.Goals as goal

pub returns : goal.returns
returns c = paths_inside c.args.layout.now c.size-size.ensures.well_formed
