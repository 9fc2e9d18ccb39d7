use Rattle.fm_group.proofs.FirstPlaces.{each_tried}
use Rattle.fm_group.proofs.laws.tries_each_place.Goals as goal

pub returns : goal.returns
returns c = each_tried
