use Rattle.std.proofs.Common.{refl}
use Rattle.fm_visit.proofs.words.place_of.Goals as goal

pub is_aligned-requires : goal.is_aligned-requires
is_aligned-requires c = (3, refl)
