use Rattle.std.proofs.Common.{refl}
use Rattle.fm_arena_tests.proofs.tests.mono_segments.a_segment_has_its_parts.Goals as goal

pub is_aligned-requires : goal.is_aligned-requires
is_aligned-requires g c = (3, refl)

pub is_aligned-requires-2 : goal.is_aligned-requires-2
is_aligned-requires-2 g c = (3, refl)

pub is_aligned-requires-3 : goal.is_aligned-requires-3
is_aligned-requires-3 g c = (0, refl)
