use Rattle.std.proofs.Common.{sym, ◌∙◌}
use Rattle.fm_base_bytes.proofs.Powers.{IsPowerOfTwo-from_test}
use Rattle.fm_segment.proofs.segment.Segment.as_slice_aligned.Goals as goal

pub is_aligned-requires : goal.is_aligned-requires
is_aligned-requires c = IsPowerOfTwo-from_test c.args.align (sym c.is_power_of_two.ensures ∙ c.if-not-is_power_of_two.false)
