use Rattle.std.proofs.Common.{◌≡◌}
use Rattle.fm_base_bytes.specs.Bytes.{bytes_of}
use Rattle.fm_segment_copies.proofs.mismatch.first_difference.Given as goal

abbrev pub invariant-loop-i : goal.invariant-loop-i
invariant-loop-i l = bytes_of l.i l.v ≡ bytes_of l.i l.w
