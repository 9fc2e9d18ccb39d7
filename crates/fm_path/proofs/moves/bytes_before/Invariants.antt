use Rattle.std.proofs.Common.{◌≡◌}
use Rattle.fm_layout.specs.Size.{member_offset}
use Rattle.fm_path.proofs.moves.bytes_before.Given as goal

abbrev pub invariant-loop-i : goal.invariant-loop-i
invariant-loop-i l = l.by ≡ member_offset l.i l.layout
