-- The next piece lies in one word of each side.
use Rattle.std.proofs.Common.{ℕ, ◌<◌, ◌≤◌, arith}
use Rattle.fm_segment_copies.specs.{declared.side.{Side.{Side}, Way.{Way, TheVariants.{Up, Down}}}, Sides.{IsPieceOf, next_piece}}

-- The next piece is one of the bytes that are left.
pub next_piece_fits : (way : Way) (a b : Side) (count left : ℕ) → 0 < left → left ≤ count → IsPieceOf a b count left (next_piece way a b count left)
next_piece_fits Up a b count left h k = record {
  at = record { some = omega arith; within_source = omega arith; within_target = omega arith };
  room = omega arith;
  inside = omega arith;
}
next_piece_fits Down a b count left h k = record {
  at = record { some = omega arith; within_source = omega arith; within_target = omega arith };
  room = omega arith;
  inside = omega arith;
}
