use Rattle.std.proofs.{Common.{refl, ◌<◌, ◌^◌, ℕ, arith}, lemmas.Nat.{and_le_l}}
use lib.Bits.{bit_and}
use Rattle.fm_words.proofs.Clearing.{is_without}
use Rattle.fm_words.proofs.bits.without_bit.Goals as goal

fits : (w m : ℕ) → w < 2 ^ 64 → bit_and w m < 2 ^ 64
fits w m l = let q = and_le_l w m in omega arith

pub returns : goal.returns
returns c = is_without c.args.word c.args.bit _ c.ranges.word.fits (fits c.args.word _ c.ranges.word.fits) c.requires refl
