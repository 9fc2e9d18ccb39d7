use Rattle.std.proofs.Common.{◌≡◌, ℕ, arith, subst}
use Rattle.fm_base_bytes.specs.Bytes.{bytes_of}
use Rattle.fm_segment_copies.proofs.Differences.{all_agree}
use Rattle.fm_segment_copies.proofs.mismatch.first_difference.Goals as goal

pub returns : goal.returns
returns c =
    let end : c.loop-i.i ≡ c.args.width = (let e = c.loop-i.auto.i-end in let t = c.loop-i-test.false in omega arith) in
    all_agree c.args.v c.args.w c.args.width c.requires.first c.requires.second
    (subst (λ (n : ℕ). bytes_of n c.args.v ≡ bytes_of n c.args.w) end c.loop-i.invariant)
