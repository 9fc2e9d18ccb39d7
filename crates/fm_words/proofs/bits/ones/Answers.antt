use Rattle.std.proofs.{Common.{◌∙◌, ℕ, ◌-◌, ◌^◌, ◌≡◌, ap, arith}, lemmas.Nat.Bits.{ones_shr}}
use Rattle.fm_words.proofs.bits.ones.Goals as goal

pub returns : goal.returns
returns c =
    let k : ℕ = c.args.count in
    let a = c.requires.few in
    let e : 64 - (64 - k) ≡ k = omega arith in
    ones_shr 64 (64 - k) (omega arith) ∙ ap (λ (n : ℕ). 2 ^ n - 1) e
