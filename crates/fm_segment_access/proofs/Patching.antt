-- A patch under the mask of some bytes.
use Rattle.std.proofs.Common.{◌≡◌, ℕ, ◌+◌, ◌-◌, ◌*◌, ◌%◌, ◌^◌, ◌<◌, ◌≤◌, bit_and, ap, ◌∙◌, sym, arith}
use Rattle.fm_base.specs.Does.{patched}
use Rattle.fm_base_bytes.specs.Bytes.{replaced}
use Rattle.fm_lanes.proofs.Masks.{replaced-mask, bits-under_mask}

-- A number of a width, moved to its place in a word.
bits_are : (at width v bits : ℕ) → v < 2 ^ (8 * width) → bits ≡ v % 2 ^ (8 * width) * 2 ^ (8 * at) → bits ≡ v * 2 ^ (8 * at)
bits_are at width v bits h e = e ∙ ap (λ n. n * 2 ^ (8 * at)) (let d : v % 2 ^ (8 * width) ≡ v = grind arith in d)

-- Bits of a width lie under its mask.
pub under : (at width v mask bits : ℕ) → v < 2 ^ (8 * width) → mask ≡ (2 ^ (8 * width) - 1) * 2 ^ (8 * at)
    → bits ≡ v % 2 ^ (8 * width) * 2 ^ (8 * at) → bit_and bits mask ≡ bits
under at width v mask bits h e d =
    let b = bits_are at width v bits h d in
    ap (λ n. bit_and n mask) b ∙ (ap (bit_and (v * 2 ^ (8 * at))) e ∙ (bits-under_mask at width v h ∙ sym b))

-- To put bits under the mask of some bytes replaces these bytes.
pub patched_is : (at width v mask bits word : ℕ) → at + width ≤ 8 → v < 2 ^ (8 * width) → word < 2 ^ 64
    → mask ≡ (2 ^ (8 * width) - 1) * 2 ^ (8 * at) → bits ≡ v % 2 ^ (8 * width) * 2 ^ (8 * at)
    → patched mask bits word ≡ replaced word at width v
unfolding patched
patched_is at width v mask bits word fits h small e d =
    let b = bits_are at width v bits h d in
    rw (e, b) (replaced-mask word at width v fits small h)
