-- Two's complement in a width of bytes.
use Rattle.std.{specs.Prelude.{ℕ, ◌-◌, ◌*◌, ◌^◌, ◌<◌, nat_lt, if◌then◌else◌, ℤ, pos, negsuc}, proofs.Common.{suc}}

-- the signed number whose two's complement in `width` bytes is n
abbrev pub signed_of : ℕ → ℕ → ℤ
signed_of width n =
    if nat_lt n (2 ^ (8 * width - 1)) then pos n else negsuc (2 ^ (8 * width) - suc n)

-- the two's complement of z in `width` bytes
abbrev pub unsigned_of : ℕ → ℤ → ℕ
unsigned_of width (pos n) = n
unsigned_of width (negsuc n) = 2 ^ (8 * width) - suc n

-- z has a two's complement in `width` bytes
abbrev pub FitsBytes : ℕ → ℤ → Type 0
FitsBytes width (pos n) = n < 2 ^ (8 * width - 1)
FitsBytes width (negsuc n) = n < 2 ^ (8 * width - 1)
