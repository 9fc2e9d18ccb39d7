-- Bytes and the numbers that they make, by division and remainder, the lowest byte first.
use Rattle.std.{specs.{Prelude.{ℕ, ◌+◌, ◌*◌, ◌/◌, ◌%◌, ◌^◌, ◌<◌, List, [], ◌∷◌}, List.{All}}, proofs.Common.{zero, suc}}

-- each number of the list is a byte
abbrev pub AreBytes : List ℕ → Type 0
AreBytes bytes = All (λ b. b < 256) bytes

-- the lowest `width` bytes of a number
unfoldable pub bytes_of : ℕ → ℕ → List ℕ
bytes_of zero n = []
bytes_of (suc width) n = n % 256 ∷ bytes_of width (n / 256)

-- the number that bytes make
abbrev pub number_of : List ℕ → ℕ
number_of [] = 0
number_of (b ∷ bytes) = b + 256 * number_of bytes

-- the number that the `width` bytes of a word from byte `at` on make
abbrev pub lane : ℕ → ℕ → ℕ → ℕ
lane word at width = word / 2 ^ (8 * at) % 2 ^ (8 * width)

-- the word whose `width` bytes from byte `at` on are those of `v`; its other bytes stay
abbrev pub replaced : ℕ → ℕ → ℕ → ℕ → ℕ
replaced word at width v =
    word / 2 ^ (8 * (at + width)) * 2 ^ (8 * (at + width)) + v * 2 ^ (8 * at) + word % 2 ^ (8 * at)
