-- Words of eight bytes, the lowest byte first: word w holds the bytes 8w to 8w + 7.
use Rattle.std.{specs.{Prelude.{ℕ, ◌+◌, ◌/◌, ◌%◌, ◌^◌, ◌<◌, List, [], ◌∷◌, ◌++◌, length, take, drop, slice_index}, List.{All}}, proofs.Common.{zero, suc}}
use Rattle.fm_base_bytes.specs.Bytes.{bytes_of, number_of, lane}

-- each number of the list is a word
abbrev pub AreWords : List ℕ → Type 0
AreWords words = All (λ w. w < 2 ^ 64) words

-- byte `at` of a word
abbrev pub byte_of : ℕ → ℕ → ℕ
byte_of word at = lane word at 1

-- the byte at a place of words
abbrev pub byte_at : List ℕ → ℕ → ℕ
byte_at words place = byte_of (slice_index words (place / 8)) (place % 8)

-- the bytes of words
unfoldable pub bytes_in : List ℕ → List ℕ
bytes_in [] = []
bytes_in (word ∷ words) = bytes_of 8 word ++ bytes_in words

-- this many words, each of the next eight bytes; bytes past the end are 0
unfoldable pub words_from : ℕ → List ℕ → List ℕ
words_from zero bytes = []
words_from (suc count) bytes = number_of (take 8 bytes) ∷ words_from count (drop 8 bytes)

-- the number of words that so many bytes take
abbrev pub word_count : ℕ → ℕ
word_count size = (size + 7) / 8

-- the words of these bytes, the last one filled with zeros
abbrev pub words_of : List ℕ → List ℕ
words_of bytes = words_from (word_count (length bytes)) bytes
