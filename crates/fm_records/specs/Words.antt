-- Words that were read, what is kept of them, and values by what was found there.
use Rattle.std.specs.Prelude.{◌≡◌, ℕ, ◌+◌, ◌-◌, ◌*◌, ◌^◌, ◌/◌, ◌%◌, ◌==◌, nat_le, if◌then◌else◌, List, [], ◌∷◌, ◌++◌, map, take, ℤ, Option, Some, None, ⊤}
use Rattle.std.specs.List.{range_with_len}
use Rattle.fm_base_bytes.specs.{Bytes.{lane}, Words.{byte_of}}
use Rattle.fm_lanes.specs.{Coding.{decoded, turned, value_of}, Kind.{width_of}, Value.{number_of_value}}
use Rattle.fm_path.specs.declared.value_spec.ValueSpec.{ValueSpec}

-- a word, and what was found there
abbrev pub Seen : Type 0
Seen = ℕ × ℕ

-- what was found at a word, where it is one of these
abbrev pub found_at : List Seen → ℕ → Option ℕ
found_at [] word = None
found_at (x ∷ xs) word = if x.0 == word then Some x.1 else found_at xs word

-- ---- which words are read for a value

-- the words of a value of at most eight bytes, the lower one first
abbrev pub words_at : ℕ → ℕ → List ℕ
words_at place width = if nat_le (place % 8 + width) 8 then (place / 8) ∷ [] else (place / 8) ∷ (place / 8 + 1) ∷ []

abbrev pub unless_found : Option ℕ → ℕ → List ℕ → List ℕ
unless_found None word words = word ∷ words
unless_found (Some n) word words = words

-- those that aren't kept
abbrev pub unkept : List Seen → List ℕ → List ℕ
unkept kept [] = []
unkept kept (w ∷ ws) = unless_found (found_at kept w) w (unkept kept ws)

-- a word that was read now, with what was found there
abbrev pub if_new : Option ℕ → ℕ → ℕ → List Seen
if_new None word found = (word, found) ∷ []
if_new (Some n) word found = []

abbrev pub IsKnownAs : Option ℕ → ℕ → Type 0
IsKnownAs None found = ⊤
IsKnownAs (Some n) found = found ≡ n

-- ---- what they come to

abbrev pub or_zero : Option ℕ → ℕ
or_zero None = 0
or_zero (Some n) = n

-- the byte at a place, by what was found in its word
abbrev pub byte_by : List Seen → ℕ → ℕ
byte_by seen place = byte_of (or_zero (found_at seen (place / 8))) (place % 8)

abbrev pub bytes_by : List Seen → ℕ → ℕ → List ℕ
bytes_by seen place width = map (byte_by seen) (range_with_len place width)

-- the number that the bytes of a value make, as the value means it
abbrev pub number_of : ValueSpec → ℕ → ℤ
number_of spec n = number_of_value (decoded spec.kind (turned (width_of spec.kind) n spec.order))

-- the bytes from `at` on of two words, so many
abbrev pub across : ℕ → ℕ → ℕ → ℕ → ℕ
across low high at width = lane low at (8 - at) + lane high 0 (width - (8 - at)) * 2 ^ (8 * (8 - at))

-- the number of the value at a place
abbrev pub number_by : List Seen → ValueSpec → ℕ → ℤ
number_by seen spec place = number_of_value (value_of spec.kind spec.order (bytes_by seen place (width_of spec.kind)))

-- ---- what is kept of words that were read

-- how many words the paths with no open step have at most: two for each condition and each item
abbrev pub most_words : ℕ
most_words = 64

-- so many: those of the paths with no open step
abbrev pub kept_all : List Seen → Seen → List Seen
kept_all kept x = take most_words (kept ++ x ∷ [])

-- the last two, the last one first: those of a row of values
abbrev pub kept_last : List Seen → Seen → List Seen
kept_last [] x = x ∷ []
kept_last (a ∷ more) x = x ∷ a ∷ []

-- none: a value that is alone in its record is read once anyway
abbrev pub kept_none : List Seen → Seen → List Seen
kept_none kept x = []

-- one after the other
abbrev pub kept_after : (List Seen → Seen → List Seen) → List Seen → List Seen → List Seen
kept_after keeps kept [] = kept
kept_after keeps kept (x ∷ xs) = kept_after keeps (keeps kept x) xs
