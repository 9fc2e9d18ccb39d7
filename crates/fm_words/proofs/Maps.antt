-- Words that map pages read back.
use Rattle.std.{proofs.Common.{◌≡◌, ◌≢◌, ℕ, zero, suc, ◌+◌, ◌-◌, ◌≤◌, Option, None, Some, IfSome, refl, ap, arith}, specs.Option.{SomeIff}}
use Rattle.fm_words.specs.Maps.{map_word, map_of}

-- A page is read back from its word.
pub map_of-map_word : (page : ℕ) → map_of (map_word page) ≡ Some page
unfolding map_of map_word
map_of-map_word page = let e : page + 1 ≡ suc page = omega arith in ap map_of e

-- Different pages have different words.
pub map_word-injective : (p q : ℕ) → map_word p ≡ map_word q → p ≡ q
unfolding map_word
map_word-injective p q e = omega arith

-- The word of a page isn't 0, the word where nothing is mapped.
pub map_word-some : (page : ℕ) → map_word page ≢ 0
unfolding map_word
map_word-some page e = omega arith

-- One less than a word, where there is one, is the page that the word maps.
pub map_of-less : (word : ℕ) (page : Option ℕ) → SomeIff page (1 ≤ word) (word - 1) → page ≡ map_of word
unfolding map_of
map_of-less zero None h = refl
map_of-less zero (Some p) h = absurd (omega arith)
map_of-less (suc n) None h = absurd (h (omega arith))
map_of-less (suc n) (Some p) h = let e : p ≡ n = (let f = h.1 in omega arith) in ap Some e

-- So it is the page whose word this is.
pub map_word-less : (word : ℕ) (page : Option ℕ) → SomeIff page (1 ≤ word) (word - 1) → IfSome page (λ p. map_word p ≡ word)
unfolding map_word
map_word-less word None h = tt
map_word-less word (Some p) h = let a = h.0 in let b = h.1 in omega arith
