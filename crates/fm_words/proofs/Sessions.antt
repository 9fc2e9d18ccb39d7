-- Words of sessions read back, and what one word more or less changes.
use Rattle.std.proofs.Common.{◌≡◌, ℕ, ◌+◌, ◌-◌, ◌*◌, ◌/◌, ◌%◌, ◌^◌, ◌<◌, refl, ap, sym, ◌∙◌, arith, zero, suc}
use Rattle.fm_words.specs.declared.{life.Life.{Life, TheVariants.{Free, Alive, Closing, Unused}}, session.Session.{Session}}
use Rattle.fm_words.specs.Sessions.{IsSession, session_word, session_of, alive, closing, free_session, life_bits, life_of}

-- ---- lives

pub few_lives : (l : Life) → life_bits l < 4
few_lives Free = omega arith
few_lives Alive = omega arith
few_lives Closing = omega arith
few_lives Unused = omega arith

pub life_of-life_bits : (l : Life) → life_of (life_bits l) ≡ l
life_of-life_bits Free = refl
life_of-life_bits Alive = refl
life_of-life_bits Closing = refl
life_of-life_bits Unused = refl

pub life_bits-life_of : (n : ℕ) → n < 4 → life_bits (life_of n) ≡ n
life_bits-life_of zero l = refl
life_bits-life_of (suc zero) l = refl
life_bits-life_of (suc (suc zero)) l = refl
life_bits-life_of (suc (suc (suc n))) l = omega arith

-- ---- words

-- A session is read back from its word.
pub session_of-session_word : (s : Session) → IsSession s → session_of (session_word s) ≡ s
unfolding session_of session_word
session_of-session_word s h =
    let owner = h.owner in let holds = h.holds in let kind = h.kind in let few = few_lives s.life in
    let g : session_word s / 2 ^ 32 ≡ s.generation = omega arith in
    let b : session_word s / 2 ^ 30 % 2 ^ 2 ≡ life_bits s.life = omega arith in
    let l : life_of (session_word s / 2 ^ 30 % 2 ^ 2) ≡ s.life = ap life_of b ∙ life_of-life_bits s.life in
    let k : session_word s / 2 ^ 28 % 2 ^ 2 ≡ s.kind = omega arith in
    let o : session_word s / 2 ^ 16 % 2 ^ 12 ≡ s.owner = omega arith in
    let n : session_word s % 2 ^ 16 ≡ s.holds = omega arith in
    λ i. record { generation = g i; life = l i; kind = k i; owner = o i; holds = n i }

-- A word is that of the session that is read from it.
pub session_word-session_of : (word : ℕ) → session_word (session_of word) ≡ word
unfolding session_of session_word
session_word-session_of word = let life = life_bits-life_of (word / 2 ^ 30 % 2 ^ 2) (omega arith) in omega arith

-- What is read from a word of 64 bits has a generation of 32 bits.
pub session_of-generation : (word : ℕ) → word < 2 ^ 64 → (session_of word).generation < 2 ^ 32
unfolding session_of
session_of-generation word h = omega arith
