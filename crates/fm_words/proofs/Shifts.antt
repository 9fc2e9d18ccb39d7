-- Shifts and masks as sums and remainders: what the code makes of fields and words.
use Rattle.std.proofs.Common.{◌≡◌, ℕ, ◌+◌, ◌*◌, ◌/◌, ◌%◌, ◌^◌, ◌<◌, ◌≤◌, bit_and, bit_or, ap, sym, subst, ◌∙◌, arith}
use Rattle.std.proofs.lemmas.Nat.{or_shifted, and_mask, shl_whole}
use Rattle.fm_words.specs.{declared.{session.Session.{Session}, life.Life.{Life}}, Sessions.{IsSession, session_word, session_of, life_bits, life_of}}
use Rattle.fm_words.proofs.Sessions.{few_lives}

-- A number that is shifted within a word of `width` bits, with a lower one put below it, is their sum.
shifted : (high bits room width low : ℕ) → high < 2 ^ room → room + bits ≤ width → low < 2 ^ bits
    → bit_or (high * 2 ^ bits % 2 ^ width) low ≡ high * 2 ^ bits + low
shifted high bits room width low h fits l =
    ap (λ n. bit_or n low) (shl_whole high room bits width h fits) ∙ or_shifted high bits low l

-- The low half of a session's word.
low_half : (s : Session) → IsSession s
    → bit_or (bit_or (bit_or (life_bits s.life * 4 % 4294967296) s.kind * 4096 % 4294967296) s.owner * 65536 % 4294967296) s.holds
    ≡ life_bits s.life * 2 ^ 30 + s.kind * 2 ^ 28 + s.owner * 2 ^ 16 + s.holds
low_half s h =
    let owner = h.owner in let holds = h.holds in let kind = h.kind in let life = few_lives s.life in
    let a : bit_or (life_bits s.life * 4 % 4294967296) s.kind ≡ life_bits s.life * 4 + s.kind = shifted (life_bits s.life) 2 2 32 s.kind (omega arith) (omega arith) (omega arith) in
    let b : bit_or ((life_bits s.life * 4 + s.kind) * 4096 % 4294967296) s.owner ≡ (life_bits s.life * 4 + s.kind) * 4096 + s.owner =
    shifted (life_bits s.life * 4 + s.kind) 12 4 32 s.owner (omega arith) (omega arith) (omega arith) in
    let c : bit_or (((life_bits s.life * 4 + s.kind) * 4096 + s.owner) * 65536 % 4294967296) s.holds ≡ ((life_bits s.life * 4 + s.kind) * 4096 + s.owner) * 65536 + s.holds =
    shifted ((life_bits s.life * 4 + s.kind) * 4096 + s.owner) 16 16 32 s.holds (omega arith) (omega arith) (omega arith) in
    rw (a, b, c) (omega arith)

-- The generation above the low half is the session's word.
pub joined_is : (s : Session) (word bits : ℕ) → IsSession s → bits ≡ life_bits s.life
    → word ≡ s.generation * 2 ^ 32 + bit_or (bit_or (bit_or (bits * 4 % 4294967296) s.kind * 4096 % 4294967296) s.owner * 65536 % 4294967296) s.holds
    → word ≡ session_word s
unfolding session_word
joined_is s word bits h is e = let low = subst (λ (n : ℕ). bit_or (bit_or (bit_or (n * 4 % 4294967296) s.kind * 4096 % 4294967296) s.owner * 65536 % 4294967296) s.holds
    ≡ life_bits s.life * 2 ^ 30 + s.kind * 2 ^ 28 + s.owner * 2 ^ 16 + s.holds) (sym is) (low_half s h) in omega arith

-- What is cut out of the halves of a word are the fields of its session.
pub masked_is : (word high low : ℕ) (l : Life) → high ≡ word / 2 ^ 32 → low ≡ word % 2 ^ 32 → l ≡ life_of (low / 1073741824)
    → ◌≡◌ {A = Session}
    record { generation = high; life = l; kind = bit_and (low / 268435456) 3; owner = bit_and (low / 65536) 4095; holds = bit_and low 65535 }
    (session_of word)
unfolding session_of
masked_is word high low life a b e =
    let q : low / 1073741824 ≡ word / 2 ^ 30 % 2 ^ 2 = omega arith in
    let l : life ≡ life_of (word / 2 ^ 30 % 2 ^ 2) = e ∙ ap life_of q in
    let k : bit_and (low / 268435456) 3 ≡ word / 2 ^ 28 % 2 ^ 2 = and_mask (low / 2 ^ 28) 2 ∙ omega arith in
    let o : bit_and (low / 65536) 4095 ≡ word / 2 ^ 16 % 2 ^ 12 = and_mask (low / 2 ^ 16) 12 ∙ omega arith in
    let n : bit_and low 65535 ≡ word % 2 ^ 16 = and_mask low 16 ∙ omega arith in
    λ i. record { generation = a i; life = l i; kind = k i; owner = o i; holds = n i }
