-- Whole words of copies of a byte.
use Rattle.std.proofs.Common.{◌≡◌, ℕ, zero, suc, ◌+◌, ◌-◌, ◌*◌, ◌^◌, ◌<◌, ◌≤◌, ◌∷◌, take, drop, replicate, refl, ap, sym, ◌∙◌, arith}
use Rattle.std.proofs.lemmas.List.{take-replicate, drop-replicate}
use Rattle.fm_base_bytes.{specs.{Bytes.{bytes_of, number_of}, Words.{words_from}}, proofs.Bytes.{number_of-bytes_of}}

module _ {word byte : ℕ} (is : bytes_of 8 word ≡ replicate 8 byte) (small : word < 2 ^ 64) where
  -- The words of copies of a byte are copies of a word.
  words_of_copies : (n size : ℕ) → 8 * n ≤ size → words_from n (replicate size byte) ≡ replicate n word
  unfolding words_from
  words_of_copies zero size fits = refl
  words_of_copies (suc n) size fits =
      let few : 8 ≤ size = omega arith in
      let rest : 8 * n ≤ size - 8 = omega arith in
      let first : number_of (take 8 (replicate size byte)) ≡ word = ap number_of (take-replicate 8 size byte few ∙ sym is) ∙ number_of-bytes_of 8 word small in
      ap (λ v. v ∷ words_from n (drop 8 (replicate size byte))) first
      ∙ ap (λ bs. word ∷ words_from n bs) (drop-replicate 8 size byte)
      ∙ ap (λ ws. word ∷ ws) (words_of_copies n (size - 8) rest)

  -- The next words of those that are filled.
  pub next_copies : (n at_once left size : ℕ) → n ≤ at_once → left + 8 * n ≤ size → take n (replicate at_once word) ≡ words_from n (drop left (replicate size byte))
  next_copies n at_once left size few fits =
      let rest : 8 * n ≤ size - left = omega arith in
      take-replicate n at_once word few ∙ sym (ap (words_from n) (drop-replicate left size byte) ∙ words_of_copies n (size - left) rest)
