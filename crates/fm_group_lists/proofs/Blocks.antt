-- Blocks of equal length, one behind the other, by quotient and remainder.
use Rattle.std.proofs.Common.{◌≡◌, ℕ, zero, suc, ◌+◌, ◌*◌, ◌/◌, ◌%◌, ◌<◌, List, ◌∷◌, ◌++◌, map, refl, sym, ap, ◌∙◌, arith}
use Rattle.std.specs.List.{flat_map, range_with_len}
use Rattle.std.proofs.lemmas.List.{map-append}
use Rattle.std.proofs.lemmas.Nat.{div-mul-add, mod-mul-add}
use Rattle.fm_base_lists.proofs.Ranges.{range_append}

module _ {A : Type 0} (f : ℕ → ℕ → A) (width : ℕ) where
  abbrev by_parts : ℕ → A
  by_parts n = f (n / width) (n % width)

  -- One block, from index j on.
  block : (i j count : ℕ) → j + count ≡ width
      → map (f i) (range_with_len j count) ≡ map (λ n. f (n / width) (n % width)) (range_with_len (i * width + j) count)
  block i j zero e = refl
  block i j (suc count) e =
      let below : j < width = omega (arith, e) in
      let q : (i * width + j) / width ≡ i = div-mul-add i width j below in
      let r : (i * width + j) % width ≡ j = mod-mul-add i width j below in
      let next : i * width + j + 1 ≡ i * width + (j + 1) = omega arith in
      ap (λ x. f i x ∷ map (f i) (range_with_len (j + 1) count)) (sym r)
      ∙ ap (λ x. f x ((i * width + j) % width) ∷ map (f i) (range_with_len (j + 1) count)) (sym q)
      ∙ ap (λ (xs : List A). f ((i * width + j) / width) ((i * width + j) % width) ∷ xs) (block i (j + 1) count (omega (arith, e)))
      ∙ ap (λ k. f ((i * width + j) / width) ((i * width + j) % width) ∷ map (λ n. f (n / width) (n % width)) (range_with_len k count)) (sym next)

  -- So many blocks, from the i-th on.
  pub blocks_from : (i count : ℕ) → flat_map (λ k. map (f k) (range_with_len 0 width)) (range_with_len i count)
      ≡ map (λ n. f (n / width) (n % width)) (range_with_len (i * width) (count * width))
  blocks_from i zero =
      let none : 0 * width ≡ 0 = omega arith in
      ap (λ k. map (λ n. f (n / width) (n % width)) (range_with_len (i * width) k)) (sym none)
  blocks_from i (suc count) =
      let start : i * width + 0 ≡ i * width = omega arith in
      let next : (i + 1) * width ≡ i * width + width = omega arith in
      let long : suc count * width ≡ width + count * width = omega arith in
      let F : ℕ → A = λ n. f (n / width) (n % width) in
      ap (λ (xs : List A). xs ++ flat_map (λ k. map (f k) (range_with_len 0 width)) (range_with_len (i + 1) count)) (block i 0 width (omega arith))
      ∙ ap (λ k. map F (range_with_len k width) ++ flat_map (λ k. map (f k) (range_with_len 0 width)) (range_with_len (i + 1) count)) start
      ∙ ap (λ (xs : List A). map F (range_with_len (i * width) width) ++ xs) (blocks_from (i + 1) count)
      ∙ ap (λ k. map F (range_with_len (i * width) width) ++ map F (range_with_len k (count * width))) next
      ∙ sym (map-append F (range_with_len (i * width) width) (range_with_len (i * width + width) (count * width)))
      ∙ ap (λ (ks : List ℕ). map F ks) (sym (range_append (i * width) width (count * width)))
      ∙ ap (λ k. map F (range_with_len (i * width) k)) (sym long)

  -- All of them.
  pub blocks : (count : ℕ) → flat_map (λ k. map (f k) (range_with_len 0 width)) (range_with_len 0 count)
      ≡ map (λ n. f (n / width) (n % width)) (range_with_len 0 (count * width))
  blocks count =
      let none : 0 * width ≡ 0 = omega arith in
      blocks_from 0 count ∙ ap (λ k. map (λ n. f (n / width) (n % width)) (range_with_len k (count * width))) none
