-- How often numbers come, counted one by one.
use Rattle.std.proofs.Common.{◌≡◌, ◌≢◌, ℕ, zero, suc, take, ◌+◌, ◌-◌, ◌<◌, ◌≤◌, ◌==◌, Bool, true, false, if◌then◌else◌, List, [], ◌∷◌, ◌++◌, length, slice_index, slice_set, refl, sym, ap, ◌∙◌, subst, append_assoc, arith, nat_lt, replicate}
use Rattle.std.{specs.{Prelude.{ℤ, pos, negsuc, slice_index_or}, Ordering.{int_eq}}, proofs.Math.Seq.{take-suc}}
use Rattle.std.proofs.lemmas.Bool.Decides.{nat_tests, Decides-int_eq}
use Rattle.std.proofs.lemmas.List.{get_or-set_same, get_or-set_other, length-set, get_or-replicate, length-replicate}
use Rattle.fm_workers.specs.Counts.{how_many, number_of, AreCounts, AreSums}

pub how_many-append : (n : ℤ) (xs ys : List ℤ) → how_many n (xs ++ ys) ≡ how_many n xs + how_many n ys
how_many-append n [] ys = omega arith
how_many-append n (x ∷ xs) ys = let h = how_many-append n xs ys in omega (arith, h)

at_most_one : (b : Bool) → (if b then 1 else 0) ≤ 1
at_most_one true = omega arith
at_most_one false = omega arith

pub how_many-most : (n : ℤ) (xs : List ℤ) → how_many n xs ≤ length xs
how_many-most n [] = omega arith
how_many-most n (x ∷ xs) = let h = how_many-most n xs in let one = at_most_one (int_eq x n) in omega (arith, h, one)

-- ---- places

natural : ℤ → ℕ
natural (pos n) = n
natural (negsuc n) = n

-- The numbers of two places are apart.
number_apart : (j k : ℕ) → j < 256 → k < 256 → number_of j ≡ number_of k → j ≡ k
unfolding natural
number_apart j k below_j below_k e =
    let P : Bool → Bool → Type 0 = λ b d. nat_lt j 128 ≡ b → nat_lt k 128 ≡ d
    → (if b then pos j else negsuc (255 - j)) ≡ (if d then pos k else negsuc (255 - k)) → j ≡ k in
    let go : (b d : Bool) → P b d = λ b d. elim b as (λ x. P x d) [
      | true ↦ elim d as (λ y. P true y) [
        | true ↦ (λ p q h. ap natural h)
        | false ↦ (λ p q h. absurd (cc))
      ]
      | false ↦ elim d as (λ y. P false y) [
        | true ↦ (λ p q h. absurd (cc))
        | false ↦ (λ p q h. let n : 255 - j ≡ 255 - k = ap natural h in omega (arith, n, below_j, below_k))
      ]
    ] in
    go (nat_lt j 128) (nat_lt k 128) refl refl e

is_same : (x y : ℤ) → x ≡ y → int_eq x y ≡ true
is_same x y e = (Decides-int_eq x y).1 e

is_other : (x y : ℤ) → x ≢ y → int_eq x y ≡ false
is_other x y other =
    let d = Decides-int_eq x y in
    let P : Bool → Type 0 = λ b. int_eq x y ≡ b → int_eq x y ≡ false in
    let go : (b : Bool) → P b = λ b. elim b as P [ true ↦ (λ e. absurd (other (d.0 e))) | false ↦ (λ e. e) ] in
    go (int_eq x y) refl

abbrev bit : Bool → ℕ
bit b = if b then 1 else 0

last_of : (n x : ℤ) (ns : List ℤ) → how_many n (ns ++ x ∷ []) ≡ how_many n ns + bit (int_eq x n)
last_of n x ns = let h = how_many-append n ns (x ∷ []) in omega (arith, h)

-- ---- counts

pub none_counted : (items : List ℕ) → items ≡ replicate 256 0 → AreCounts [] items
none_counted items e = record {
  all = ap (λ (xs : List ℕ). length xs) e ∙ length-replicate {A = ℕ} 256 0;
  each = λ k below. ap (λ (xs : List ℕ). slice_index xs k) e ∙ get_or-replicate {A = ℕ} 256 k 0 0 below;
}

-- A number more is counted at its place.
pub one_counted : (ns : List ℤ) (x : ℤ) (items : List ℕ) (k : ℕ) → k < 256 → x ≡ number_of k → AreCounts ns items
    → AreCounts (ns ++ x ∷ []) (slice_set items k (slice_index items k + 1))
one_counted ns x items k below is h = record {
  all = length-set items k (slice_index items k + 1) ∙ h.all;
  each = λ j within.
      let P : Bool → Type 0 = λ b. (j == k) ≡ b
      → slice_index (slice_set items k (slice_index items k + 1)) j ≡ how_many (number_of j) (ns ++ x ∷ []) in
      let go : (b : Bool) → P b = λ b. elim b as P [
        | true ↦ (λ e.
            let same : j ≡ k = grind (arith, nat_tests) in
            let long : k < length items = let a = h.all in omega (arith, a, below) in
            let here : slice_index (slice_set items k (slice_index items k + 1)) k ≡ slice_index items k + 1 =
            get_or-set_same items k (slice_index items k + 1) 0 long in
            let at = ap (λ (i : ℕ). slice_index (slice_set items k (slice_index items k + 1)) i) same in
            let was = h.each j within in
            let old : slice_index items k ≡ slice_index items j = ap (slice_index items) (sym same) in
            let one : bit (int_eq x (number_of j)) ≡ 1 =
            ap bit (is_same x (number_of j) (is ∙ ap number_of (sym same))) in
            let sum = last_of (number_of j) x ns in
            omega (arith, here, at, was, old, one, sum))
        | false ↦ (λ e.
            let other : j ≢ k = grind (arith, nat_tests) in
            let here : slice_index (slice_set items k (slice_index items k + 1)) j ≡ slice_index items j =
            get_or-set_other items k j (slice_index items k + 1) 0 other in
            let was = h.each j within in
            let none : bit (int_eq x (number_of j)) ≡ 0 =
            ap bit (is_other x (number_of j) (λ q. other (number_apart j k within below (sym q ∙ is)))) in
            let sum = last_of (number_of j) x ns in
            omega (arith, here, was, none, sum))
      ] in
      go (j == k) refl;
}

-- A number that has no place isn't counted.
pub none_more : (ns : List ℤ) (x : ℤ) (items : List ℕ) → ((k : ℕ) → k < 256 → x ≢ number_of k) → AreCounts ns items
    → AreCounts (ns ++ x ∷ []) items
none_more ns x items out h = record {
  all = h.all;
  each = λ j within.
      let was = h.each j within in
      let none : bit (int_eq x (number_of j)) ≡ 0 = ap bit (is_other x (number_of j) (out j within)) in
      let sum = last_of (number_of j) x ns in
      omega (arith, was, none, sum);
}

-- Counts added are those of both.
pub both_counted : (ms ns : List ℤ) (xs ys items : List ℕ) → AreCounts ms xs → AreCounts ns ys → AreSums xs ys items → AreCounts (ms ++ ns) items
both_counted ms ns xs ys items a b s = record {
  all = s.all;
  each = λ k below.
      let p = s.each k below in let q = a.each k below in let r = b.each k below in let sum = how_many-append (number_of k) ms ns in
      omega (arith, p, q, r, sum);
}

-- ---- the first of some numbers

pub length_take : {X : Type 0} (i : ℕ) (xs : List X) → length (take i xs) ≤ i
length_take zero xs = omega arith
length_take (suc i) [] = omega arith
length_take (suc i) (x ∷ xs) = let h = length_take i xs in omega (arith, h)

-- The next is counted too.
pub taken_more : (before ns : List ℤ) (i : ℕ) (x : ℤ) (items : List ℕ) → i < length ns → x ≡ slice_index_or ns i (pos 0)
    → AreCounts ((before ++ take i ns) ++ x ∷ []) items → AreCounts (before ++ take (i + 1) ns) items
taken_more before ns i x items below is h =
    let next : i + 1 ≡ suc i = omega arith in
    let more = ap (λ y. take i ns ++ y ∷ []) is ∙ sym (take-suc ns i (pos 0) below) ∙ ap (λ j. take j ns) (sym next) in
    subst (λ (ms : List ℤ). AreCounts ms items) (append_assoc before (take i ns) (x ∷ []) ∙ ap (λ ms. before ++ ms) more) h
