-- Places lie inside, stand aligned, and share no byte but in a union.
use Rattle.std.proofs.Common.{◌≡◌, ◌≢◌, refl, sym, ap, subst, ℕ, ◌+◌, ◌*◌, ◌-◌, ◌%◌, ◌/◌, ◌^◌, ◌<◌, ◌≤◌, inl, inr, zero, suc, Some, List, [], ◌∷◌, arith, ◌∙◌}
use Rattle.std.proofs.{lemmas.{Bool.{cases_lt, cases_order}, Nat.{pow-add, mod-mul-add, div-add-mod'}}, Math.{Nat.{mul-le-mul_right}, Pow.{pow-lt}}}
use Rattle.std.specs.Int.{IsPowerOfTwo}
use Rattle.fm_layout.specs.Tree.{Tree, Trees, Value, Sequence, Struct, Union, NoMore, More, alignment_of}
use Rattle.fm_layout.specs.{Size.{size_of, greatest_of, greatest_alignment, sum_before}, WellFormed.{IsWellFormed, AreLaidOut, AreWellFormed}}
use Rattle.fm_layout.{specs.Parts.{tree_at, IsValue}, proofs.Sound.{fit_of, positive_alignment}}
use Rattle.fm_path_meaning.proofs.Members.{before_more, before_apart}
use Rattle.fm_path_meaning.specs.Places.{Step, Element, Member, IsPart, IsAt, IsUnion, Apart, One, In_union, First, Second}

-- a member of a union ends within the union
greatest_holds : (i : ℕ) (ms : Trees) (c : Tree) → tree_at i ms ≡ Some c → size_of c ≤ greatest_of ms
greatest_holds i NoMore c e = absurd (cc)
greatest_holds zero (More t ts) c e = let is : t ≡ c = cc in omega (arith, ap size_of is)
greatest_holds (suc i) (More t ts) c e = omega (arith, greatest_holds i ts c e)

-- an element ends within the row
rows : (i n m : ℕ) → i < n → i * m + m ≤ n * m
rows i n m h = omega (arith, mul-le-mul_right m h)

-- a part ends within the whole
pub part_inside : (s : Step) (t : Tree) (a : ℕ) (c : Tree) → IsPart s t a c → a + size_of c ≤ size_of t
part_inside (Element i) (Sequence n e l) a c p = omega (arith, p.1, ap size_of p.2, rows i n (size_of e) p.0)
part_inside (Element i) t a c p = absurd p
part_inside (Member i) (Struct ms l) a c p = omega (arith, p.1, (before_more i ms c p.0).1)
part_inside (Member i) (Union ms l) a c p = omega (arith, p.1, greatest_holds i ms c p.0)
part_inside (Member i) t a c p = let never = p.0 in absurd (cc)

-- a place lies inside the root
pub inside : (ss : List Step) (t : Tree) (at : ℕ) (u : Tree) → IsAt ss t at u → at + size_of u ≤ size_of t
inside [] t at u h = omega (arith, h.0, ap size_of h.1)
inside (s ∷ ss) t at u h = omega (arith, h.5, inside ss h.2 h.1 u h.4, part_inside s t h.0 h.2 h.3)

-- a whole number of times a is b
abbrev pub Divides : ℕ → ℕ → Type 0
Divides a b = (q : ℕ) × (b ≡ q * a)

-- no rest means divisible
pub divides_from : (a b : ℕ) → b % a ≡ 0 → Divides a b
divides_from a b h = (b / a, omega (arith, div-add-mod' b a))

-- divisible means no rest
pub divides_gives : (a b : ℕ) → 1 ≤ a → Divides a b → b % a ≡ 0
divides_gives a b pos d = ap (λ x. x % a) (d.1 ∙ omega arith) ∙ mod-mul-add d.0 a 0 pos

-- what divides two numbers divides their sum
pub divides_add : (a b c : ℕ) → Divides a b → Divides a c → Divides a (b + c)
divides_add a b c d e = (d.0 + e.0, omega (arith, d.1, e.1))

-- what divides a number divides its multiples
divides_times : (a b i : ℕ) → Divides a b → Divides a (i * b)
divides_times a b i d = (i * d.0, ap (λ x. i * x) d.1 ∙ omega arith)

-- divisors of divisors are divisors
pub divides_trans : (a b c : ℕ) → Divides a b → Divides b c → Divides a c
divides_trans a b c d e = (e.0 * d.0, e.1 ∙ ap (λ x. e.0 * x) d.1 ∙ omega arith)

-- a power of two is a smaller one times the rest
pow_split : (n k : ℕ) → k ≤ n → 2 ^ n ≡ 2 ^ (n - k) * 2 ^ k
pow_split n k h = let e : n ≡ (n - k) + k = omega arith in ap (λ x. 2 ^ x) e ∙ pow-add 2 (n - k) k

-- the smaller of two powers of two divides the greater
pub divides_powers : (a b : ℕ) → IsPowerOfTwo a → IsPowerOfTwo b → a ≤ b → Divides a b
divides_powers a b p q le = elim (cases_lt q.0 p.0) [
  | inl h ↦ absurd (omega (arith, pow-lt h, p.1, q.1))
  | inr h ↦ (2 ^ (q.0 - p.0), q.1 ∙ pow_split q.0 p.0 h ∙ ap (λ x. 2 ^ (q.0 - p.0) * x) (sym p.1))
]

-- what is known of a part of a well-formed layout
record Sits (c : Tree) (a most : ℕ) : Type 0 where
  well : IsWellFormed c
  below : alignment_of c ≤ most
  -- so does each place
  aligned : a % alignment_of c ≡ 0

-- a member of a well-formed struct is well formed and aligned
member_sits : (i : ℕ) (ms : Trees) (from : ℕ) (c : Tree) → AreLaidOut from ms → tree_at i ms ≡ Some c → Sits c (from + sum_before i ms) (greatest_alignment ms)
member_sits i NoMore from c w e = absurd (cc)
member_sits zero (More t ts) from c w e =
    let is : t ≡ c = cc in
    subst (λ c. Sits c (from + 0) (greatest_alignment (More t ts))) is (record {
      well = w.1;
      below = omega arith;
      aligned = ap (λ x. x % alignment_of t) (omega arith) ∙ w.0;
    })
member_sits (suc i) (More t ts) from c w e =
    let r = member_sits i ts (from + size_of t) c w.2 e in
    record { well = r.well; below = omega (arith, r.below); aligned = ap (λ x. x % alignment_of c) (omega arith) ∙ r.aligned }

-- a member of a well-formed union is well formed
first_sits : (i : ℕ) (ms : Trees) (c : Tree) → AreWellFormed ms → tree_at i ms ≡ Some c → IsWellFormed c × (alignment_of c ≤ greatest_alignment ms)
first_sits i NoMore c w e = absurd (cc)
first_sits zero (More t ts) c w e = let is : t ≡ c = cc in (subst IsWellFormed is w.0, omega (arith, ap alignment_of is))
first_sits (suc i) (More t ts) c w e = let r = first_sits i ts c w.1 e in (r.0, omega (arith, r.1))

-- a part is well formed, and stands at a multiple of its alignment, which divides the whole's
record Part (c : Tree) (a : ℕ) (t : Tree) : Type 0 where
  well : IsWellFormed c
  divides : Divides (alignment_of c) (alignment_of t)
  -- so does each place
  aligned : Divides (alignment_of c) a

-- a well-formed part with a smaller alignment
part_from : (c : Tree) (a : ℕ) (t : Tree) → IsWellFormed t → IsWellFormed c → alignment_of c ≤ alignment_of t → Divides (alignment_of c) a → Part c a t
part_from c a t wt wc le d = record {
  well = wc;
  divides = divides_powers (alignment_of c) (alignment_of t) (fit_of c wc).power (fit_of t wt).power le;
  aligned = d;
}

-- each part of a well-formed layout sits so
part_of : (s : Step) (t : Tree) (a : ℕ) (c : Tree) → IsWellFormed t → IsPart s t a c → Part c a t
part_of (Element i) (Sequence n e l) a c w p =
    subst (λ c. Part c a (Sequence n e l)) (sym p.2)
    (part_from e a (Sequence n e l) w w.2 w.0.least
    (subst (Divides (alignment_of e)) (sym p.1) (divides_times (alignment_of e) (size_of e) i (divides_from (alignment_of e) (size_of e) w.1))))
part_of (Element i) t a c w p = absurd p
part_of (Member i) (Struct ms l) a c w p =
    let r = member_sits i ms 0 c w.1 p.0 in
    part_from c a (Struct ms l) w r.well (omega (arith, r.below, w.0.least))
    (divides_from (alignment_of c) a (ap (λ x. x % alignment_of c) (p.1 ∙ omega arith) ∙ r.aligned))
part_of (Member i) (Union ms l) a c w p =
    let r = first_sits i ms c w.1 p.0 in
    part_from c a (Union ms l) w r.0 (omega (arith, r.1, w.0.least)) (0, omega (arith, p.1))
part_of (Member i) t a c w p = let never = p.0 in absurd (cc)

-- so does each place
aligned : (ss : List Step) (t : Tree) (at : ℕ) (u : Tree) → IsWellFormed t → IsAt ss t at u → Part u at t
aligned [] t at u w h = subst (λ u. Part u at t) (sym h.1) (part_from t at t w w (omega arith) (0, omega (arith, h.0)))
aligned (s ∷ ss) t at u w h =
    let p = part_of s t h.0 h.2 w h.3 in
    let q = aligned ss h.2 h.1 u p.well h.4 in
    record {
      well = q.well;
      divides = divides_trans _ _ _ q.divides p.divides;
      aligned = subst (Divides (alignment_of u)) (sym h.5) (divides_add _ _ _ (divides_trans _ _ _ q.divides p.aligned) q.aligned);
    }

-- a place of a well-formed layout stands at a multiple of its alignment
pub place_aligned : (ss : List Step) (t : Tree) (at : ℕ) (u : Tree) → IsWellFormed t → IsAt ss t at u → at % alignment_of u ≡ 0
place_aligned ss t at u w h =
    let p = aligned ss t at u w h in
    divides_gives (alignment_of u) at (positive_alignment u p.well) p.aligned

-- a place's layout is well formed, and its alignment divides the whole's
pub place_fits_root : (ss : List Step) (t : Tree) (at : ℕ) (u : Tree) → IsWellFormed t → IsAt ss t at u → IsWellFormed u × (alignment_of t % alignment_of u ≡ 0)
place_fits_root ss t at u w h =
    let p = aligned ss t at u w h in
    (p.well, divides_gives (alignment_of u) (alignment_of t) (positive_alignment u p.well) p.divides)

-- a value has no part
value_no_part : (s : Step) (t : Tree) (a : ℕ) (c : Tree) → IsValue t → IsPart s t a c → ⊥
value_no_part (Element i) (Value k o l) a c v p = p
value_no_part (Member i) (Value k o l) a c v p = let never = p.0 in cc
value_no_part s t a c v p = absurd v

-- a step leads to one part
pub part_once : (s : Step) (t : Tree) (a b : ℕ) (c d : Tree) → IsPart s t a c → IsPart s t b d → (a ≡ b) × (c ≡ d)
part_once (Element i) (Sequence n e l) a b c d p q = (p.1 ∙ sym q.1, p.2 ∙ sym q.2)
part_once (Element i) t a b c d p q = absurd p
part_once (Member i) t a b c d p q = let one = p.0 in let other = q.0 in (p.1 ∙ sym q.1, cc)

-- two parts of one layout: the same, or in a union, or one behind the other
data Pair (s r : Step) (t : Tree) (a b : ℕ) (c d : Tree) : Type 0 where
  Same : s ≡ r → a ≡ b → c ≡ d → Pair s r t a b c d
  At_union : s ≢ r → IsUnion t → Pair s r t a b c d
  Before : a + size_of c ≤ b → Pair s r t a b c d
  Behind : b + size_of d ≤ a → Pair s r t a b c d

-- the index of a step
index_of : Step → ℕ
index_of (Element i) = i
index_of (Member i) = i

-- steps of different indices differ
differ : (s r : Step) → (index_of s ≡ index_of r → ⊥) → s ≢ r
unfolding index_of
differ s r h e = h (ap index_of e)

-- two parts of one layout are one of these pairs
pair : (s r : Step) (t : Tree) (a b : ℕ) (c d : Tree) → IsPart s t a c → IsPart r t b d → Pair s r t a b c d
unfolding index_of
pair (Element i) (Element j) (Sequence n e l) a b c d p q = elim (cases_order i j) [
  | inl h ↦ Same (ap Element h) (p.1 ∙ ap (λ x. x * size_of e) h ∙ sym q.1) (p.2 ∙ sym q.2)
  | inr (inl h) ↦ Before (omega (arith, p.1, q.1, ap size_of p.2, rows i j (size_of e) h))
  | inr (inr h) ↦ Behind (omega (arith, p.1, q.1, ap size_of q.2, rows j i (size_of e) h))
]
pair (Member i) (Member j) (Struct ms l) a b c d p q = elim (cases_order i j) [
  | inl h ↦ let e = part_once (Member j) (Struct ms l) a b c d (subst (λ i. IsPart (Member i) (Struct ms l) a c) h p) q in Same (ap Member h) e.0 e.1
  | inr (inl h) ↦ Before (omega (arith, p.1, q.1, before_apart i j ms c p.0 h))
  | inr (inr h) ↦ Behind (omega (arith, p.1, q.1, before_apart j i ms d q.0 h))
]
pair (Member i) (Member j) (Union ms l) a b c d p q = elim (cases_order i j) [
  | inl h ↦ let e = part_once (Member j) (Union ms l) a b c d (subst (λ i. IsPart (Member i) (Union ms l) a c) h p) q in Same (ap Member h) e.0 e.1
  | inr (inl h) ↦ At_union (differ _ _ (λ e. omega arith)) tt
  | inr (inr h) ↦ At_union (differ _ _ (λ e. omega arith)) tt
]
pair (Element i) r (Sequence n e l) a b c d p q = let never = q.0 in absurd (cc)
pair (Element i) r t a b c d p q = absurd p
pair (Member i) (Element j) (Struct ms l) a b c d p q = absurd q
pair (Member i) (Element j) (Union ms l) a b c d p q = absurd q
pair (Member i) r t a b c d p q = let never = p.0 in absurd (cc)

-- what lies apart in a part lies apart in the whole
deeper : (s r : Step) (ss rs : List Step) (t c : Tree) (o a m b n : ℕ) → s ≡ r → IsPart s t o c → Apart ss rs c a m b n
    → Apart (s ∷ ss) (r ∷ rs) t (o + a) m (o + b) n
deeper s r ss rs t c o a m b n e p (One h) = One (ap (λ x. x ∷ ss) e ∙ ap (λ xs. r ∷ xs) h)
deeper s r ss rs t c o a m b n e p (In_union h) = In_union (inr (e, o, c, p, h))
deeper s r ss rs t c o a m b n e p (First h) = First (omega arith)
deeper s r ss rs t c o a m b n e p (Second h) = Second (omega arith)

-- two values of a layout lie apart, or are parted by a union
pub apart : (ss rs : List Step) (t : Tree) (a b : ℕ) (u v : Tree) → IsAt ss t a u → IsAt rs t b v → IsValue u → IsValue v
    → Apart ss rs t a (size_of u) b (size_of v)
apart [] [] t a b u v h k x y = One refl
apart [] (r ∷ rs) t a b u v h k x y = absurd (value_no_part r t k.0 k.2 (subst IsValue h.1 x) k.3)
apart (s ∷ ss) [] t a b u v h k x y = absurd (value_no_part s t h.0 h.2 (subst IsValue k.1 y) h.3)
apart (s ∷ ss) (r ∷ rs) t a b u v h k x y =
    subst (λ a. Apart (s ∷ ss) (r ∷ rs) t a (size_of u) b (size_of v)) (sym h.5)
    (subst (λ b. Apart (s ∷ ss) (r ∷ rs) t (h.0 + h.1) (size_of u) b (size_of v)) (sym k.5)
    (elim (pair s r t h.0 k.0 h.2 k.2 h.3 k.3) [
      | Same e f g ↦ subst (λ o. Apart (s ∷ ss) (r ∷ rs) t (h.0 + h.1) (size_of u) (o + k.1) (size_of v)) f
          (deeper s r ss rs t h.2 h.0 h.1 (size_of u) k.1 (size_of v) e h.3 (apart ss rs h.2 h.1 k.1 u v h.4 (subst (λ c. IsAt rs c k.1 v) (sym g) k.4) x y))
      | At_union e f ↦ In_union (inl (e, f))
      | Before e ↦ First (omega (arith, e, inside ss h.2 h.1 u h.4))
      | Behind e ↦ Second (omega (arith, e, inside rs k.2 k.1 v k.4))
    ]))
