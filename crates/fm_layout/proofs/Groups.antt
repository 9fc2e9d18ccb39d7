-- What is known on the way through a group's members comes to its size and its alignment.
use Rattle.std.proofs.Common.{◌≡◌, refl, sym, ap, subst, ℕ, ◌+◌, ◌%◌, ◌<◌, ◌≤◌, max, List, ◌∷◌, length, drop, get_or, arith, ◌∙◌, eq-eqb, le-leb}
use Rattle.std.{specs.Int.{IsPowerOfTwo}, proofs.lemmas.List.{drop_more, drop_all}}
use Rattle.fm_layout.specs.{Tree.{Tree, Trees, NoMore, More, alignment_of}, Size.{size_of, greatest_alignment}, WellFormed.{limit, IsWellFormed}}
use Rattle.fm_layout.specs.{Named.{HasNames}, Made.{fault_of}, Extent.{IsStructExtent, IsUnionExtent, IsLaying, IsStacking}, Views.{trees}}
use Rattle.fm_layout.proofs.Sound.{IsPowerOfTwo-max, positive_power, fit_of}

-- ---- structs

-- A member that keeps the rule leaves the refusal to the others.
pub fault_of-more : (i at : ℕ) (t : Tree) (ts : Trees) → at % alignment_of t ≡ 0 → at + size_of t ≤ limit
    → fault_of i at (More t ts) ≡ fault_of (i + 1) (at + size_of t) ts
fault_of-more i at t ts h g = rw (eq-eqb _ _ h, le-leb _ _ g) refl

-- A well formed group has an alignment of at least 1.
pub greatest_positive : (ts : Trees) → 1 ≤ greatest_alignment ts
greatest_positive NoMore = omega arith
greatest_positive (More t ts) = omega (arith, greatest_positive ts)

-- Before the first member.
pub laying_start : (ts : Trees) → IsLaying 0 0 1 ts ts
laying_start ts = record {
  fault = refl;
  size = omega arith;
  greatest = omega (arith, greatest_positive ts);
  power = (0, refl);
  small = omega arith;
  below = omega arith;
  laid_out = λ r. r;
  named = λ r. r;
}

laying_step : (i at a : ℕ) (ts rest : Trees) (t : Tree) → IsLaying i at a ts (More t rest) → IsWellFormed t → HasNames t → at % alignment_of t ≡ 0
    → at + size_of t ≤ limit → IsLaying (i + 1) (at + size_of t) (max a (alignment_of t)) ts rest
laying_step i at a ts rest t l w named h g =
    let f = fit_of t w in
    record {
      fault = sym (fault_of-more i at t rest h g) ∙ l.fault;
      size = omega (arith, l.size);
      greatest = omega (arith, l.greatest);
      power = IsPowerOfTwo-max a (alignment_of t) l.power f.power;
      small = g;
      below = omega (arith, l.below, f.greatest);
      laid_out = λ r. l.laid_out (h, w, r);
      named = λ r. l.named (named, r);
    }

-- One member more that keeps the rule.
pub laying_more : (i at a n b m : ℕ) (ts : List Tree) (t : Tree) → IsLaying i at a (trees ts) (trees (drop i ts)) → i < length ts → t ≡ get_or ts i t
    → n ≡ size_of t → b ≡ alignment_of t → IsWellFormed t → HasNames t → at % b ≡ 0 → at + n ≤ limit → m ≡ max a b
    → IsLaying (i + 1) (at + n) m (trees ts) (trees (drop (i + 1) ts))
laying_more i at a n b m ts t l lt is en eb w named h g em =
    let l' = subst (λ r. IsLaying i at a (trees ts) (trees r)) (drop_more ts i t lt ∙ ap (λ x. x ∷ drop (i + 1) ts) (sym is)) l in
    rw (em, en, eb) (laying_step i at a (trees ts) (trees (drop (i + 1) ts)) t l' w named (rw (← eb) h) (rw (← en) g))

-- Past the last member.
pub laying_end : (i at a : ℕ) (ts : List Tree) → IsLaying i at a (trees ts) (trees (drop i ts)) → length ts ≤ i → IsStructExtent at a (trees ts)
laying_end i at a ts l le =
    let l' = subst (λ r. IsLaying i at a (trees ts) (trees r)) (drop_all i ts le) l in
    let p = positive_power a l'.power in
    record {
      size = omega (arith, l'.size);
      greatest = omega (arith, l'.greatest, p);
      power = l'.power;
      small = l'.small;
      below = l'.below;
      laid_out = l'.laid_out tt;
      named = l'.named tt;
      none = sym l'.fault;
    }

-- ---- unions

-- Before the first member.
pub stacking_start : (ts : Trees) → IsStacking 0 1 ts ts
stacking_start ts = record {
  size = omega arith;
  greatest = omega (arith, greatest_positive ts);
  power = (0, refl);
  small = omega arith;
  below = omega arith;
  well_formed = λ r. r;
  named = λ r. r;
}

-- One member more.
pub stacking_more : (i n a m b : ℕ) (ts : List Tree) (t : Tree) → IsStacking n a (trees ts) (trees (drop i ts)) → i < length ts → t ≡ get_or ts i t
    → IsWellFormed t → HasNames t → m ≡ max (size_of t) n → b ≡ max (alignment_of t) a → IsStacking m b (trees ts) (trees (drop (i + 1) ts))
stacking_more i n a m b ts t s lt is w named em eb =
    let s' = subst (λ r. IsStacking n a (trees ts) (trees r)) (drop_more ts i t lt ∙ ap (λ x. x ∷ drop (i + 1) ts) (sym is)) s in
    let f = fit_of t w in
    record {
      size = omega (arith, s'.size, em);
      greatest = omega (arith, s'.greatest, eb);
      power = subst IsPowerOfTwo (sym eb) (IsPowerOfTwo-max (alignment_of t) a f.power s'.power);
      small = omega (arith, s'.small, f.size, em);
      below = omega (arith, s'.below, f.greatest, eb);
      well_formed = λ r. s'.well_formed (w, r);
      named = λ r. s'.named (named, r);
    }

-- Past the last member.
pub stacking_end : (i n a : ℕ) (ts : List Tree) → IsStacking n a (trees ts) (trees (drop i ts)) → length ts ≤ i → IsUnionExtent n a (trees ts)
stacking_end i n a ts s le =
    let s' = subst (λ r. IsStacking n a (trees ts) (trees r)) (drop_all i ts le) s in
    record {
      size = omega (arith, s'.size);
      greatest = omega (arith, s'.greatest, positive_power a s'.power);
      power = s'.power;
      small = s'.small;
      below = s'.below;
      well_formed = s'.well_formed tt;
      named = s'.named tt;
    }

-- ---- the greatest alignment alone

-- One member more.
pub greatest_more : (i a b : ℕ) (ts : List Tree) (t : Tree) → 1 ≤ a → max a (greatest_alignment (trees (drop i ts))) ≡ greatest_alignment (trees ts)
    → i < length ts → t ≡ get_or ts i t → b ≡ max (alignment_of t) a
    → (1 ≤ b) × (max b (greatest_alignment (trees (drop (i + 1) ts))) ≡ greatest_alignment (trees ts))
greatest_more i a b ts t some e lt is eb =
    let e' = subst (λ r. max a (greatest_alignment (trees r)) ≡ greatest_alignment (trees ts)) (drop_more ts i t lt
    ∙ ap (λ x. x ∷ drop (i + 1) ts) (sym is)) e in
    (omega arith, omega arith)

-- Past the last member.
pub greatest_end : (i a : ℕ) (ts : List Tree) → 1 ≤ a → max a (greatest_alignment (trees (drop i ts))) ≡ greatest_alignment (trees ts) → length ts ≤ i
    → a ≡ greatest_alignment (trees ts)
greatest_end i a ts some e le =
    let e' = subst (λ r. max a (greatest_alignment (trees r)) ≡ greatest_alignment (trees ts)) (drop_all i ts le) e in
    omega arith
