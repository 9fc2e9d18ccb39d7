-- The footprints of groups, from those of their members.
use Rattle.std.proofs.Common.{◌≡◌, inr, ℕ, ◌+◌, ◌%◌, ◌<◌, ◌≤◌, max, true, false, cond, List, [], ◌∷◌, length, drop, get_or, Some, Ok, Err, refl, sym, ap, subst, ◌∙◌, arith, eq-eqb, le-leb, nat_eq, nat_le}
use Rattle.std.proofs.lemmas.{Bool.Decides.{nat_tests}, List.{drop_all, drop_more}}
use Rattle.fm_base.specs.declared.refusal.Refusal.{Refusal, TheVariants.{MemberMisaligned, Overflow}}
use Rattle.fm_layout.specs.{Tree.{Tree, Trees, NoMore, More, Struct, alignment_of}, Size.{size_of, sum_of, greatest_of, greatest_alignment}, WellFormed.{limit}}
use Rattle.fm_layout.{specs.Made.{fault_of, made, plain, struct_of, union_of}, proofs.Groups.{greatest_positive}}
use Rattle.fm_ljson.specs.{Footprints.{AreFootprints, IsFootprint, IsFootprintOf, IsWeighed}, declared.footprint.Footprint.{Footprint}}

-- The next of the footprints is the first of those left.
next_left : (P : List Footprint → Type 0) (fs : List Footprint) (i : ℕ) (f : Footprint) → i < length fs → f ≡ get_or fs i f → P (drop i fs)
    → P (f ∷ drop (i + 1) fs)
next_left P fs i f here is h =
    let next : drop i fs ≡ f ∷ drop (i + 1) fs = drop_more fs i f here ∙ ap (λ (g : Footprint). g ∷ drop (i + 1) fs) (sym is) in
    subst P next h

none_left : (P : List Footprint → Type 0) (fs : List Footprint) (i : ℕ) → length fs ≤ i → P (drop i fs) → P []
none_left P fs i past h = subst P (drop_all i fs past) h

-- ---- structs

-- of a struct's members these are left, which begin at offset `at` with member i; those before have this alignment
pub record IsLaid (i at a : ℕ) (ts : Trees) (left : List Footprint) : Type 0 where
  pub rest : Trees
  pub are : AreFootprints left rest
  pub fault : fault_of i at rest ≡ fault_of 0 0 ts
  pub size : at + sum_of rest ≡ sum_of ts
  pub greatest : max a (greatest_alignment rest) ≡ greatest_alignment ts

pub laid_start : (fs : List Footprint) (ts : Trees) → AreFootprints fs ts → IsLaid 0 0 1 ts fs
laid_start fs ts are =
    record { rest = ts; are = are; fault = refl; size = omega arith; greatest = omega (arith, greatest_positive ts) }

-- what is known at a member
pub record IsAtMember (i at a : ℕ) (ts : Trees) (f : Footprint) (left : List Footprint) : Type 0 where
  pub first : Tree
  pub rest : Trees
  pub is : IsFootprint f first
  pub are : AreFootprints left rest
  pub fault : fault_of i at (More first rest) ≡ fault_of 0 0 ts
  pub size : at + sum_of (More first rest) ≡ sum_of ts
  pub greatest : max a (greatest_alignment (More first rest)) ≡ greatest_alignment ts

member_first : (i at a : ℕ) (ts : Trees) (f : Footprint) (left : List Footprint) (rest : Trees) → AreFootprints (f ∷ left) rest
    → fault_of i at rest ≡ fault_of 0 0 ts → at + sum_of rest ≡ sum_of ts → max a (greatest_alignment rest) ≡ greatest_alignment ts
    → IsAtMember i at a ts f left
member_first i at a ts f left NoMore are fault size greatest = absurd are
member_first i at a ts f left (More t rest) are fault size greatest =
    record { first = t; rest = rest; is = are.0; are = are.1; fault = fault; size = size; greatest = greatest }

pub at_member : (i at a : ℕ) (ts : Trees) (fs : List Footprint) (f : Footprint) → i < length fs → f ≡ get_or fs i f → IsLaid i at a ts (drop i fs)
    → IsAtMember i at a ts f (drop (i + 1) fs)
at_member i at a ts fs f here is h =
    let l = next_left (IsLaid i at a ts) fs i f here is h in
    member_first i at a ts f (drop (i + 1) fs) l.rest l.are l.fault l.size l.greatest

refused_so : (ts : Trees) (r : Refusal) → fault_of 0 0 ts ≡ Some r → IsWeighed (Err r) (struct_of ts)
refused_so ts r h = inr (ap (made (Struct ts (plain (greatest_alignment ts)))) h)

-- A member that doesn't stand at a multiple of its alignment is refused.
pub misaligned : (i at a : ℕ) (ts : Trees) (f : Footprint) (left : List Footprint) → IsAtMember i at a ts f left → ¬ (at % f.alignment ≡ 0)
    → IsWeighed (Err (MemberMisaligned i at)) (struct_of ts)
misaligned i at a ts f left m h =
    let ragged : ¬ (at % alignment_of m.first ≡ 0) = λ e. h (ap (λ n. at % n) m.is.alignment ∙ e) in
    let no : nat_eq (at % alignment_of m.first) 0 ≡ false = grind (arith, nat_tests, ragged) in
    refused_so ts _ (sym m.fault
    ∙ ap (λ b. cond b (cond (nat_le (at + size_of m.first) limit) (fault_of (i + 1) (at + size_of m.first) m.rest) (Some Overflow)) (Some (MemberMisaligned i at))) no)

-- So is one that ends past the limit.
pub past_limit : (i at a : ℕ) (ts : Trees) (f : Footprint) (left : List Footprint) → IsAtMember i at a ts f left → at % f.alignment ≡ 0
    → limit < at + f.size → IsWeighed (Err Overflow) (struct_of ts)
past_limit i at a ts f left m h large =
    let fits : at % alignment_of m.first ≡ 0 = ap (λ n. at % n) (sym m.is.alignment) ∙ h in
    let yes : nat_eq (at % alignment_of m.first) 0 ≡ true = eq-eqb _ _ fits in
    let over : limit < at + size_of m.first = omega (arith, large, m.is.size) in
    let no : nat_le (at + size_of m.first) limit ≡ false = grind (arith, nat_tests, over) in
    refused_so ts _ (sym m.fault ∙ rw (yes, no) refl)

-- One that keeps the rule leaves the others.
pub one_more : (i at a b : ℕ) (ts : Trees) (f : Footprint) (left : List Footprint) → IsAtMember i at a ts f left → at % f.alignment ≡ 0
    → at + f.size ≤ limit → b ≡ max f.alignment a → IsLaid (i + 1) (at + f.size) b ts left
one_more i at a b ts f left m h small eb =
    let fits : at % alignment_of m.first ≡ 0 = ap (λ n. at % n) (sym m.is.alignment) ∙ h in
    let yes : nat_eq (at % alignment_of m.first) 0 ≡ true = eq-eqb _ _ fits in
    let below : at + size_of m.first ≤ limit = omega (arith, small, m.is.size) in
    let more : fault_of i at (More m.first m.rest) ≡ fault_of (i + 1) (at + size_of m.first) m.rest = rw (yes, le-leb _ _ below) refl in
    record {
      rest = m.rest;
      are = m.are;
      fault = ap (λ n. fault_of (i + 1) (at + n) m.rest) m.is.size ∙ sym more ∙ m.fault;
      size = omega (arith, m.size, m.is.size);
      greatest = omega (arith, m.greatest, m.is.alignment, eb);
    }

ended : (at a : ℕ) (ts rest : Trees) (f : Footprint) (i : ℕ) → AreFootprints [] rest → fault_of i at rest ≡ fault_of 0 0 ts → at + sum_of rest ≡ sum_of ts
    → max a (greatest_alignment rest) ≡ greatest_alignment ts → 1 ≤ a → f.size ≡ at → f.alignment ≡ a → f.least ≡ a → IsWeighed (Ok f) (struct_of ts)
ended at a ts NoMore f i are fault size greatest some es ea el =
    let is : IsFootprint f (Struct ts (plain (greatest_alignment ts))) = record {
      size = omega (arith, size, es);
      alignment = omega (arith, greatest, ea, some);
      least = omega (arith, greatest, el, some);
    } in
    subst (λ o. IsFootprintOf f (made (Struct ts (plain (greatest_alignment ts))) o)) fault is
ended at a ts (More t rest) f i are fault size greatest some es ea el = absurd are

-- Past the last member.
pub laid_end : (i at a : ℕ) (ts : Trees) (fs : List Footprint) (f : Footprint) → length fs ≤ i → IsLaid i at a ts (drop i fs) → 1 ≤ a
    → f.size ≡ at → f.alignment ≡ a → f.least ≡ a → IsWeighed (Ok f) (struct_of ts)
laid_end i at a ts fs f past h some es ea el =
    let l = none_left (IsLaid i at a ts) fs i past h in
    ended at a ts l.rest f i l.are l.fault l.size l.greatest some es ea el

-- ---- unions

-- of a union's members these are left; those before have this size and this alignment
pub record IsStacked (n a : ℕ) (ts : Trees) (left : List Footprint) : Type 0 where
  pub rest : Trees
  pub are : AreFootprints left rest
  pub size : max n (greatest_of rest) ≡ greatest_of ts
  pub greatest : max a (greatest_alignment rest) ≡ greatest_alignment ts

pub stacked_start : (fs : List Footprint) (ts : Trees) → AreFootprints fs ts → IsStacked 0 1 ts fs
stacked_start fs ts are = record { rest = ts; are = are; size = omega arith; greatest = omega (arith, greatest_positive ts) }

stacked_first : (n a m b : ℕ) (ts : Trees) (f : Footprint) (left : List Footprint) (rest : Trees) → AreFootprints (f ∷ left) rest
    → max n (greatest_of rest) ≡ greatest_of ts → max a (greatest_alignment rest) ≡ greatest_alignment ts → m ≡ max f.size n → b ≡ max f.alignment a
    → IsStacked m b ts left
stacked_first n a m b ts f left NoMore are size greatest em eb = absurd are
stacked_first n a m b ts f left (More t rest) are size greatest em eb = record {
  rest = rest;
  are = are.1;
  size = omega (arith, size, are.0.size, em);
  greatest = omega (arith, greatest, are.0.alignment, eb);
}

pub stacked_more : (i n a m b : ℕ) (ts : Trees) (fs : List Footprint) (f : Footprint) → i < length fs → f ≡ get_or fs i f → IsStacked n a ts (drop i fs)
    → m ≡ max f.size n → b ≡ max f.alignment a → IsStacked m b ts (drop (i + 1) fs)
stacked_more i n a m b ts fs f here is h em eb =
    let s = next_left (IsStacked n a ts) fs i f here is h in
    stacked_first n a m b ts f (drop (i + 1) fs) s.rest s.are s.size s.greatest em eb

piled : (n a : ℕ) (ts rest : Trees) (f : Footprint) → AreFootprints [] rest → max n (greatest_of rest) ≡ greatest_of ts
    → max a (greatest_alignment rest) ≡ greatest_alignment ts → 1 ≤ a → f.size ≡ n → f.alignment ≡ a → f.least ≡ a → IsFootprint f (union_of ts)
piled n a ts NoMore f are size greatest some es ea el = record {
  size = omega (arith, size, es);
  alignment = omega (arith, greatest, ea, some);
  least = omega (arith, greatest, el, some);
}
piled n a ts (More t rest) f are size greatest some es ea el = absurd are

pub stacked_end : (i n a : ℕ) (ts : Trees) (fs : List Footprint) (f : Footprint) → length fs ≤ i → IsStacked n a ts (drop i fs) → 1 ≤ a
    → f.size ≡ n → f.alignment ≡ a → f.least ≡ a → IsFootprint f (union_of ts)
stacked_end i n a ts fs f past h some es ea el =
    let s = none_left (IsStacked n a ts) fs i past h in
    piled n a ts s.rest f s.are s.size s.greatest some es ea el
