-- Where a step leads there is a part, at each index, and its move says where.
use Rattle.std.proofs.Common.{◌≡◌, ◌≢◌, refl, sym, ap, subst, ℕ, ℤ, pos, negsuc, zero, suc, ◌+◌, ◌-◌, ◌*◌, ◌/◌, ◌<◌, ◌≤◌, nat_lt, nat_eq, Option, Some, None, Result, Ok, Err, arith, ◌∙◌}
use Rattle.std.{specs.Result.{IfOk}, proofs.{lemmas.{Bool.{cond_both, ltb-true, Decides.{nat_tests}}, Nat.{div-add-mod'}}, Math.Nat.{mul-le-mul_right}}}
use Rattle.fm_base.specs.declared.refusal.Refusal.{Refusal, TheVariants.{IndexOut}}
use Rattle.fm_layout.specs.{Tree.{Tree, Trees, Sequence}, Size.{size_of}, Parts.{member_of}}
use Rattle.fm_path_text.specs.declared.step.PathStep.{PathStep, TheVariants.{Name, Group, At, Each, EachFrom}}
use Rattle.fm_path_meaning.specs.Places.{Element, IsPart}
use Rattle.fm_path_meaning.specs.Follow.{members_of, row_of, index_in, Lead, Part, Open, lead_member, lead_found, in_group, row_or, lead_at, lead_from, lead, lead_closed, element_at, ◌>>=◌}
use Rattle.fm_path_meaning.specs.{Steady.{dip}, Walk.{bound_of, below, stride_of, first_bytes, by_of, dim_from, reach}}

-- a step that leaves no index open
abbrev pub IsClosed : PathStep → Type 0
IsClosed Each = ⊥
IsClosed (EachFrom f s) = ⊥
IsClosed p = Unit {0}

-- an open step begins in a row of so many elements, and leads on
abbrev pub Begins : PathStep → ℕ → Type 0
Begins Each count = Unit {0}
Begins (EachFrom f s) count = (f < count) × (s ≢ pos 0)
Begins p count = ⊥

-- what is known where a step leads
abbrev pub IsLead : PathStep → Tree → Lead → Type 0
IsLead p t (Part s u) = IsClosed p × IsPart s t (by_of t (Part s u)) u
IsLead p t (Open q n u) = (p ≡ q) × (row_of t ≡ Some (n, u)) × Begins q n

-- a row's element is a part
row_part : (t : Tree) (n : ℕ) (u : Tree) (i : ℕ) → row_of t ≡ Some (n, u) → i < n → IsPart (Element i) t (i * size_of u) u
row_part (Sequence c e l) n u i h lt =
    let q : ◌≡◌ {A = ℕ × Tree} (c, e) (n, u) = cc in
    let is = ap (λ r. r.1) q in
    (omega (arith, ap (λ r. r.0) q), ap (λ x. i * size_of x) (sym is), sym is)
row_part t n u i h lt = absurd (cc)

-- a member that is there, or isn't
member_leads : (p : PathStep) (k n : ℕ) (t : Tree) (o : Option Tree) → IsClosed p → member_of n t ≡ o → IfOk (lead_member k n o) (IsLead p t)
member_leads p k n t None h e = tt
member_leads p k n t (Some u) h e = (h, (e, refl))

found_leads : (p : PathStep) (k : ℕ) (t : Tree) (o : Option ℕ) → IsClosed p → IfOk (lead_found k t o) (IsLead p t)
found_leads p k t None h = tt
found_leads p k t (Some n) h = member_leads p k n t (member_of n t) h refl

of_group : (P : Lead → Type 0) (k : ℕ) (o : Option Trees) (r : Result Lead Refusal) → IfOk r P → IfOk (in_group k o r) P
of_group P k None r h = tt
of_group P k (Some ms) r h = h

of_row : (P : Lead → Type 0) (k : ℕ) (t : Tree) (f : ℕ × Tree → Result Lead Refusal) (o : Option (ℕ × Tree)) → row_of t ≡ o
    → ((n : ℕ) (u : Tree) → row_of t ≡ Some (n, u) → IfOk (f (n, u)) P) → IfOk (row_or k o >>= f) P
of_row P k t f None e h = tt
of_row P k t f (Some r) e h = h r.0 r.1 e

-- a step from an element on
from_leads : (k f : ℕ) (s : ℤ) (t : Tree) (n : ℕ) (u : Tree) → row_of t ≡ Some (n, u) → IfOk (lead_from k f s (n, u)) (IsLead (EachFrom f s) t)
from_leads k f (pos zero) t n u e = tt
from_leads k f (pos (suc s)) t n u e =
    cond_both (nat_lt f n) (Ok (Open (EachFrom f (pos (suc s))) n u)) (Err (IndexOut k)) (λ r. IfOk r (IsLead (EachFrom f (pos (suc s))) t))
    (λ h. (refl, e, (ltb-true f n h, λ x. cc))) (λ _. tt)
from_leads k f (negsuc s) t n u e =
    cond_both (nat_lt f n) (Ok (Open (EachFrom f (negsuc s)) n u)) (Err (IndexOut k)) (λ r. IfOk r (IsLead (EachFrom f (negsuc s)) t))
    (λ h. (refl, e, (ltb-true f n h, λ x. cc))) (λ _. tt)

-- each step that isn't refused leads so
pub leads : (k : ℕ) (p : PathStep) (t : Tree) → IfOk (lead k p t) (IsLead p t)
leads k (Name name) t = of_group (IsLead (Name name) t) k (members_of t) _ (found_leads (Name name) k t (index_in name (members_of t)) tt)
leads k (Group n) t = of_group (IsLead (Group n) t) k (members_of t) _ (member_leads (Group n) k n t (member_of n t) tt refl)
leads k (At n) t =
    of_row (IsLead (At n) t) k t (lead_at k n) (row_of t) refl (λ c u e.
    cond_both (nat_lt n c) (Ok (Part (Element n) u)) (Err (IndexOut k)) (λ r. IfOk r (IsLead (At n) t))
    (λ h. (tt, row_part t c u n e (ltb-true n c h))) (λ _. tt))
leads k Each t = of_row (IsLead Each t) k t (λ r. Ok (Open Each r.0 r.1)) (row_of t) refl (λ c u e. (refl, e, tt))
leads k (EachFrom f s) t = of_row (IsLead (EachFrom f s) t) k t (lead_from k f s) (row_of t) refl (from_leads k f s t)

-- the same where no step may be left open
pub leads_closed : (k : ℕ) (p : PathStep) (t : Tree) → IfOk (lead_closed k p t) (IsLead p t)
leads_closed k Each t = tt
leads_closed k (EachFrom f s) t = tt
leads_closed k p t = leads k p t

pub closed_same : (k : ℕ) (p : PathStep) (t : Tree) → IsClosed p → lead_closed k p t ≡ lead k p t
closed_same k Each t h = absurd h
closed_same k (EachFrom f s) t h = absurd h
closed_same k p t h = refl

-- a step forward or back, at an index below the bound
pub ups : (f s n i : ℕ) → f < n → i < (n - f - 1) / suc s + 1 → f + i * suc s < n
ups f s n i lt h = omega (arith, div-add-mod' (n - f - 1) (suc s), mul-le-mul_right {m = i} {n = (n - f - 1) / suc s} (suc s) (omega arith))

-- a step back stays at or above 0
pub downs : (f s i : ℕ) → i < f / suc s + 1 → i * suc s ≤ f
downs f s i h = omega (arith, div-add-mod' f (suc s), mul-le-mul_right {m = i} {n = f / suc s} (suc s) (omega arith))

-- going on by minus n is going back by n
reach_below : (at n i : ℕ) → reach at (below n) i ≡ at - n * i
reach_below at zero i = omega arith
reach_below at (suc n) i = refl

-- minus n leads back by n
dip_below : (n i : ℕ) → dip (below n) i ≡ n * i
dip_below zero i = omega arith
dip_below (suc n) i = refl

-- an index forward comes to the element it means
up_reach : (f s z b i : ℕ) → i < b → (reach (f * z) (stride_of (pos (suc s)) z b) i ≡ (f + i * suc s) * z) × (dip (stride_of (pos (suc s)) z b) i ≤ f * z)
up_reach f s z b i h = cond_both (nat_eq b 1) (pos 0) (pos (suc s * z)) (λ d. (reach (f * z) d i ≡ (f + i * suc s) * z) × (dip d i ≤ f * z))
    (λ t. let one : b ≡ 1 = grind (arith, nat_tests) in let e : i ≡ 0 = omega arith in (omega arith ∙ ap (λ x. (f + x * suc s) * z) (sym e), omega arith))
    (λ _. (omega arith, omega arith))

-- an index back comes to the element it means
down_reach : (f s z b i : ℕ) → i < b → i * suc s ≤ f → (reach (f * z) (stride_of (negsuc s) z b) i ≡ (f - i * suc s) * z)
    × (dip (stride_of (negsuc s) z b) i ≤ f * z)
down_reach f s z b i h le = cond_both (nat_eq b 1) (pos 0) (below (suc s * z)) (λ d. (reach (f * z) d i ≡ (f - i * suc s) * z) × (dip d i ≤ f * z))
    (λ t. let one : b ≡ 1 = grind (arith, nat_tests) in let e : i ≡ 0 = omega arith in (
      (let g : f ≡ f - 0 * suc s = omega arith in let k : f * z + 0 * i ≡ f * z = omega arith in
          k ∙ ap (λ x. x * z) g ∙ ap (λ x. (f - x * suc s) * z) (sym e)),
      omega arith,
    ))
    (λ _.
    let g : f ≡ (f - i * suc s) + i * suc s = omega arith in
    let m : f * z ≡ ((f - i * suc s) + i * suc s) * z = ap (λ x. x * z) g in
    (reach_below (f * z) (suc s * z) i ∙ omega (arith, m), omega (arith, dip_below (suc s * z) i, m)))

-- an index below the bound comes to the element it means, and leads back no further than the first one
element_reached : (p : PathStep) (n z i : ℕ) → Begins p n → i < (dim_from p n z).bound
    → (element_at p i < n) × (reach (first_bytes p z) (dim_from p n z).stride i ≡ element_at p i * z) × (dip (dim_from p n z).stride i ≤ first_bytes p z)
element_reached Each n z i h lt = (lt, omega arith, omega arith)
element_reached (EachFrom f (pos zero)) n z i h lt = absurd (h.1 refl)
element_reached (EachFrom f (pos (suc s))) n z i h lt =
    let r = up_reach f s z (bound_of f (pos (suc s)) n) i lt in (ups f s n i h.0 lt, r.0, r.1)
element_reached (EachFrom f (negsuc s)) n z i h lt =
    let r = down_reach f s z (bound_of f (negsuc s) n) i lt (downs f s i lt) in (omega (arith, h.0), r.0, r.1)
element_reached p n z i h lt = absurd h

-- at an index below the bound stands the element it means
pub lands : (p q : PathStep) (t : Tree) (n : ℕ) (u : Tree) (i : ℕ) → IsLead p t (Open q n u) → i < (dim_from q n (size_of u)).bound
    → IsPart (Element (element_at q i)) t (reach (first_bytes q (size_of u)) (dim_from q n (size_of u)).stride i) u
    × (dip (dim_from q n (size_of u)).stride i ≤ first_bytes q (size_of u))
lands p q t n u i h lt =
    let r = element_reached q n (size_of u) i h.2 lt in
    (subst (λ x. IsPart (Element (element_at q i)) t x u) (sym r.1) (row_part t n u (element_at q i) h.1 r.0), r.2)
