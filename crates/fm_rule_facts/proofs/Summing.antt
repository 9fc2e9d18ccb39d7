-- Sums over views, and how many holds a pass has after it took or dropped one.
use Rattle.std.proofs.Common.{◌≡◌, ℕ, zero, suc, ◌+◌, ◌-◌, ◌<◌, ◌≤◌, inl, inr, Bool, true, false, if◌then◌else◌, List, [], ◌∷◌, ◌++◌, set, sym, refl, ap, ◌∙◌, arith}
use mathlib.Core.Logic.{dite}
use mathlib.Core.Option.{some, some-injective, some-ne-none}
use lib.ListN.{get_elem?}
use Rattle.fm_base.{specs.{declared.arena_id.ArenaId.{ArenaId}, Arenas.{same_id}}, proofs.Names.{same_id-true, same_id-self}}
use Rattle.fm_base_machine.{specs.Functions.{put_at}, proofs.Putting.{at_cases, one_arena, same_id-not}}
use Rattle.fm_rule_facts.specs.{Views.{View, In}, Holds.{released, one_if, how_many, total}}

-- ---- sums

pub total-set : (f : View → ℕ) (vs : List View) (i : ℕ) (v w : View) → get_elem? vs i ≡ some v → total f (set vs i w) + f v ≡ total f vs + f w
total-set f [] i v w e = absurd (some-ne-none v (sym e))
total-set f (x ∷ xs) zero v w e = let q : f x ≡ f v = ap f (some-injective x v e) in omega arith
total-set f (x ∷ xs) (suc i) v w e = let ih = total-set f xs i v w e in omega arith

pub total-snoc : (f : View → ℕ) (vs : List View) (w : View) → total f (vs ++ w ∷ []) ≡ total f vs + f w
total-snoc f [] w = omega arith
total-snoc f (x ∷ xs) w = let ih = total-snoc f xs w in omega arith

-- what one view has is no more than the sum
pub total-has : (f : View → ℕ) (vs : List View) (i : ℕ) (v : View) → get_elem? vs i ≡ some v → f v ≤ total f vs
total-has f [] i v e = absurd (some-ne-none v (sym e))
total-has f (x ∷ xs) zero v e = let q : f x ≡ f v = ap f (some-injective x v e) in omega arith
total-has f (x ∷ xs) (suc i) v e = let ih = total-has f xs i v e in omega arith

-- ---- holds

-- one hold more
pub one_more_hold : (a b : ArenaId) (hs : List ArenaId) (f : ArenaId → ℕ) → how_many b (a ∷ hs) + f b ≡ how_many b hs + put_at f a (f a + 1) b
one_more_hold a b hs f = at_cases f a (f a + 1) b (λ (x : ℕ). how_many b (a ∷ hs) + f b ≡ how_many b hs + x)
    (λ e.
    let q : same_id a b ≡ true = (λ j. same_id a (e j)) ∙ same_id-self a in
    let c : one_if (same_id a b) ≡ 1 = ap one_if q in
    let g : f b ≡ f a = ap f e in
    omega arith)
    (λ ne. let c : one_if (same_id a b) ≡ 0 = ap one_if (same_id-not a b (λ e. ne (sym e))) in omega arith)

-- a pass with a hold has one at least
pub some_hold : (a : ArenaId) (hs : List ArenaId) → In a hs → 0 < how_many a hs
some_hold a [] i = absurd i
some_hold a (b ∷ bs) (inl e) =
    let c : one_if (same_id b a) ≡ 1 = ap one_if ((λ j. same_id (sym e j) a) ∙ same_id-self a) in omega arith
some_hold a (b ∷ bs) (inr i) = let ih = some_hold a bs i in omega arith

-- Names are one in either order.
pub swapped : (a b : ArenaId) → one_if (same_id a b) ≡ one_if (same_id b a)
swapped a b = dite (one_arena a b)
    (λ e. (λ k. one_if (same_id (e k) (sym e k))))
    (λ ne. ap one_if (same_id-not a b ne) ∙ sym (ap one_if (same_id-not b a (λ e. ne (sym e)))))

-- without one of them
pub one_less : (a b : ArenaId) (hs : List ArenaId) → In a hs → how_many b hs ≡ how_many b (released a hs) + one_if (same_id b a)
one_less a b [] i = absurd i
one_less a b (c ∷ cs) i = go (same_id c a) refl i (one_less a b cs)
  where
    go : (x : Bool) → same_id c a ≡ x → In a (c ∷ cs) → (In a cs → how_many b cs ≡ how_many b (released a cs) + one_if (same_id b a))
        → one_if (same_id c b) + how_many b cs ≡ how_many b (if x then cs else c ∷ released a cs) + one_if (same_id b a)
    go true e j ih =
        let q : c ≡ a = same_id-true c a e in
        let p : one_if (same_id c b) ≡ one_if (same_id b a) = (λ k. one_if (same_id (q k) b)) ∙ swapped a b in
        omega arith
    go false e (inl q) ih = absurd (let t : same_id c a ≡ true = (λ k. same_id (sym q k) a) ∙ same_id-self a in cc)
    go false e (inr j) ih = let h = ih j in omega arith

-- one hold less
pub one_hold_less : (a b : ArenaId) (hs : List ArenaId) (f : ArenaId → ℕ) → In a hs → 0 < f a
    → how_many b (released a hs) + f b ≡ how_many b hs + put_at f a (f a - 1) b
one_hold_less a b hs f i held = at_cases f a (f a - 1) b (λ (x : ℕ). how_many b (released a hs) + f b ≡ how_many b hs + x)
    (λ e.
    let c : one_if (same_id b a) ≡ 1 = ap one_if ((λ j. same_id (e j) a) ∙ same_id-self a) in
    let l = one_less a b hs i in
    let g : f b ≡ f a = ap f e in
    omega arith)
    (λ ne.
    let c : one_if (same_id b a) ≡ 0 = ap one_if (same_id-not b a ne) in
    let l = one_less a b hs i in
    omega arith)
