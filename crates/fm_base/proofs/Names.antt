-- When two names of arenas are one.
use Rattle.std.proofs.{Common.{◌≡◌, ◌≢◌, ℕ, ◌==◌, Bool, true, false, refl, subst, arith}, lemmas.Bool.Decides.{nat_tests}}
use Rattle.fm_base.specs.declared.{caller.Caller.{Caller}, arena_id.ArenaId.{ArenaId}, kind.Kind.{Kind, TheVariants.{Global, Automatic, Confined, Shared}}}
use Rattle.fm_base.specs.Arenas.{same_id, kind_number, are_one}

eqb_same : (n : ℕ) → (n == n) ≡ true
eqb_same n = grind (arith, nat_tests)

-- a test that isn't passed fails
pub not_true : (b : Bool) → ¬ (b ≡ true) → b ≡ false
not_true true n = absurd (n refl)
not_true false n = refl

-- a caller is the same as itself
pub are_one-self : (c : Caller) → are_one c c ≡ true
are_one-self c = rw (eqb_same c.number, eqb_same c.term) refl

-- callers that are equal pass the test
pub are_one-equal : (c d : Caller) → c ≡ d → are_one c d ≡ true
are_one-equal c d e = subst (λ (x : Caller). are_one c x ≡ true) e (are_one-self c)

-- callers that pass the test are equal
pub are_one-true : (c d : Caller) → are_one c d ≡ true → c ≡ d
are_one-true c d h =
    let n : c.number ≡ d.number = grind (arith, nat_tests) in
    let t : c.term ≡ d.term = grind (arith, nat_tests) in
    let made : ℕ → ℕ → Caller = λ x y. record { number = x; term = y } in
    let e : made c.number c.term ≡ made d.number d.term = rw (n, t) refl in
    e

-- callers that differ don't pass the test
pub are_one-not : (c d : Caller) → c ≢ d → are_one c d ≡ false
are_one-not c d h = not_true (are_one c d) (λ e. h (are_one-true c d e))

-- callers that don't pass the test differ
pub are_one-false : (c d : Caller) → are_one c d ≡ false → c ≢ d
are_one-false c d h e = let s : are_one c d ≡ true = rw e (are_one-self d) in absurd (cc)

-- a name is the same as itself
pub same_id-self : (a : ArenaId) → same_id a a ≡ true
unfolding same_id
same_id-self a = rw (eqb_same a.slot, eqb_same a.generation, eqb_same a.owner, eqb_same a.term, eqb_same (kind_number a.kind)) refl

-- names of two slots are two names
pub same_id-slot : (a b : ArenaId) → a.slot ≢ b.slot → same_id a b ≡ false
unfolding same_id
same_id-slot a b h = let e : (a.slot == b.slot) ≡ false = grind (arith, nat_tests) in rw e refl

-- a kind is told by its number
pub kind_same : (j k : Kind) → kind_number j ≡ kind_number k → j ≡ k
kind_same Global Global e = refl
kind_same Automatic Automatic e = refl
kind_same Confined Confined e = refl
kind_same Shared Shared e = refl
kind_same j k e = absurd (cc)

-- names that pass the test are equal
pub same_id-true : (a b : ArenaId) → same_id a b ≡ true → a ≡ b
unfolding same_id
same_id-true a b h =
    let s : a.slot ≡ b.slot = grind (arith, nat_tests) in
    let g : a.generation ≡ b.generation = grind (arith, nat_tests) in
    let o : a.owner ≡ b.owner = grind (arith, nat_tests) in
    let t : a.term ≡ b.term = grind (arith, nat_tests) in
    let n : kind_number a.kind ≡ kind_number b.kind = grind (arith, nat_tests) in
    let made : ℕ → ℕ → Kind → ℕ → ℕ → ArenaId = λ v w x y z. record { slot = v; generation = w; kind = x; owner = y; term = z } in
    let e : made a.slot a.generation a.kind a.owner a.term ≡ made b.slot b.generation b.kind b.owner b.term = rw (s, g, o, t, kind_same a.kind b.kind n) refl in
    e
