-- Why accesses are refused, from what they did.
use Rattle.std.proofs.Common.{◌≡◌, ℕ, ◌+◌, ◌%◌, ◌⊎◌, inl, inr, Bool, true, false, if◌then◌else◌, nat_eq, nat_le, Result, Ok, Err, List, refl, sym, subst, ◌∙◌, arith}
use Rattle.std.proofs.lemmas.Bool.{leb-true, leb-false, Decides.{nat_tests}}
use Rattle.fm_base.specs.declared.{caller.Caller.{Caller}, arena_id.ArenaId.{ArenaId}, refusal.Refusal.{Refusal}}
use Rattle.fm_base.specs.{declared.refusal.Refusal.TheVariants.{Bounds, Misaligned, ReadOnly, Unsupported, WrongThread, Closed}, Calls.{Entry}}
use Rattle.fm_base.specs.Does.{DoesEnter}
use Rattle.fm_segment_access.specs.{Found.{UseCause, WriteCause, SupportCause, IsWithin, IsEven, if_placed, PlaceCause}, Ranges.{DoesRefuse}}

-- the causes of an access to the arena at the place that was found, or refused before
pub record Causes (found : Result ℕ Refusal) (id : ArenaId) (c : Caller) (Cause : Refusal → Type 0) : Type 0 where
  pub before : (e : Refusal) → found ≡ Err e → Cause e
  pub there : (p : ℕ) → found ≡ Ok p → (e : Refusal) → UseCause id c e → Cause e

abbrev pub refused : Refusal → Result ℕ Refusal
refused e = Err e

-- A cause of a refusal, by what was answered.
pub err_is : (a b : Refusal) (Cause : Refusal → Type 0) → refused a ≡ refused b → Cause a → Cause b
err_is a b Cause h x = let same : a ≡ b = cc in subst Cause same x

-- An answer is no refusal.
pub never : {X : Type 0} (n : ℕ) (e : Refusal) → Ok n ≡ Err e → X
never n e h = absurd (let no : ⊥ = cc in no)

-- ---- a refused access has such a cause

-- A visit that was refused.
pub entering : (c : Caller) (id : ArenaId) (e : Refusal) (own : List Entry) → DoesEnter c id (Err e) own → UseCause id c e
entering c id WrongThread own d = d.0
entering c id Closed own d = d.0
entering c id e own d = absurd d

-- A run of visits that was refused.
pub going : (c : Caller) (id : ArenaId) (Stops : List Entry → Type 0) (e : Refusal) (own : List Entry) → DoesRefuse c id Stops e own → UseCause id c e
going c id Stops WrongThread own d = d.0
going c id Stops Closed own d = d.0
going c id Stops e own d = absurd d

-- ---- tests, one behind the other

-- a test before what was found: it passes, or its refusal is the answer
abbrev pub Tested : Type 0 → Type 0 → Result ℕ Refusal → Result ℕ Refusal → Refusal → Type 0
Tested Passed Failed tested found e = (Passed × (tested ≡ found)) ⊎ (Failed × (tested ≡ Err e))

pub if_tested : (b : Bool) (found : Result ℕ Refusal) (e : Refusal) → Tested (b ≡ true) (b ≡ false) (if b then found else Err e) found e
if_tested true found e = inl (refl, refl)
if_tested false found e = inr (refl, refl)

pub unless_tested : (b : Bool) (found : Result ℕ Refusal) (e : Refusal) → Tested (b ≡ false) (b ≡ true) (if b then Err e else found) found e
unless_tested true found e = inr (refl, refl)
unless_tested false found e = inl (refl, refl)

-- Where there is an answer, the test passed.
pub tested_ok : (Passed Failed : Type 0) (tested found : Result ℕ Refusal) (e : Refusal) (p : ℕ) → Tested Passed Failed tested found e → tested ≡ Ok p
    → Passed × (found ≡ Ok p)
tested_ok Passed Failed tested found e p t x = elim t [
  | inl here ↦ (here.0, sym here.1 ∙ x)
  | inr there ↦ never p e (sym x ∙ there.1)
]

-- The causes behind one test more.
pub tested_causes : (Passed Failed : Type 0) (tested found : Result ℕ Refusal) (first : Refusal) (id : ArenaId) (c : Caller) (Cause More : Refusal → Type 0)
    → Tested Passed Failed tested found first
    → Causes found id c Cause → (Failed → More first) → (Passed → (e : Refusal) → Cause e → More e) → Causes tested id c More
tested_causes Passed Failed tested found first id c Cause More t h fails passes = elim t [
  | inl here ↦ record {
    before = λ e x. passes here.0 e (h.before e (sym here.1 ∙ x));
    there = λ p x e u. passes here.0 e (h.there p (sym here.1 ∙ x) e u);
  }
  | inr there ↦ record {
    before = λ e x. err_is first e More (sym there.1 ∙ x) (fails there.0);
    there = λ p x e u. never p first (sym x ∙ there.1);
  }
]

-- The causes at a place.
pub place_causes : (at : ℕ) (id : ArenaId) (c : Caller) → Causes (Ok at) id c (UseCause id c)
place_causes at id c = record { before = λ e x. never at e x; there = λ p x e u. u }

-- ---- where bytes are placed

module _ (offset size align first room : ℕ) where
  within : nat_le (offset + size) room ≡ true → IsWithin offset size align first room
  within h = leb-true (offset + size) room h

  even : nat_eq ((first + offset) % align) 0 ≡ true → IsEven offset size align first room
  even h = grind (arith, nat_tests)

  odd : nat_eq ((first + offset) % align) 0 ≡ false → ¬ (IsEven offset size align first room)
  odd h = λ e. let yes : nat_eq ((first + offset) % align) 0 ≡ true = rw e refl in let no : ⊥ = cc in no

  -- A place that is found is within, and a multiple of the alignment.
  pub placed_ok : (found : Result ℕ Refusal) (p : ℕ) → if_placed offset size align first room found ≡ Ok p
      → IsWithin offset size align first room × IsEven offset size align first room × (found ≡ Ok p)
  placed_ok found p x =
      let fits = nat_le (offset + size) room in
      let aligned = nat_eq ((first + offset) % align) 0 in
      let inner = if aligned then found else Err Misaligned in
      let one = tested_ok (fits ≡ true) (fits ≡ false) (if fits then inner else Err Bounds) inner Bounds p (if_tested fits inner Bounds) x in
      let two = tested_ok (aligned ≡ true) (aligned ≡ false) inner found Misaligned p (if_tested aligned found Misaligned) one.1 in
      (within one.0, even two.0, two.1)

  lift : (id : ArenaId) (c : Caller) → nat_le (offset + size) room ≡ true → nat_eq ((first + offset) % align) 0 ≡ true → (e : Refusal) → UseCause id c e
      → PlaceCause offset size align first room id c e
  lift id c f a WrongThread x = (within f, even a, x)
  lift id c f a Closed x = (within f, even a, x)
  lift id c f a e x = absurd x

  -- The causes of an access to bytes that are placed.
  pub placed_causes : (found : Result ℕ Refusal) (id : ArenaId) (c : Caller) → Causes found id c (UseCause id c)
      → Causes (if_placed offset size align first room found) id c (PlaceCause offset size align first room id c)
  placed_causes found id c h =
      let fits = nat_le (offset + size) room in
      let aligned = nat_eq ((first + offset) % align) 0 in
      let inner = if aligned then found else Err Misaligned in
      let Cause = PlaceCause offset size align first room id c in
      let Given : Refusal → Type 0 = λ e. fits ≡ true → Cause e in
      let one : Causes inner id c Given =
      tested_causes (aligned ≡ true) (aligned ≡ false) inner found Misaligned id c (UseCause id c) Given (if_tested aligned found Misaligned) h (λ a f.
      (within f, odd a)) (λ a e x f. lift id c f a e x) in
      tested_causes (fits ≡ true) (fits ≡ false) (if fits then inner else Err Bounds) inner Bounds id c Given Cause (if_tested fits inner Bounds) one
      (λ f in_bounds. let past = leb-false (offset + size) room f in omega arith) (λ f e x. x f)

-- ---- tests that come before

write_lift : (read_only : Bool) (Cause : Refusal → Type 0) → (Cause ReadOnly → ⊥) → read_only ≡ false → (e : Refusal) → Cause e → WriteCause read_only Cause e
write_lift read_only Cause none w ReadOnly x = absurd (none x)
write_lift read_only Cause none w e x = (w, x)

-- The causes of a write.
pub write_causes : (read_only : Bool) (found : Result ℕ Refusal) (id : ArenaId) (c : Caller) (Cause : Refusal → Type 0) → (Cause ReadOnly → ⊥)
    → Causes found id c Cause
    → Causes (if read_only then Err ReadOnly else found) id c (WriteCause read_only Cause)
write_causes read_only found id c Cause none h =
    tested_causes (read_only ≡ false) (read_only ≡ true) (if read_only then Err ReadOnly else found) found ReadOnly id c Cause (WriteCause read_only Cause)
    (unless_tested read_only found ReadOnly) h (λ w. w) (write_lift read_only Cause none)

support_lift : (supported : Bool) (Cause : Refusal → Type 0) → (Cause Unsupported → ⊥) → supported ≡ true → (e : Refusal) → Cause e
    → SupportCause supported Cause e
support_lift supported Cause none w Unsupported x = absurd (none x)
support_lift supported Cause none w e x = (w, x)

-- The causes of a call that works on some values alone.
pub support_causes : (supported : Bool) (found : Result ℕ Refusal) (id : ArenaId) (c : Caller) (Cause : Refusal → Type 0) → (Cause Unsupported → ⊥)
    → Causes found id c Cause
    → Causes (if supported then found else Err Unsupported) id c (SupportCause supported Cause)
support_causes supported found id c Cause none h =
    tested_causes (supported ≡ true) (supported ≡ false) (if supported then found else Err Unsupported) found Unsupported id c Cause
    (SupportCause supported Cause)
    (if_tested supported found Unsupported) h (λ w. w) (support_lift supported Cause none)
