-- How many handles of an arena there are, by the functions.
use Rattle.std.proofs.{Common.{◌≡◌, ◌≢◌, ℕ, ◌+◌, ◌-◌, ◌<◌, ◌==◌, Bool, true, false, if◌then◌else◌, refl, ap, sym, ◌∙◌, arith}, lemmas.Bool.{eqb-true}}
use Rattle.std.specs.Prelude.{⊤}
use Rattle.fm_base.specs.{declared.{caller.Caller.{Caller}, arena_id.ArenaId.{ArenaId}}, Arenas.{Life, Alive, same_id}}
use Rattle.fm_base.specs.Calls.{Call, Open, Enter, Read, Write, SwapIf, Add, Allocate, Leave, Hold, Unhold, Shut, End, Lend, Back, Reply, Fine, Held, Found, Given}
use Rattle.fm_base.{specs.Machine.{hold_reply, shut_reply}, proofs.Names.{same_id-self}}
use Rattle.fm_base_machine.specs.Functions.{Stage, Fresh, Lives, Closes, Over, Machine, moved, put, put_at, life_of, reply_by, MayBy}
use Rattle.fm_base_machine.{specs.Handles.{one_if, one_alive, handles_of, taken_by, given_by}, proofs.Putting.{at_cases, same_id-not}}

-- ---- one call

-- what makes a call count as it says
abbrev pub Counts : Machine → Call → Reply → Type 0
Counts t (Open id) reply = t.life id ≡ Fresh
Counts t (Hold id) Fine = t.life id ≡ Lives
Counts t (Unhold id) reply = 0 < t.holds id
Counts t (Shut id) Fine = (t.life id ≡ Lives) × (t.holds id ≡ 0)
Counts t (End id) reply = t.life id ≡ Closes
Counts t call reply = ⊤

module _ (t : Machine) (a id : ArenaId) where
  abbrev one : ℕ
  one = one_if (same_id id a)

  is_one : a ≡ id → one ≡ 1
  is_one e = ap one_if ((λ j. same_id id (e j)) ∙ same_id-self id)

  is_none : a ≢ id → one ≡ 0
  is_none n = ap one_if (same_id-not id a (λ e. n (sym e)))

  opens : t.life id ≡ Fresh → t.holds a + one_alive (put_at t.life id Lives a) + 0 ≡ t.holds a + one_alive (t.life a) + one
  opens f = at_cases t.life id Lives a (λ (y : Stage). t.holds a + one_alive y + 0 ≡ t.holds a + one_alive (t.life a) + one)
      (λ e. let x = is_one e in let y : one_alive (t.life a) ≡ 0 = ap one_alive (ap t.life e ∙ f) in omega arith)
      (λ n. let x = is_none n in omega arith)

  shuts : t.life id ≡ Lives → t.holds a + one_alive (put_at t.life id Closes a) + one ≡ t.holds a + one_alive (t.life a) + 0
  shuts f = at_cases t.life id Closes a (λ (y : Stage). t.holds a + one_alive y + one ≡ t.holds a + one_alive (t.life a) + 0)
      (λ e. let x = is_one e in let y : one_alive (t.life a) ≡ 1 = ap one_alive (ap t.life e ∙ f) in omega arith)
      (λ n. let x = is_none n in omega arith)

  ends : t.life id ≡ Closes → t.holds a + one_alive (put_at t.life id Over a) + 0 ≡ t.holds a + one_alive (t.life a) + 0
  ends f = at_cases t.life id Over a (λ (y : Stage). t.holds a + one_alive y + 0 ≡ t.holds a + one_alive (t.life a) + 0)
      (λ e. let y : one_alive (t.life a) ≡ 0 = ap one_alive (ap t.life e ∙ f) in omega arith)
      (λ n. refl)

  holds : put_at t.holds id (t.holds id + 1) a + one_alive (t.life a) + 0 ≡ t.holds a + one_alive (t.life a) + one
  holds = at_cases t.holds id (t.holds id + 1) a (λ (y : ℕ). y + one_alive (t.life a) + 0 ≡ t.holds a + one_alive (t.life a) + one)
      (λ e. let x = is_one e in let y : t.holds a ≡ t.holds id = ap t.holds e in omega arith)
      (λ n. let x = is_none n in omega arith)

  unholds : 0 < t.holds id → put_at t.holds id (t.holds id - 1) a + one_alive (t.life a) + one ≡ t.holds a + one_alive (t.life a) + 0
  unholds l = at_cases t.holds id (t.holds id - 1) a (λ (y : ℕ). y + one_alive (t.life a) + one ≡ t.holds a + one_alive (t.life a) + 0)
      (λ e. let x = is_one e in let y : t.holds a ≡ t.holds id = ap t.holds e in omega arith)
      (λ n. let x = is_none n in omega arith)

-- what was taken and what was given back is what the functions have more and less
pub handled : (t : Machine) (c : Caller) (call : Call) (reply : Reply) → Counts t call reply → (a : ArenaId)
    → handles_of (moved t c call reply) a + given_by a call reply ≡ handles_of t a + taken_by a call reply
handled t c (Open id) reply m a = opens t a id m
handled t c (Enter id) Fine m a = refl
handled t c (Enter id) reply m a = refl
handled t c (Read id word) reply m a = refl
handled t c (Write id word value) reply m a = refl
handled t c (SwapIf id word old new) (Found found) m a = go (found == old)
  where
    go : (b : Bool) → handles_of (if b then record t { word = put_at t.word id (put (t.word id) word new) } else t) a + 0 ≡ handles_of t a + 0
    go true = refl
    go false = refl
handled t c (SwapIf id word old new) reply m a = refl
handled t c (Add id word n) (Found found) m a = refl
handled t c (Add id word n) reply m a = refl
handled t c (Allocate id size align) (Given place) m a = refl
handled t c (Allocate id size align) reply m a = refl
handled t c (Leave id) reply m a = refl
handled t c (Hold id) Fine m a = holds t a id
handled t c (Hold id) reply m a = refl
handled t c (Unhold id) reply m a = unholds t a id m
handled t c (Shut id) Fine m a = shuts t a id m.0
handled t c (Shut id) reply m a = refl
handled t c (End id) reply m a = ends t a id m
handled t c (Lend block id part) reply m a = refl
handled t c (Back block) reply m a = refl

-- only an arena that is alive has holds
abbrev pub OnlyAlive : Machine → Type 0
OnlyAlive t = (a : ArenaId) → t.life a ≢ Lives → t.holds a ≡ 0

-- a call that counts leaves it so
pub only_alive : (t : Machine) (c : Caller) (call : Call) (reply : Reply) → Counts t call reply → OnlyAlive t → OnlyAlive (moved t c call reply)
only_alive t c (Open id) reply m o a = at_cases t.life id Lives a (λ (y : Stage). y ≢ Lives → t.holds a ≡ 0) (λ e n. absurd (n refl)) (λ d n. o a n)
only_alive t c (Enter id) Fine m o a = o a
only_alive t c (Enter id) reply m o a = o a
only_alive t c (Read id word) reply m o a = o a
only_alive t c (Write id word value) reply m o a = o a
only_alive t c (SwapIf id word old new) (Found found) m o a = go (found == old)
  where
    go : (b : Bool) → let u : Machine = if b then record t { word = put_at t.word id (put (t.word id) word new) } else t in
        u.life a ≢ Lives → u.holds a ≡ 0
    go true = o a
    go false = o a
only_alive t c (SwapIf id word old new) reply m o a = o a
only_alive t c (Add id word n) (Found found) m o a = o a
only_alive t c (Add id word n) reply m o a = o a
only_alive t c (Allocate id size align) (Given place) m o a = o a
only_alive t c (Allocate id size align) reply m o a = o a
only_alive t c (Leave id) reply m o a = o a
only_alive t c (Hold id) Fine m o a = at_cases t.holds id (t.holds id + 1) a (λ (y : ℕ). t.life a ≢ Lives → y ≡ 0)
    (λ e n. absurd (n (ap t.life e ∙ m)))
    (λ d n. o a n)
only_alive t c (Hold id) reply m o a = o a
only_alive t c (Unhold id) reply m o a = at_cases t.holds id (t.holds id - 1) a (λ (y : ℕ). t.life a ≢ Lives → y ≡ 0)
    (λ e n. let z = o a n in let y : t.holds a ≡ t.holds id = ap t.holds e in omega arith)
    (λ d n. o a n)
only_alive t c (Shut id) Fine m o a = at_cases t.life id Closes a (λ (y : Stage). y ≢ Lives → t.holds a ≡ 0)
    (λ e n. ap t.holds e ∙ m.1)
    (λ d n. o a n)
only_alive t c (Shut id) reply m o a = o a
only_alive t c (End id) reply m o a = at_cases t.life id Over a (λ (y : Stage). y ≢ Lives → t.holds a ≡ 0)
    (λ e n. o a (λ l. let q : Closes ≡ Lives = sym m ∙ (ap t.life (sym e) ∙ l) in absurd (cc)))
    (λ d n. o a n)
only_alive t c (Lend block id part) reply m o a = o a
only_alive t c (Back block) reply m o a = o a

-- ---- which calls count

-- a hold that is taken is of an arena that is alive
pub hold_alive : (x : Life) (n : ℕ) → Fine ≡ hold_reply x n → x ≡ Alive
hold_alive Alive n e = refl
hold_alive x n e = absurd (cc)

-- and one that is shut is alive, and has no holds
pub shut_alive : (x : Life) (n : ℕ) → Fine ≡ shut_reply x n → (x ≡ Alive) × (n ≡ 0)
shut_alive Alive n e = (refl, eqb-true n 0 (go (n == 0) e))
  where
    go : (b : Bool) → Fine ≡ (if b then Fine else Held n) → b ≡ true
    go true e = refl
    go false e = absurd (cc)
shut_alive x n e = absurd (cc)

-- only what lives is answered as alive
lives : (x : Stage) → life_of x ≡ Alive → x ≡ Lives
lives Lives e = refl
lives x e = absurd (cc)

-- what the functions allow counts
pub counts_by : (limit : ℕ) (t : Machine) (c : Caller) (call : Call) (reply : Reply) → MayBy limit t c call → reply ≡ reply_by limit t call
    → Counts t call reply
counts_by limit t c (Open id) reply m r = m.0
counts_by limit t c (Enter id) reply m r = tt
counts_by limit t c (Read id word) reply m r = tt
counts_by limit t c (Write id word value) reply m r = tt
counts_by limit t c (SwapIf id word old new) reply m r = tt
counts_by limit t c (Add id word n) reply m r = tt
counts_by limit t c (Allocate id size align) reply m r = tt
counts_by limit t c (Leave id) reply m r = tt
counts_by limit t c (Hold id) Fine m r = lives (t.life id) (hold_alive (life_of (t.life id)) (t.holds id) r)
counts_by limit t c (Hold id) reply m r = tt
counts_by limit t c (Unhold id) reply m r = m.1
counts_by limit t c (Shut id) Fine m r = let y = shut_alive (life_of (t.life id)) (t.holds id) r in (lives (t.life id) y.0, y.1)
counts_by limit t c (Shut id) reply m r = tt
counts_by limit t c (End id) reply m r = m.0
counts_by limit t c (Lend block id part) reply m r = tt
counts_by limit t c (Back block) reply m r = tt
