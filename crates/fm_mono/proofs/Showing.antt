-- The arenas that contracts see, looked up and changed.
use Rattle.std.proofs.Common.{◌≡◌, ℕ, zero, suc, ◌+◌, ◌<◌, Bool, true, false, if◌then◌else◌, List, [], ◌∷◌, set, refl, ap, ◌∙◌, arith, Option, Some, None, slice_get}
use Rattle.fm_base.specs.{declared.arena_id.ArenaId.{ArenaId}, Arenas.{owner_of, only_caller, State, Arena, arena_of, has_arena, changed, same_id}}
use Rattle.fm_base.{specs.Machine.{entered, left}, proofs.Names.{same_id-self, same_id-slot, same_id-true}}
use Rattle.fm_mono.specs.{declared.arena.MonoArena.{MonoArena}, Shown.{shown, shown_all, CountFrom}}

-- the name of the arena at a place
pub slot_at : (n k : ℕ) (os : List MonoArena) (o : MonoArena) → CountFrom n os → slice_get os k ≡ Some o → (o.id.slot ≡ n + k) × (owner_of o.id ≡ only_caller)
slot_at n k [] o c h = absurd (cc)
slot_at n zero (p ∷ os) o c h = let e : p ≡ o = cc in rw (← e) (omega (arith, c.0), c.1)
slot_at n (suc k) (p ∷ os) o c h = let r = slot_at (n + 1) k os o c.2 h in (omega (arith, r.0), r.1)

-- another name than that of the first
other_slot : (n k : ℕ) (p : MonoArena) (os : List MonoArena) (o : MonoArena) → CountFrom n (p ∷ os) → slice_get os k ≡ Some o → same_id p.id o.id ≡ false
other_slot n k p os o c h = let r = slot_at (n + 1) k os o c.2 h in same_id-slot p.id o.id (let a = r.0 in let b = c.0 in omega arith)

-- the arena at a place is looked up as it is shown, and is there
pub found_shown : (limit : ℕ) (i : Option ArenaId) (n k : ℕ) (os : List MonoArena) (o : MonoArena) → CountFrom n os → slice_get os k ≡ Some o
    → (arena_of (shown_all limit i os) o.id ≡ shown limit i o) × (has_arena (shown_all limit i os) o.id ≡ true)
found_shown limit i n k [] o c h = absurd (cc)
found_shown limit i n zero (p ∷ os) o c h =
    let e : p ≡ o = cc in
    rw e (
      ap (λ b. if b then shown limit i o else arena_of (shown_all limit i os) o.id) (same_id-self o.id),
      ap (λ b. if b then true else has_arena (shown_all limit i os) o.id) (same_id-self o.id),
    )
found_shown limit i n (suc k) (p ∷ os) o c h =
    let other = other_slot n k p os o c h in
    let r = found_shown limit i (n + 1) k os o c.2 h in (
      ap (λ b. if b then shown limit i p else arena_of (shown_all limit i os) o.id) other ∙ r.0,
      ap (λ b. if b then true else has_arena (shown_all limit i os) o.id) other ∙ r.1,
    )

-- an arena that is there has its place
pub place_of : (limit : ℕ) (i : Option ArenaId) (n : ℕ) (os : List MonoArena) (a : ArenaId) → CountFrom n os → has_arena (shown_all limit i os) a ≡ true
    → (k : ℕ) × (o : MonoArena) × (a.slot ≡ n + k) × (slice_get os k ≡ Some o) × (o.id ≡ a)
place_of limit i n [] a c h = absurd (cc)
place_of limit i n (p ∷ os) a c h =
    let Goal : Type 0 = (k : ℕ) × (o : MonoArena) × (a.slot ≡ n + k) × (slice_get (p ∷ os) k ≡ Some o) × (o.id ≡ a) in
    let P : Bool → Type 0 = λ b. same_id p.id a ≡ b → (if b then true else has_arena (shown_all limit i os) a) ≡ true → Goal in
    let go : (b : Bool) → P b = λ b. elim b as P [
      | true ↦ (λ e _. let s = same_id-true p.id a e in (zero, p, (let q = ap (λ (x : ArenaId). x.slot) s in let w = c.0 in omega arith), refl, s))
      | false ↦ (λ e w. let r = place_of limit i (n + 1) os a c.2 w in (suc r.0, r.1, (let q = r.2 in omega arith), r.3, r.4))
    ] in
    go (same_id p.id a) refl h

-- a change of the arena at a place
pub change_shown : (limit : ℕ) (i : Option ArenaId) (f : Arena → Arena) (n k : ℕ) (os : List MonoArena) (o o' : MonoArena) → CountFrom n os
    → slice_get os k ≡ Some o
    → shown limit i o' ≡ f (shown limit i o) → shown_all limit i (set os k o') ≡ changed (shown_all limit i os) o.id f
change_shown limit i f n k [] o o' c h e = absurd (cc)
change_shown limit i f n zero (p ∷ os) o o' c h e =
    let s : p ≡ o = cc in
    rw s (rw (same_id-self o.id) (ap (λ (a : Arena). a ∷ shown_all limit i os) e))
change_shown limit i f n (suc k) (p ∷ os) o o' c h e =
    rw (other_slot n k p os o c h) (ap (λ (s : State). shown limit i p ∷ s) (change_shown limit i f (n + 1) k os o o' c.2 h e))

-- the names stay
pub CountFrom-set : (n k : ℕ) (os : List MonoArena) (o o' : MonoArena) → CountFrom n os → slice_get os k ≡ Some o → o'.id ≡ o.id → CountFrom n (set os k o')
CountFrom-set n k [] o o' c h e = tt
CountFrom-set n zero (p ∷ os) o o' c h e = let s : p ≡ o = cc in (rw (e, ← s) c.0, rw (e, ← s) c.1, c.2)
CountFrom-set n (suc k) (p ∷ os) o o' c h e = (c.0, c.1, CountFrom-set (n + 1) k os o o' c.2 h e)

-- nobody is inside
pub nobody : (limit : ℕ) (os : List MonoArena) (a : ArenaId) → (arena_of (shown_all limit None os) a).under_way ≡ []
nobody limit [] a = refl
nobody limit (p ∷ os) a =
    elim (same_id p.id a) as (λ b. (if b then shown limit None p else arena_of (shown_all limit None os) a).under_way ≡ []) [
      | true ↦ refl
      | false ↦ nobody limit os a
    ]

-- those behind are not the arena that is entered
behind : (limit : ℕ) (n : ℕ) (os : List MonoArena) (a : ArenaId) → CountFrom n os → a.slot < n → shown_all limit (Some a) os ≡ shown_all limit None os
behind limit n [] a c h = refl
behind limit n (p ∷ os) a c h =
    let e : same_id p.id a ≡ false = same_id-slot p.id a (let w = c.0 in omega arith) in
    rw (e, behind limit (n + 1) os a c.2 (omega arith)) refl

pub enter_shown : (limit : ℕ) (n k : ℕ) (os : List MonoArena) (o : MonoArena) → CountFrom n os → slice_get os k ≡ Some o → o.is_alive ≡ true
    → shown_all limit (Some o.id) os ≡ changed (shown_all limit None os) o.id (entered only_caller)
enter_shown limit n k [] o c h l = absurd (cc)
enter_shown limit n zero (p ∷ os) o c h l =
    let s : p ≡ o = cc in
    rw s (rw (same_id-self o.id, l, behind limit (n + 1) os o.id c.2 (let w = c.0 in let q = ap (λ (x : MonoArena). x.id.slot) s in omega arith)) refl)
enter_shown limit n (suc k) (p ∷ os) o c h l =
    rw (other_slot n k p os o c h) (ap (λ (s : State). shown limit None p ∷ s) (enter_shown limit (n + 1) k os o c.2 h l))

pub leave_shown : (limit : ℕ) (n k : ℕ) (os : List MonoArena) (o : MonoArena) → CountFrom n os → slice_get os k ≡ Some o
    → shown_all limit None os ≡ changed (shown_all limit (Some o.id) os) o.id (left only_caller)
leave_shown limit n k [] o c h = absurd (cc)
leave_shown limit n zero (p ∷ os) o c h =
    let s : p ≡ o = cc in
    rw s (rw (same_id-self o.id, behind limit (n + 1) os o.id c.2 (let w = c.0 in let q = ap (λ (x : MonoArena). x.id.slot) s in omega arith)) refl)
leave_shown limit n (suc k) (p ∷ os) o c h =
    rw (other_slot n k p os o c h) (ap (λ (s : State). shown limit None p ∷ s) (leave_shown limit (n + 1) k os o c.2 h))
