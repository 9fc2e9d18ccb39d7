-- Which arena a `Mono` is inside, as its fields say it.
use Rattle.std.proofs.Common.{◌≡◌, ℕ, zero, suc, Bool, true, false, List, [], ◌∷◌, set, refl, sym, ap, ◌∙◌, Option, Some, None, slice_get}
use Rattle.fm_base.specs.declared.arena_id.ArenaId.{ArenaId}
use Rattle.fm_mono.specs.{declared.{arena.MonoArena.{MonoArena}, mono.Mono.TheInside.{Inside}}, Shown.{name_at, inside_of}}

-- the arena that a `Mono` is inside
abbrev pub entered_of : Inside → Option ArenaId
entered_of f = inside_of f.is_inside f.current f.arenas.items

-- The name at a place is that of the arena there.
pub name_at_is : (k : ℕ) (os : List MonoArena) (o : MonoArena) → slice_get os k ≡ Some o → name_at k os ≡ o.id
name_at_is k [] o h = absurd (cc)
name_at_is zero (p ∷ os) o h = let e : p ≡ o = cc in ap (λ (x : MonoArena). x.id) e
name_at_is (suc k) (p ∷ os) o h = name_at_is k os o h

-- An arena that keeps its name keeps it at each place.
name_at_set : (k i : ℕ) (os : List MonoArena) (o o' : MonoArena) → slice_get os i ≡ Some o → o'.id ≡ o.id → name_at k (set os i o') ≡ name_at k os
name_at_set k i [] o o' h e = refl
name_at_set zero zero (p ∷ os) o o' h e = let s : p ≡ o = cc in e ∙ sym (ap (λ (x : MonoArena). x.id) s)
name_at_set zero (suc i) (p ∷ os) o o' h e = refl
name_at_set (suc k) zero (p ∷ os) o o' h e = refl
name_at_set (suc k) (suc i) (p ∷ os) o o' h e = name_at_set k i os o o' h e

-- An arena that keeps its name keeps who is inside.
pub inside_of-set : (b : Bool) (k i : ℕ) (os : List MonoArena) (o o' : MonoArena) → slice_get os i ≡ Some o → o'.id ≡ o.id
    → inside_of b k (set os i o') ≡ inside_of b k os
inside_of-set false k i os o o' h e = refl
inside_of-set true k i os o o' h e = ap Some (name_at_set k i os o o' h e)

-- Where nobody is inside, another arena changes nothing of it.
pub inside_of-none : (b : Bool) (k : ℕ) (os os' : List MonoArena) → inside_of b k os ≡ None → inside_of b k os' ≡ inside_of b k os
inside_of-none false k os os' h = refl
inside_of-none true k os os' h = absurd (cc)
