-- Arenas that are counted in a list of holds.
use Rattle.std.proofs.Common.{◌≡◌, ◌≢◌, ◌+◌, ◌<◌, Bool, true, false, if◌then◌else◌, List, [], ◌∷◌, sym, refl, ◌∙◌, arith, inl, inr}
use Rattle.fm_base.{specs.{declared.arena_id.ArenaId.{ArenaId}, Arenas.{same_id}}, proofs.Names.{same_id-true}}
use Rattle.fm_rule_facts.specs.{Views.{In}, Holds.{released, one_if, how_many}}

-- An arena that is counted in a list is there.
pub some_in : (a : ArenaId) (hs : List ArenaId) → 0 < how_many a hs → In a hs
some_in a [] h = absurd (omega arith)
some_in a (b ∷ bs) h = go (same_id b a) refl h (some_in a bs)
  where
    go : (x : Bool) → same_id b a ≡ x → 0 < one_if x + how_many a bs → (0 < how_many a bs → In a bs) → In a (b ∷ bs)
    go true e h rest = inl (sym (same_id-true b a e))
    go false e h rest = inr (rest (let n : one_if false ≡ 0 = refl in omega arith))

-- Another arena than the one that is left out is still there.
pub in_released : (a b : ArenaId) (hs : List ArenaId) → b ≢ a → In b hs → In b (released a hs)
in_released a b [] n i = absurd i
in_released a b (c ∷ cs) n i = go (same_id c a) refl i (in_released a b cs n)
  where
    go : (x : Bool) → same_id c a ≡ x → In b (c ∷ cs) → (In b cs → In b (released a cs)) → In b (if x then cs else c ∷ released a cs)
    go true e (inl q) rest = absurd (n (q ∙ same_id-true c a e))
    go true e (inr j) rest = j
    go false e (inl q) rest = inl q
    go false e (inr j) rest = inr (rest j)
