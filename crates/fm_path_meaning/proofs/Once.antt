-- At steps there stands one layout.
use Rattle.std.proofs.Common.{◌≡◌, sym, subst, ℕ, List, [], ◌∷◌, arith, ◌∙◌}
use Rattle.fm_layout.specs.Tree.{Tree}
use Rattle.fm_base_lists.specs.Among.{IsAmong}
use Rattle.fm_path_meaning.{specs.Places.{Step, Place, places, IsAt}, proofs.{Inside.{part_once}, Listed.{at_steps, stands}}}

-- Steps lead to one layout.
pub at_once : (ss : List Step) (t : Tree) (a b : ℕ) (u v : Tree) → IsAt ss t a u → IsAt ss t b v → (a ≡ b) × (u ≡ v)
at_once [] t a b u v h k = (h.0 ∙ sym k.0, h.1 ∙ sym k.1)
at_once (s ∷ ss) t a b u v h k =
    let e = part_once s t h.0 k.0 h.2 k.2 h.3 k.3 in
    let r = at_once ss h.2 h.1 k.1 u v h.4 (subst (λ c. IsAt ss c k.1 v) (sym e.1) k.4) in
    (omega (arith, h.5, k.5, e.0, r.0), r.1)

-- Places of equal parts are equal.
same_place : (ss rs : List Step) (a b : ℕ) (u v : Tree) → ss ≡ rs → a ≡ b → u ≡ v → at_steps ss a u ≡ at_steps rs b v
same_place ss rs a b u v e f g = cc

-- Two listed places with the same steps are one.
pub place_once : (t : Tree) (p q : Place) → IsAmong p (places t) → IsAmong q (places t) → p.steps ≡ q.steps → p ≡ q
place_once t p q h k e =
    let r = at_once q.steps t p.offset q.offset p.layout q.layout (subst (λ ss. IsAt ss t p.offset p.layout) e (stands t p h)) (stands t q k) in
    same_place p.steps q.steps p.offset q.offset p.layout q.layout e r.0 r.1
