-- A view that has the first caller, and each caller that its finds drew, has all callers.
use Rattle.std.proofs.Common.{◌≡◌, ℕ, zero, suc, ◌+◌, ◌<◌, true, List, [], length, sym, ap, ◌∙◌, subst, arith, inl, inr}
use mathlib.Core.Option.{some, some-injective}
use mathlib.Core.Logic.{dite}
use native.Mathlib.Decide.{ℕ_discrete}
use lib.ListN.{get_elem?}
use Rattle.fm_words.specs.declared.shape.Shape.{Shape}
use Rattle.fm_base.specs.declared.caller.Caller.{Caller}
use Rattle.fm_rule_facts.{specs.{Views.{View, In, HasCaller, HasAllDrawn}, Facts.{WasDrawn, HasDraw, Somewhere, Owns, Rule}}, proofs.Founds.{find_within}}
use Rattle.fm_rule_facts.proofs.Callers.{all_now, counted_all}

module _ (z : Shape) (ws : List ℕ) (vs : List View) (r : Rule z ws vs) (me : ℕ) (v : View) (at : get_elem? vs me ≡ some v) (l : v.live ≡ true)
    (lone : v.met ≡ []) (all : HasAllDrawn v) where
  abbrev mine : Owns z r.history r.memory r.machine r.owners me v
  mine = (r.each me v at).owns l

  seat : (d : Caller) → HasCaller v d → r.owners.seat d ≡ me
  seat d (inl e) = ap r.owners.seat e ∙ mine.seated
  seat d (inr g) = ap r.owners.seat (sym g.2) ∙ (mine.gathered g.0 g.1).seated

  -- what a caller of the pass drew is in a find of the pass
  drew_here : (d c : Caller) → HasDraw d c v → HasCaller v c
  drew_here d c (inl h) =
      let f = h.2 in
      let w = find_within r.memory.draw r.owners.who r.owners.rank v (r.counted me v at) f.0 (inl f.1) in
      all.others f.0 c (inl f.1) (w.drew c f.2).0 f.2
  drew_here d c (inr h) =
      let f = h.3 in
      let j = subst (In h.0) (all_now z r.history r.memory r.machine r.owners me v lone mine) h.1 in
      let w = find_within r.memory.draw r.owners.who r.owners.rank v (r.counted me v at) f.0 (inr (h.0, j, f.1)) in
      all.others f.0 c (inr (h.0, j, f.1)) (w.drew c f.2).0 f.2

  drew_by : (d c : Caller) → HasCaller v d → Somewhere vs (r.owners.seat d) (HasDraw d c) → HasCaller v c
  drew_by d c has s =
      let same : s.view ≡ v = some-injective s.view v (sym s.there ∙ (ap (get_elem? vs) (seat d has) ∙ at)) in
      drew_here d c (subst (HasDraw d c) same s.holds)

  -- each caller was drawn by one that was drawn earlier
  has_below : (k n : ℕ) → n < k → n < r.memory.draw → HasCaller v (r.owners.who n)
  has_below zero n a b = absurd (omega arith)
  has_below (suc k) n a b = dite (ℕ_discrete n 0)
      (λ e. subst (HasCaller v) (sym (ap r.owners.who e ∙ r.first)) all.first)
      (λ ne.
      let y = r.drawers n (omega arith) b in
      let lt = y.1 in
      drew_by (r.owners.who y.0) (r.owners.who n) (has_below k y.0 (omega arith) (omega arith)) y.2)

  has_all : (c : Caller) → WasDrawn r.memory.draw r.owners.who r.owners.rank c → HasCaller v c
  has_all c d = subst (HasCaller v) d.1 (has_below (suc (r.owners.rank c)) (r.owners.rank c) (omega arith) d.0)

  -- so it has as many as were drawn
  pub complete_counted : r.memory.draw ≡ length v.gathered + 1
  complete_counted = counted_all z r.history r.memory r.machine r.owners me v lone mine r.ranks has_all
