-- Whom a pass has that another was gathered into.
use Rattle.std.proofs.{Common.{◌≡◌, ℕ, List, ◌∷◌, ◌++◌, sym, refl, ap, ◌∙◌, subst, inl, inr, ⊎_elim}, lemmas.List.{append-nil}}
use Rattle.fm_words.specs.declared.shape.Shape.{Shape}
use Rattle.fm_base.specs.{Calls.{Entry}, Finds.{Gathered}, declared.caller.Caller.{Caller}}
use Rattle.fm_base_machine.specs.Functions.{Machine}
use Rattle.fm_rule_facts.specs.{Views.{Met, View, In, all_gathered, brought}, Splits.{gather, as_gathered, IsAtRest}}
use Rattle.fm_rule_facts.specs.Hands.{no_number, number_drawn, HasNumberIn}
use Rattle.fm_rule_facts.specs.Facts.{Owners, KeepsCaller, KeepsNumber, HasDraw, Owns, Berth, loose, claimed, mapped, unmapped, IsWiped, HasSwept, HasPage, PoolWords}
use Rattle.fm_rule_facts.proofs.Keeping.{in_left, in_right, in_append}

module _ (v w : View) (rests : IsAtRest w) where
  abbrev both : View
  both = gather v w

  -- whom the other brings
  abbrev comes : List Gathered
  comes = as_gathered w ∷ w.gathered

  -- who is at rest has met nobody
  pub all_w : all_gathered w ≡ w.gathered
  all_w = ap (λ (x : List Met). w.gathered ++ brought x) rests.met ∙ append-nil w.gathered

  -- all that the two had
  pub in_both : (g : Gathered) → In g (all_gathered v) → In g (all_gathered both)
  in_both g i = ⊎_elim
      (λ (j : In g v.gathered). in_left g v.gathered (comes ++ brought v.met) j)
      (λ (j : In g (brought v.met)). in_right g v.gathered (comes ++ brought v.met) (in_right g comes (brought v.met) j))
      (in_append g v.gathered (brought v.met) i)

  pub comes_both : (g : Gathered) → In g comes → In g (all_gathered both)
  comes_both g i = in_right g v.gathered (comes ++ brought v.met) (in_left g comes (brought v.met) i)

  pub caller_comes : (c : Caller) → KeepsCaller c w → KeepsCaller c both
  caller_comes c (inl h) = inr (inr (as_gathered w, comes_both (as_gathered w) (inl refl), h.1))
  caller_comes c (inr (inl h)) = absurd (let q : no_number ≡ number_drawn c = sym rests.number ∙ h in cc)
  caller_comes c (inr (inr h)) = inr (inr (h.0, comes_both h.0 (inr (subst (In h.0) all_w h.1)), h.2))

  pub draw_on : (d n : Caller) → HasDraw d n v → HasDraw d n both
  draw_on d n (inl h) = inl h
  draw_on d n (inr h) = inr (h.0, in_both h.0 h.1, h.2, h.3)

  pub draw_comes : (d n : Caller) → HasDraw d n w → HasDraw d n both
  draw_comes d n (inl h) = inr (as_gathered w, comes_both (as_gathered w) (inl refl), h.1, h.2)
  draw_comes d n (inr h) = inr (h.0, comes_both h.0 (inr (subst (In h.0) all_w h.1)), h.2, h.3)

  -- the pass itself has no number in its hand
  module _ (free : v.number ≡ no_number) where
    pub caller_on : (c : Caller) → KeepsCaller c v → KeepsCaller c both
    caller_on c (inl h) = inl h
    caller_on c (inr (inl h)) = absurd (let q : no_number ≡ number_drawn c = sym free ∙ h in cc)
    caller_on c (inr (inr h)) = inr (inr (h.0, in_both h.0 h.1, h.2))

    pub number_on : (n : ℕ) → KeepsNumber n v → KeepsNumber n both
    number_on n h = (h.0, ⊎_elim inl (λ (i : HasNumberIn n v.number). absurd (subst (HasNumberIn n) free i)) h.1)

  module _ (z : Shape) (h : List Entry) (m : PoolWords) (t : Machine) (o : Owners) (j : ℕ) (k : Owns z h m t o j w) where
    -- a pass that can be gathered has no page
    pub no_page : (q : ℕ) (b : Berth) → ¬ (HasPage q b w)
    no_page q loose h = h
    no_page q (claimed s) h = subst (In q) rests.pages h.1
    no_page q (mapped k i) h = h
    no_page q (unmapped s a i) h =
        let y : IsWiped z m.maps m.cells o.berth j w.sweeps a i q h.1.0 =
        subst (HasSwept z m.maps m.cells o.berth j w.sweeps) h.1.1 k.work.pages.sweep in
        subst (In y.next.sweep) rests.sweeps y.next.there
