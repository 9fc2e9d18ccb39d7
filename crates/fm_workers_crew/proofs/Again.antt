-- How often crews come again.
use Rattle.std.proofs.Common.{◌≡◌, ◌≢◌, ℕ, ◌+◌, ◌≤◌, ◌==◌, Bool, true, false, if◌then◌else◌, List, [], ◌∷◌, length, refl, sym, ap, ◌∙◌, subst, arith, ⊎_elim, inl, inr, eq-eqb, ne_eqb}
use mathlib.Core.Logic.{dite}
use native.Mathlib.Decide.{ℕ_discrete}
use Rattle.fm_base.specs.{declared.caller.Caller.{Caller}, Finds.{Gathered}}
use Rattle.fm_rule_facts.{specs.{Hands.{last_term}, Views.{View, In, HasCaller, caller_of}}, proofs.Counting.{at_least}}
use Rattle.fm_workers_crew.specs.{Crew.{IsWhole, how_many_last, how_many_of}, Again.{CrewsComeAgain}}

-- The terms of those that were of a number.
abbrev terms_of : ℕ → List Gathered → List ℕ
terms_of n [] = []
terms_of n (g ∷ gs) = if g.caller.number == n then g.caller.term ∷ terms_of n gs else terms_of n gs

terms_long : (n : ℕ) (gs : List Gathered) → length (terms_of n gs) ≡ how_many_of n gs
terms_long n [] = refl
terms_long n (g ∷ gs) = go (g.caller.number == n) (terms_long n gs)
  where
    go : (b : Bool) → length (terms_of n gs) ≡ how_many_of n gs
        → length (if b then g.caller.term ∷ terms_of n gs else terms_of n gs) ≡ (if b then 1 else 0) + how_many_of n gs
    go true e = omega (arith, e)
    go false e = omega (arith, e)

in_terms : (n : ℕ) (g : Gathered) (gs : List Gathered) → In g gs → g.caller.number ≡ n → In g.caller.term (terms_of n gs)
in_terms n g [] i e = absurd i
in_terms n g (x ∷ gs) (inl q) e = subst (In g.caller.term)
    (ap (λ (b : Bool). if b then x.caller.term ∷ terms_of n gs else terms_of n gs)
    (sym (eq-eqb x.caller.number n (ap (λ (y : Gathered). y.caller.number) (sym q) ∙ e))))
    (inl (ap (λ (y : Gathered). y.caller.term) q))
in_terms n g (x ∷ gs) (inr i) e = go (x.caller.number == n) (in_terms n g gs i e)
  where
    go : (b : Bool) → In g.caller.term (terms_of n gs) → In g.caller.term (if b then x.caller.term ∷ terms_of n gs else terms_of n gs)
    go true j = inr j
    go false j = j

module _ (p : View) (w : IsWhole p) where
  -- Each caller that it has stands among the terms of its number.
  placed : (n : ℕ) (d : Caller) → HasCaller p d → d.number ≡ n → In d.term (p.caller.term ∷ terms_of n p.gathered)
  placed n d (inl e) q = inl (ap (λ (c : Caller). c.term) e)
  placed n d (inr g) q =
      inr (subst (λ (t : ℕ). In t (terms_of n p.gathered)) (ap (λ (c : Caller). c.term) g.2)
      (in_terms n g.0 p.gathered g.1 (ap (λ (c : Caller). c.number) g.2 ∙ q)))

  counted : (c : Caller) → HasCaller p c → c.term ≤ how_many_of c.number p.gathered
  counted c h =
      let all : List ℕ = p.caller.term ∷ terms_of c.number p.gathered in
      let most = at_least (c.term + 1) all (λ t low. dite (ℕ_discrete t c.term)
      (λ e. subst (λ (k : ℕ). In k all) (sym e) (placed c.number c h refl))
      (λ ne. placed c.number (caller_of c.number t) (w.sound.earlier w.whole c t h (omega (arith, low, ne))) refl)) in
      let long = terms_long c.number p.gathered in
      omega (arith, most, long)

-- Where none was of its number's last term, none is counted.
no_last : (gs : List Gathered) → ((g : Gathered) → In g gs → g.caller.term ≢ last_term) → how_many_last gs ≡ 0
no_last [] h = refl
no_last (g ∷ gs) h =
    let here = ap (λ (b : Bool). (if b then 1 else 0) + how_many_last gs) (ne_eqb g.caller.term last_term (h g (inl refl))) in
    let rest = no_last gs (λ x i. h x (inr i)) in
    omega (arith, here, rest)

-- No number has more callers than there are all together.
pub few_of_one : (n : ℕ) (gs : List Gathered) → how_many_of n gs ≤ length gs
few_of_one n [] = omega arith
few_of_one n (g ∷ gs) = go (g.caller.number == n) (few_of_one n gs)
  where
    go : (b : Bool) → how_many_of n gs ≤ length gs → (if b then 1 else 0) + how_many_of n gs ≤ length (g ∷ gs)
    go true rest = omega arith
    go false rest = omega arith

pub crews_come : CrewsComeAgain
crews_come = record {
  counted = λ p c w h. counted p w c h;
  back = λ p more w few room count. ⊎_elim
      (λ low.
      let none = no_last p.gathered (λ g i e.
      let a = counted p w g.caller (inr (g, i, refl)) in
      let b = few g.caller.number in
      omega (arith, a, b, e)) in
      omega (arith, low, none, room))
      (λ high. omega (arith, high, count));
}
