-- When a pass that is known to be whole again found no number: each was its own, or of a caller that was gathered since, or had its last term.
use Rattle.std.proofs.Common.{◌≡◌, ◌≢◌, ◌⊎◌, ℕ, ◌+◌, ◌/◌, ◌<◌, ◌≤◌, ◌==◌, Bool, true, if◌then◌else◌, List, [], ◌∷◌, ◌++◌, length, sym, ap, ◌∙◌, subst, arith, inl, inr, ⊎_elim, eq-eqb}
use Rattle.std.proofs.lemmas.List.{length-append}
use mathlib.Core.Logic.{dite}
use native.Mathlib.Decide.{ℕ_discrete}
use Rattle.fm_words.specs.Places.{groups}
use Rattle.fm_base.specs.{declared.caller.Caller.{Caller}, Finds.{Find, Gathered, is_number, group_of}}
use Rattle.fm_rule_facts.specs.{Hands.{no_number, last_term, most_draws}, Views.{View, In, HasCaller, IsSound, prefix}}
use Rattle.fm_rule_facts.proofs.{Counting.{ranks, ranks_long, in_ranks, at_least}, Keeping.{in_append, in_left, in_right}, Looking.{prefix-append, prefix-all}}

-- those that were of their number's last term
abbrev pub of_last_term : List Gathered → List Gathered
of_last_term [] = []
of_last_term (g ∷ gs) = if g.caller.term == last_term then g ∷ of_last_term gs else of_last_term gs

in_last : (g : Gathered) (gs : List Gathered) → In g gs → g.caller.term ≡ last_term → In g (of_last_term gs)
in_last g [] i e = absurd i
in_last g (x ∷ gs) (inl q) e = subst (In g)
    (ap (λ (b : Bool). if b then x ∷ of_last_term gs else of_last_term gs) (sym (eq-eqb x.caller.term last_term (ap (λ (y : Gathered). y.caller.term) (sym q) ∙ e))))
    (inl q)
in_last g (x ∷ gs) (inr i) e = go (x.caller.term == last_term) (in_last g gs i e)
  where
    go : (b : Bool) → In g (of_last_term gs) → In g (if b then x ∷ of_last_term gs else of_last_term gs)
    go true j = inr j
    go _ j = j

-- in each group, the word 0 was found when so many had been gathered
abbrev pub FoundNone : View → ℕ → Type 0
FoundNone v many = (g : ℕ) → g < groups v.shape
    → (f : Find) × In f v.finds × (is_number f.step ≡ true) × (group_of f.step ≡ g) × (f.found ≡ 0) × (f.gathered ≡ many)

module _ (v : View) (s : IsSound v) (whole : v.whole ≡ true) (none : v.number ≡ no_number) (old crew : List Gathered) (is : v.gathered ≡ old ++ crew)
    (found : FoundNone v (length old)) where
  abbrev all : List Gathered
  all = of_last_term old ++ crew

  abbrev nums : List ℕ
  nums = v.caller.number ∷ ranks (λ c. c.number) all

  before : prefix (length old) v.gathered ≡ old
  before = ap (prefix (length old)) is ∙ (prefix-append (length old) old crew (omega arith) ∙ prefix-all old)

  has : ¬ (length v.gathered + 1 ≡ most_draws) → (n : ℕ) → n < v.shape.passes → In n nums
  has room n low =
      let few : n / 64 < groups v.shape = (let p : ℕ = v.shape.passes in let l : n < p = low in omega arith) in
      let y = found (n / 64) few in
      ⊎_elim (λ e. absurd (room e))
      (λ (x : (c : Caller) × HasCaller v c × (c.number ≡ n)
      × ((c.term ≡ last_term) ⊎ ((g : Gathered) → In g (prefix y.0.gathered v.gathered) → g.caller ≢ c))).
      let gone : (c : Caller) × HasCaller v c × (c.number ≡ n) × ((c.term ≡ last_term) ⊎ ((g : Gathered) → In g old → g.caller ≢ c)) = (
        x.0,
        x.1,
        x.2,
        ⊎_elim inl (λ (f : (g : Gathered) → In g (prefix y.0.gathered v.gathered) → g.caller ≢ x.0).
            inr (λ g i. f g (subst (In g) (sym (ap (λ (k : ℕ). prefix k v.gathered) y.5 ∙ before)) i))) x.3,
      ) in
      ⊎_elim
      (λ (e : gone.0 ≡ v.caller). inl (sym gone.2 ∙ ap (λ (c : Caller). c.number) e))
      (λ (h : (g : Gathered) × In g v.gathered × (g.caller ≡ gone.0)).
      let num : h.0.caller.number ≡ n = ap (λ (c : Caller). c.number) h.2 ∙ gone.2 in
      let put : In h.0 all → In n nums = (λ i. inr (subst (λ (k : ℕ). In k (ranks (λ c. c.number) all)) num (in_ranks (λ c. c.number) h.0 all i))) in
      ⊎_elim
      (λ (i : In h.0 old). ⊎_elim
      (λ (e : gone.0.term ≡ last_term). put (in_left h.0 (of_last_term old) crew (in_last h.0 old i (ap (λ (c : Caller). c.term) h.2 ∙ e))))
      (λ (f : (g : Gathered) → In g old → g.caller ≢ gone.0). absurd (f h.0 i h.2))
      gone.3)
      (λ (i : In h.0 crew). put (in_right h.0 (of_last_term old) crew i))
      (in_append h.0 old crew (subst (In h.0) is h.1)))
      gone.1)
      (s.numbers_gone whole none y.0 y.1 y.2 y.4 n (sym y.3) low)

  -- so there are too few passes: or no draw can be counted any more
  pub too_few : (length v.gathered + 1 ≡ most_draws) ⊎ (v.shape.passes ≤ 1 + (length (of_last_term old) + length crew))
  too_few = dite (ℕ_discrete (length v.gathered + 1) most_draws) inl (λ room.
      let a = at_least v.shape.passes nums (has room) in
      let b = ranks_long (λ c. c.number) all in
      let c = length-append (of_last_term old) crew in
      inr (omega arith))
