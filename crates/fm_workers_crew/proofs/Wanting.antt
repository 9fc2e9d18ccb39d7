-- Where a draw of a crew found no number, its tasks are too many for a pass that was known to be whole.
use Rattle.std.proofs.Common.{◌≡◌, ℕ, ◌+◌, ◌<◌, ◌≤◌, ◌==◌, Bool, true, false, if◌then◌else◌, List, [], ◌∷◌, ◌++◌, length, length-append, refl, sym, ap, ◌∙◌, subst, arith, ⊎_elim, inl, inr}
use Rattle.fm_words.specs.{declared.shape.Shape.{Shape}, Places.{groups}}
use Rattle.fm_base.specs.Finds.{Find, Gathered, is_draw}
use Rattle.fm_rule_facts.{specs.{Hands.{no_number, last_term, most_draws}, Views.{View, In, IsSound}}, proofs.Keeping.{in_left, in_right}}
use Rattle.fm_rule_facts.proofs.Wanting.{of_last_term, too_few}
use Rattle.fm_rule.specs.Draws.{FoundZero}
use Rattle.fm_workers_crew.specs.Crew.{AreTooMany, FoundNoNumber, how_many_last}

-- Those of their number's last term are as many as are counted.
count_last : (gs : List Gathered) → length (of_last_term gs) ≡ how_many_last gs
count_last [] = refl
count_last (g ∷ gs) = go (g.caller.term == last_term) (count_last gs)
  where
    go : (b : Bool) → length (of_last_term gs) ≡ how_many_last gs
        → length (if b then g ∷ of_last_term gs else of_last_term gs) ≡ (if b then 1 else 0) + how_many_last gs
    go true e = omega (arith, e)
    go false e = omega (arith, e)

-- There are no more of these than all.
pub few_last : (gs : List Gathered) → how_many_last gs ≤ length gs
few_last [] = omega arith
few_last (g ∷ gs) = go (g.caller.term == last_term) (few_last gs)
  where
    go : (b : Bool) → how_many_last gs ≤ length gs → (if b then 1 else 0) + how_many_last gs ≤ length (g ∷ gs)
    go true e = omega (arith, e)
    go false e = omega (arith, e)

-- What was found is among the finds.
found_among : {z : Shape} {finds : List Find} (n : FoundNoNumber z finds) (f : Find) → In f n.these → In f finds
found_among n f i = subst (In f) (sym n.parts) (in_right f n.before (n.these ++ n.after) (in_left f n.these n.after i))

-- what is known of a whole pass that gathered a crew again, and of the finds since
pub record IsAgain (old new : View) (crew : List Gathered) (draws : List Find) : Type 0 where
  pub sound : IsSound new
  pub whole : new.whole ≡ true
  pub number : new.number ≡ no_number
  pub shape : new.shape ≡ old.shape
  pub gathered : new.gathered ≡ old.gathered ++ crew
  pub finds : (f : Find) → In f draws → In f new.finds
  pub before : (f : Find) → In f draws → f.gathered ≡ length old.gathered
  pub count : (f : Find) → In f draws → is_draw f.step ≡ true → f.found ≤ length old.gathered + length crew + 1

module _ {old new : View} {crew : List Gathered} {draws : List Find} (a : IsAgain old new crew draws) (more : ℕ) (less : length crew < more)
    (n : FoundNoNumber old.shape draws) where
  by_zeros : FoundZero (groups old.shape) n.these → AreTooMany old more
  by_zeros zeros =
      let shape : new.shape.passes ≡ old.shape.passes = ap (λ (z : Shape). z.passes) a.shape in
      let long : length new.gathered ≡ length old.gathered + length crew =
      ap (λ (gs : List Gathered). length gs) a.gathered ∙ length-append old.gathered crew in
      let last = count_last old.gathered in
      ⊎_elim
      (λ (e : length new.gathered + 1 ≡ most_draws). inr (omega (arith, e, long, less)))
      (λ (few : new.shape.passes ≤ 1 + (length (of_last_term old.gathered) + length crew)). inl (omega (arith, few, last, shape, less)))
      (too_few new a.sound a.whole a.number old.gathered crew a.gathered (λ g low.
      let y = zeros g (subst (λ (z : Shape). g < groups z) a.shape low) in
      (y.0, a.finds y.0 (found_among n y.0 y.1), y.2, y.3, y.4, a.before y.0 (found_among n y.0 y.1))))

  by_count : (f : Find) × In f n.these × (is_draw f.step ≡ true) × (f.found ≡ most_draws) → AreTooMany old more
  by_count y = let few = a.count y.0 (found_among n y.0 y.1) y.2 in let is = y.3 in inr (omega (arith, few, is, less))

  pub too_many : AreTooMany old more
  too_many = ⊎_elim by_zeros by_count n.all.why
