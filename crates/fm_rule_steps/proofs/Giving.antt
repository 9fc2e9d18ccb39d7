-- The step that gives a slot back.
use Rattle.std.proofs.Common.{◌≡◌, ◌≢◌, ℕ, ◌+◌, ◌^◌, true, List, [], bit_or, get_or, set, sym, refl, ap, ◌∙◌, subst, arith, inl, inr, Some, None}
use Rattle.std.{specs.Int.{bit_at}, proofs.lemmas.Nat.Bits.{bit_at-lt, bit_at_or, bit_at-pow_same, bit_at-pow_other}}
use mathlib.Core.Option.{some}
use mathlib.Core.Logic.{dite}
use native.Mathlib.Decide.{ℕ_discrete}
use lib.ListN.{get_elem?}
use Rattle.fm_words.specs.{declared.shape.Shape.{Shape}, Places.{at as place_at, slot_bits as bits_place}}
use Rattle.fm_rule_facts.specs.{declared.step.Step.TheVariants.{GivesSlot}, Hands.{nothing, retired, HasSlot, IsTaker}, Views.{View}}
use Rattle.fm_rule_facts.specs.{Steps.{part, entries, noted, none_noted}, Facts.{PoolWords, HasInHand, KeepsSlot, Owns, Rule}, Moves.{Moved, Same, MayStep}}
use Rattle.fm_rule_facts.proofs.{Founds.{no_draw}, Retiring.{world_give}, Shown.{shows_bits}, Ruling.{page_like, keeps}, Leaving.{bits_moved}}
use Rattle.fm_rule_facts.proofs.Working.{work_with}
use Rattle.fm_rule_steps.proofs.{Knowing.{own}, Staying.{same_but, sweeps_still, numbers_stay, number_stays}, Plain.{Made}}

module _ (z : Shape) (me : ℕ) (v : View) (l : v.live ≡ true) (s : ℕ) (hand : v.hand ≡ retired s) (ws : List ℕ) (vs : List View) (r : Rule z ws vs)
    (at : get_elem? vs me ≡ some v) where
  abbrev owned : Owns z r.history r.memory r.machine r.owners me v
  owned = own z ws vs r me v at l

  abbrev i : ℕ
  i = place_at z bits_place

  abbrev word : ℕ
  word = bit_or (get_or ws i 0) (2 ^ s)

  in_its : HasInHand z r.memory.bits r.memory.sessions r.owners.holder me (retired s)
  in_its = subst (HasInHand z r.memory.bits r.memory.sessions r.owners.holder me) hand owned.work.hand

  -- it isn't for an arena that is opened next
  untaken : r.owners.taker s ≡ None
  untaken = subst (IsTaker r.owners.taker v.caller) hand owned.work.took

  is_found : get_or ws i 0 ≡ r.memory.bits
  is_found = r.shows.slot_bits

  is_one : bit_at word s ≡ 1
  is_one = let a = bit_at_or (get_or ws i 0) (2 ^ s) s in let b = bit_at-pow_same s in let c = bit_at-lt (get_or ws i 0) s in omega arith

  others : (k : ℕ) → k ≢ s → bit_at word k ≡ bit_at r.memory.bits k
  others k n =
      let a = bit_at_or (get_or ws i 0) (2 ^ s) k in
      let b = bit_at-pow_other s k n in
      let c : bit_at (get_or ws i 0) k ≡ bit_at r.memory.bits k = ap (λ (x : ℕ). bit_at x k) is_found in omega arith

  abbrev bits_now : PoolWords
  bits_now = record r.memory { bits = word }

  abbrev given_part : View
  given_part = record v { hand = nothing }

  gives_back : Made z ws vs me v i word given_part [] none_noted
  gives_back =
      let d : Moved me z v.caller r.memory r.machine r.owners [] bits_now r.owners =
      bits_moved
      (λ k g q b h. (refl, q, others k (λ e. h (ap r.owners.holder e ∙ in_its.1.owner)) ∙ b, refl))
      (λ k c x. dite (ℕ_discrete k s)
      (λ e. absurd (let q : None ≡ Some c = sym untaken ∙ (ap r.owners.taker (sym e) ∙ x.taker) in cc))
      (λ n. inl (record { taker = x.taker; generation = x.generation; session = x.session; left = x.left; bit = others k n ∙ x.bit }))) in
      let same : Same v given_part = same_but in
      keeps z ws (set ws i word) vs r me v given_part [] none_noted bits_now r.owners at l d same no_draw tt r.pages
      (λ b h. inr (h, refl, (λ y. y)))
      (sweeps_still me v given_part r.memory r.machine r.owners bits_now r.machine r.owners same refl (λ b q. refl) (λ b q h. (q, h)))
      (λ k g h q left b. dite (ℕ_discrete k s)
      (λ e. absurd (let y = is_one in let n : bit_at word k ≡ bit_at word s = ap (bit_at word) e in omega arith))
      (λ n. inr (q, sym (others k n) ∙ b, refl, (λ (y : KeepsSlot k v). absurd (n (subst (HasSlot k) hand y.1))))))
      (λ q j b. inr (refl, λ h. page_like q (r.owners.berth q) v given_part refl refl refl h))
      (λ b. refl)
      (numbers_stay z ws vs r me v at l [] bits_now r.owners given_part d same refl (λ k. refl) (λ k. refl) (λ k. refl))
      (shows_bits z r.valid ws r.memory r.shows word)
      (world_give z r.memory r.machine r.world word s (in_its.0 + 1) in_its.1.slot in_its.1.session in_its.1.left others)
      (work_with owned.work tt tt)
      (number_stays z ws vs r me v at l [] bits_now r.owners given_part d same refl (λ k. refl) (λ k. refl) (λ k. refl))

pub give_steps : (z : Shape) (me : ℕ) (v : View) (s : ℕ) → v.live ≡ true → v.hand ≡ retired s
    → MayStep z (GivesSlot s) me v (place_at z bits_place) (λ n. bit_or n (2 ^ s))
unfolding part entries noted
give_steps z me v s l hand =
    record { may = λ ws vs r at. let g = gives_back z me v l s hand ws vs r at in (g.0, g.1, record { gives = g.2; learns = tt }) }
