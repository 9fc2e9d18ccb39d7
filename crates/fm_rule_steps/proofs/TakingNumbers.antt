-- The step that takes a number by its bit.
use Rattle.std.proofs.Common.{◌≡◌, ◌≢◌, ℕ, ◌/◌, ◌%◌, ◌<◌, ◌==◌, Bool, true, false, if◌then◌else◌, List, [], length, get_or, sym, refl, ap, ◌∙◌, subst, arith, inl, inr, ⊎_elim}
use Rattle.std.{specs.Int.{bit_at}, proofs.lemmas.Nat.Bits.{bit_at-zero}}
use mathlib.Core.Option.{some}
use mathlib.Core.Logic.{dite}
use native.Mathlib.Decide.{ℕ_discrete}
use lib.ListN.{get_elem?}
use prog.Atomic.{either}
use Rattle.fm_words.specs.{declared.shape.Shape.{Shape}, Bits.{IsWithout}, Places.{at as place_at, groups, number_bits}}
use Rattle.fm_base.specs.{declared.caller.Caller.{Caller}, Finds.{Find, TakesNumber as TakingNumber, Gathered, is_slot, is_page, group_of}}
use Rattle.fm_base_machine.{specs.Functions.{put}, proofs.Putting.{put_here, put_else}}
use Rattle.fm_rule_facts.specs.declared.step.Step.TheVariants.{TakesNumber}
use Rattle.fm_rule_facts.specs.Hands.{Number, no_number, number_taken, number_learnt, number_drawn, number_left, number_joined, number_taken_by, HasNumberIn}
use Rattle.fm_rule_facts.specs.{Views.{View, In, all_gathered}, Steps.{part, entries, noted, note_of, number_at}}
use Rattle.fm_rule_facts.specs.Facts.{bit_of, next_of, KeepsNumber, HasNumberInHand, Owns, Rule, Somewhere, IsUsed, used, wanted, full, IsSpent}
use Rattle.fm_rule_facts.{specs.Moves.{MayStep}, proofs.{Groups.{bit_here, bit_else, bit_was}, Looking.{wants_in}, Gone.{NoSlots, none_founded}}}
use Rattle.fm_rule_facts.proofs.{Founds.{NoneDrawn, note_none_drawn}, Keeping.{gathered_all}, Shown.{shows_numbers}, Ruling.{AreLooked}}
use mathlib.Core.Option.{some-injective}
use Rattle.fm_rule_steps.proofs.{Reading.{by_bit}, Knowing.{own}, Plain.{Made}, Quiet.{quiet}, Numbering.{turns}}

module _ (z : Shape) (me : ℕ) (v : View) (l : v.live ≡ true) (ws : List ℕ) (vs : List View) (r : Rule z ws vs) (at : get_elem? vs me ≡ some v) where
  abbrev mine : Owns z r.history r.memory r.machine r.owners me v
  mine = own z ws vs r me v at l

  module _ (none : v.number ≡ no_number) (g e bit next : ℕ) (low : g < groups z) (few : bit < 64) (fits : number_at g bit < z.passes)
      (without : IsWithout e bit next) where
    abbrev i : ℕ
    i = place_at z (number_bits g)

    abbrev found : ℕ
    found = get_or ws i 0

    abbrev n : ℕ
    n = number_at g bit

    abbrev fs : ℕ → List Find
    fs = note_of (TakingNumber g e bit) found v

    is_found : found ≡ r.memory.numbers g
    is_found = r.shows.numbers g low

    nothing_in : (k : ℕ) → ¬ (HasNumberIn k v.number)
    nothing_in k h = subst (HasNumberIn k) none h

    none_drawn : NoneDrawn fs
    none_drawn = note_none_drawn (TakingNumber g e bit) found v refl

    no_slots : NoSlots fs
    no_slots k f (inl q) = (ap (λ (x : Find). is_slot x.step) q, ap (λ (x : Find). is_page x.step) q)
    no_slots k f (inr j) = absurd j

    -- what the word 0 says of each number
    module _ (zero : r.memory.numbers g ≡ 0) (k : ℕ) (of : k / 64 ≡ g) (below : k < z.passes) where
      is_zero : bit_of r.memory.numbers k ≡ 0
      is_zero = (λ j. bit_at (r.memory.numbers (of j)) (k % 64)) ∙ (ap (λ (w : ℕ). bit_at w (k % 64)) zero ∙ bit_at-zero (k % 64))

      -- a caller that is at a seat of another number's isn't gathered into this one
      apart : (j : ℕ) (c : Caller) → r.owners.seat c ≡ j → j ≢ me → (x : Gathered) → In x v.gathered → x.caller ≢ c
      apart j c at_j far x i q = far (sym at_j ∙ (ap r.owners.seat (sym q) ∙ (mine.gathered x i).seated))

      in_hand : (u : View) → get_elem? vs (r.owners.number k) ≡ some u → u.live ≡ true → r.owners.number k ≢ me
          → Owns z r.history r.memory r.machine r.owners (r.owners.number k) u → (h : Number) → u.number ≡ h → HasNumberIn k h
          → HasNumberInHand z r.history r.memory r.machine r.owners (r.owners.number k) u h → IsUsed r.memory r.owners vs v.gathered k
      in_hand u there live far x no_number q i y = absurd i
      in_hand u there live far x (number_taken n') q i y =
          wanted (record { view = u; there = there; holds = (live, inl (q ∙ ap number_taken (sym i))) })
      in_hand u there live far x (number_learnt n' t) q i y =
          wanted (record { view = u; there = there; holds = (live, inr (t, q ∙ ap (λ (s : ℕ). number_learnt s t) (sym i))) })
      in_hand u there live far x (number_drawn c) q i y = used c (sym i) y.drawn (inr (apart (r.owners.number k) c y.seated far))
      in_hand u there live far x (number_left n') q i y = ⊎_elim full
          (λ (o : (s : Gathered) × In s (all_gathered u) × (s.caller.number ≡ n')).
          let s = (gathered_all z r.history r.memory r.machine r.owners (r.owners.number k) u x o.0 o.1).1 in
          used o.0.caller (o.2 ∙ sym i) s.drawn (inr (apart (r.owners.number k) o.0.caller s.seated far)))
          y.1
      in_hand u there live far x (number_joined c) q i y =
          let s = (gathered_all z r.history r.memory r.machine r.owners (r.owners.number k) u x y.gathered.0 y.gathered.1).1 in
          used y.gathered.0.caller (ap (λ (d : Caller). d.number) y.gathered.2 ∙ sym i) s.drawn
          (inr (apart (r.owners.number k) y.gathered.0.caller s.seated far))

      is_used : IsUsed r.memory r.owners vs v.gathered k
      is_used = ⊎_elim
          (λ (s : Somewhere vs (r.owners.number k) (KeepsNumber k)).
          let x = (r.each (r.owners.number k) s.view s.there).owns s.holds.0 in
          dite (ℕ_discrete (r.owners.number k) me)
          (λ e.
          let same : s.view ≡ v = some-injective s.view v (sym s.there ∙ (ap (get_elem? vs) e ∙ at)) in
          ⊎_elim
          (λ (q : v.caller.number ≡ k). used v.caller q mine.drawn (inr (λ y i. (mine.gathered y i).apart)))
          (λ (q : HasNumberIn k v.number). absurd (nothing_in k q))
          (subst (KeepsNumber k) same s.holds).1)
          (λ far. ⊎_elim
          (λ (q : s.view.caller.number ≡ k). used s.view.caller q x.drawn (inr (apart (r.owners.number k) s.view.caller x.seated far)))
          (λ (q : HasNumberIn k s.view.number). in_hand s.view s.there s.holds.0 far x s.view.number refl q x.number)
          s.holds.1))
          (λ (y : IsSpent r.memory r.owners k). used (next_of r.memory.terms k) refl y.drawn (inl y.last))
          (r.numbers k below is_zero)

    looks : AreLooked r v fs
    looks f (inr j) = absurd j
    looks f (inl q) = (
      (λ i. ap (λ (x : Find). x.gathered) q),
      (λ i h.
          let zero : r.memory.numbers g ≡ 0 = sym is_found ∙ (ap (λ (x : Find). x.found) (sym q) ∙ h) in
          record {
            drawn = λ x j. (mine.gathered x j).drawn;
            all = λ k of below. is_used zero k (of ∙ ap (λ (x : Find). group_of x.step) q) below;
          }),
    )

    -- nothing is taken
    stays : Made z ws vs me v i found v [] fs
    stays = quiet z ws vs r me v at l i [] fs none_drawn
        (none_founded z r.history r.memory r.owners.taker r.machine.life v.caller fs no_slots (length r.history)) looks tt (λ b. tt) tt refl refl

    -- the number is in the hand
    takes_it : r.memory.numbers g ≡ e → bit_at e bit ≡ 1 → Made z ws vs me v i next (record v { number = number_taken n }) [] fs
    takes_it is one =
        let numbers' : ℕ → ℕ = put r.memory.numbers g next in
        let number' : ℕ → ℕ = put r.owners.number n me in
        let bit_on : (k : ℕ) → k ≢ n → bit_of numbers' k ≡ bit_of r.memory.numbers k =
        bit_else r.memory.numbers g bit next few (λ k ne. without.others k ne ∙ ap (λ (w : ℕ). bit_at w k) (sym is)) in
        let zero : bit_of numbers' n ≡ 0 = bit_here r.memory.numbers g bit next few ∙ without.zero in
        let was : bit_of r.memory.numbers n ≡ 1 = bit_was r.memory.numbers g bit next few e is ∙ one in
        let far : (k : ℕ) → bit_of r.memory.numbers k ≡ 0 → k ≢ n = (λ k b q.
        let y : bit_of r.memory.numbers k ≡ 1 = ap (bit_of r.memory.numbers) q ∙ was in omega arith) in
        let mine_far : v.caller.number ≢ n = far v.caller.number mine.bit in
        let free = r.free_numbers n was in
        turns z me v l ws vs r at numbers' r.memory.terms number' (number_taken n) i next fs none_drawn no_slots looks
        (record {
          owner = put_else r.owners.number n me v.caller.number mine_far;
          bit = bit_on v.caller.number mine_far;
          term = refl;
          others = λ k b h. (put_else r.owners.number n me k (far k b), bit_on k (far k b) ∙ b, refl);
        })
        (record {
          kept = λ k h b. dite (ℕ_discrete k n)
              (λ q. inl (ap number' q ∙ put_here r.owners.number n me, (l, inr q)))
              (λ ne. inr (inl (
                sym (bit_on k ne) ∙ b,
                put_else r.owners.number n me k ne,
                refl,
                refl,
                (λ (y : KeepsNumber k v). (y.0, ⊎_elim inl (λ (h : HasNumberIn k v.number). absurd (nothing_in k h)) y.1)),
              )));
          freed = λ k b.
              let ne : k ≢ n = (λ q. let y : bit_of numbers' k ≡ 0 = ap (bit_of numbers') q ∙ zero in omega arith) in
              let y = r.free_numbers k (sym (bit_on k ne) ∙ b) in record { mark = y.mark; fresh = y.fresh };
          terms = record { terms = λ k. omega arith; last = r.last; used = λ k t h. inl h };
          wants = λ k h. absurd (nothing_in k (wants_in k v h));
        })
        (record {
          number = record {
            loose = record { low = fits; owner = put_here r.owners.number n me; bit = zero; mark = free.mark };
            fresh = free.fresh;
          };
          not_own = λ k q h. mine_far (sym h ∙ q);
          stays = λ c h. absurd (let q : no_number ≡ number_drawn c = sym none ∙ h in cc);
        })
        (λ c a h. r.world.marked c a h)
        (shows_numbers z r.valid ws r.memory r.shows g next low)

    taking : (b c : Bool) → (found == e) ≡ b → (bit_at e bit == 1) ≡ c
        → Made z ws vs me v i (either b next found) (record v { number = number_taken_by (if b then c else false) n v.number }) [] fs
    taking = by_bit (λ w b. Made z ws vs me v i w (record v { number = number_taken_by b n v.number }) [] fs) e bit next found without
        (λ p. takes_it (sym is_found ∙ p)) stays

pub take_number_steps : (z : Shape) (me : ℕ) (v : View) (g e bit next : ℕ) → v.live ≡ true → v.number ≡ no_number → g < groups z → bit < 64
    → number_at g bit < z.passes → IsWithout e bit next
    → MayStep z (TakesNumber g e bit) me v (place_at z (number_bits g)) (λ n. either (n == e) next n)
unfolding part entries noted
take_number_steps z me v g e bit next l none low few fits without = record {
  may = λ ws vs r at.
      let x : ℕ = get_or ws (place_at z (number_bits g)) 0 in
      let y = taking z me v l ws vs r at none g e bit next low few fits without (x == e) (bit_at e bit == 1) refl refl in
      (y.0, y.1, record { gives = y.2; learns = tt });
}
