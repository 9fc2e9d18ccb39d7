-- The steps that take a slot by its bit, and learn its next generation.
use Rattle.std.proofs.Common.{◌≡◌, ◌≢◌, ℕ, ◌-◌, ◌/◌, ◌^◌, ◌<◌, ◌==◌, Bool, true, false, if◌then◌else◌, List, [], length, set, get_or, sym, refl, ap, ◌∙◌, subst, arith, inl, inr, ne_eqb, Some}
use Rattle.std.specs.Int.{bit_at}
use mathlib.Core.Option.{some}
use mathlib.Core.Logic.{dite}
use native.Mathlib.Decide.{ℕ_discrete}
use lib.ListN.{get_elem?}
use prog.Atomic.{either}
use Rattle.fm_words.specs.{declared.shape.Shape.{Shape}, Bits.{IsWithout}, Places.{at as place_at, session, slot_bits as bits_place}, Sessions.{session_word}}
use Rattle.fm_base.specs.Finds.{is_page, Find, TakesSlot as Taking}
use Rattle.fm_base_machine.{specs.Functions.{put}, proofs.Putting.{put_here, put_else}}
use Rattle.fm_rule_facts.specs.{declared.step.Step.TheVariants.{TakesSlot, LearnsGeneration}, Hands.{nothing, taken, learnt, HasSlot, IsTaker, hand_taken}}
use Rattle.fm_rule_facts.specs.{Gone.{FoundBy}, Views.{View, In}, Steps.{part, entries, noted, none_noted, note_of}}
use Rattle.fm_rule_facts.specs.Facts.{PoolWords, Session, free, session_code, Owners, HasInHand, KeepsSlot, Owns, Rule}
use Rattle.fm_rule_facts.{specs.Moves.{Moved, Same, KeepsSlots, LearnsSlots, MayStep}, proofs.Founds.{no_draw, note_none_drawn, note_no_number}}
use Rattle.fm_rule_facts.{specs.Words.{kept, free_word}, proofs.{Worlds.{world_bits}, Shown.{shows_same, shows_bits}}}
use Rattle.fm_rule_facts.proofs.{Ruling.{AreLooked, unlooked, page_like, keeps, keeps_with}, Leaving.{calls_moved, bits_moved}, Working.{work_with}}
use Rattle.fm_rule_steps.proofs.{Reading.{by_bit}, Telling.{some_bit, idle, busy, none_left}, Quiet.{quiet}, Knowing.{own}}
use Rattle.fm_rule_steps.proofs.{Staying.{same_but, sweeps_still, numbers_stay, number_stays}, Plain.{Made}}

module _ (z : Shape) (me : ℕ) (v : View) (l : v.live ≡ true) (ws : List ℕ) (vs : List View) (r : Rule z ws vs) (at : get_elem? vs me ≡ some v) where
  abbrev mine : Owns z r.history r.memory r.machine r.owners me v
  mine = own z ws vs r me v at l

  -- ---- a bit is taken

  module _ (sh : v.shape ≡ z) (none : v.hand ≡ nothing) (e bit next : ℕ) (low : bit < z.slots) (without : IsWithout e bit next) where
    abbrev i : ℕ
    i = place_at z bits_place

    abbrev found : ℕ
    found = get_or ws i 0

    abbrev fs : ℕ → List Find
    fs = note_of (Taking e bit) found v

    is_found : found ≡ r.memory.bits
    is_found = r.shows.slot_bits

    -- what is noted is so, where no slot was found
    new : (f : Find) → In f (fs (length r.history)) → FoundBy z r.history r.memory r.owners.taker r.machine.life v.caller f
    new f (inr j) = absurd j
    new f (inl q) = record {
      slot = λ j h. none_left z me v l ws vs r at sh none f (ap (λ (g : Find). g.seen) q) (λ c. ap (λ (g : Find). g.clear) (sym q) ∙ c)
          (sym is_found ∙ (ap (λ (g : Find). g.found) (sym q) ∙ h));
      page = λ j. absurd (let n : false ≡ true = ap (λ (g : Find). is_page g.step) (sym q) ∙ j in cc);
    }

    looks : AreLooked r v fs
    looks = unlooked r v fs (note_no_number (Taking e bit) found v refl)

    -- nothing is taken
    stays : Made z ws vs me v i found v [] fs
    stays = quiet z ws vs r me v at l i [] fs (note_none_drawn (Taking e bit) found v refl) new looks tt (λ b. tt) tt refl refl

    -- the slot is in the hand
    takes_it : r.memory.bits ≡ e → bit_at e bit ≡ 1 → Made z ws vs me v i next (record v { hand = taken bit }) [] fs
    takes_it is one =
        let m' : PoolWords = record r.memory { bits = next } in
        let o' : Owners = record r.owners { holder = put r.owners.holder bit me; taker = put r.owners.taker bit (Some v.caller) } in
        let p : View = record v { hand = taken bit } in
        let far : (s : ℕ) → bit_at r.memory.bits s ≡ 0 → s ≢ bit = (λ s b q.
        let y : bit_at r.memory.bits s ≡ 1 = (λ j. bit_at (is j) (q j)) ∙ one in omega arith) in
        let bit_on : (s : ℕ) → s ≢ bit → bit_at next s ≡ bit_at r.memory.bits s = (λ s n. without.others s n ∙ ap (λ (w : ℕ). bit_at w s) (sym is)) in
        let f = r.world.slots.bit_is bit (ap (λ (w : ℕ). bit_at w bit) is ∙ one) in
        let same : Same v p = same_but in
        let d : Moved me z v.caller r.memory r.machine r.owners [] m' o' =
        bits_moved
        (λ s g q b h. (
          put_else r.owners.holder bit me s (far s b),
          q,
          bit_on s (far s b) ∙ b,
          put_else r.owners.taker bit (Some v.caller) s (far s b),
        ))
        (λ s k x. inl (record {
          taker = put_else r.owners.taker bit (Some v.caller) s (far s x.bit) ∙ x.taker;
          generation = x.generation;
          session = x.session;
          left = x.left;
          bit = bit_on s (far s x.bit) ∙ x.bit;
        })) in
        let slots : KeepsSlots z me v p r.memory r.owners m' o' = (λ s g h q left b. dite (ℕ_discrete s bit)
        (λ c. inl (ap (put r.owners.holder bit me) c ∙ put_here r.owners.holder bit me, (l, c)))
        (λ n. inr (
          q,
          sym (bit_on s n) ∙ b,
          put_else r.owners.holder bit me s n,
          (λ (y : KeepsSlot s v). absurd (subst (HasSlot s) none y.1)),
        ))) in
        keeps_with z ws (set ws i next) vs r me v p [] fs m' o' at l d same (note_none_drawn (Taking e bit) found v refl) new looks tt r.pages
        (λ b h. inr (h, refl, (λ y. y)))
        (sweeps_still me v p r.memory r.machine r.owners m' r.machine o' same refl (λ b q. refl) (λ b q h. (q, h)))
        slots
        (λ q j b. inr (refl, λ h. page_like q (r.owners.berth q) v p refl refl refl h))
        (λ b. refl)
        (numbers_stay z ws vs r me v at l [] m' o' p d same refl (λ k. refl) (λ k. refl) (λ k. refl))
        (shows_bits z r.valid ws r.memory r.shows next)
        (world_bits z r.memory r.machine r.world next (λ s b. dite (ℕ_discrete s bit)
        (λ c. absurd (let y = without.zero in let q : bit_at next bit ≡ 1 = ap (bit_at next) (sym c) ∙ b in omega arith))
        (λ n. sym (bit_on s n) ∙ b)))
        (work_with mine.work
        (f.0, record { owner = put_here r.owners.holder bit me; slot = low; bit = without.zero; session = f.1; left = f.2 })
        (put_here r.owners.taker bit (Some v.caller)))
        (number_stays z ws vs r me v at l [] m' o' p d same refl (λ k. refl) (λ k. refl) (λ k. refl))

    taking : (b c : Bool) → (found == e) ≡ b → (bit_at e bit == 1) ≡ c
        → Made z ws vs me v i (either b next found) (record v { hand = hand_taken (if b then c else false) bit v.hand }) [] fs
    taking = by_bit (λ w b. Made z ws vs me v i w (record v { hand = hand_taken b bit v.hand }) [] fs) e bit next found without
        (λ p. takes_it (sym is_found ∙ p)) stays

    learns : LearnsSlots v found
    learns = record {
      some = λ n. subst (λ (x : ℕ). (s : ℕ) × (s < v.shape.slots) × (bit_at x s ≡ 1)) (sym is_found)
          (some_bit z me v l ws vs r at sh (λ q. n (is_found ∙ q)));
      low = λ s b. subst (λ (x : Shape). s < x.slots) (sym sh) (r.world.slots.low s (ap (λ (x : ℕ). bit_at x s) (sym is_found) ∙ b));
      idle = λ w s h b. idle z me v l ws vs r at sh w s (ap (λ (x : ℕ). bit_at x s) (sym is_found) ∙ b);
      busy = λ w n c s h b. busy z me v l ws vs r at sh w n c s (subst (λ (x : Shape). s < x.slots) sh h) (ap (λ (x : ℕ). bit_at x s) (sym is_found) ∙ b);
    }

  -- ---- a generation is learnt

  -- the word of a free session has the generation alone
  generation_of : (g c : ℕ) → g < z.generations → session_code z.generations (free g) c / 2 ^ 32 ≡ g
  unfolding session_word free_word kept
  generation_of g c low =
      let e : kept z.generations g ≡ g = ap (λ (b : Bool). if b then g - 1 else g) (ne_eqb g z.generations (λ q. omega arith)) in
      omega arith

  learning : (s : ℕ) → v.hand ≡ taken s → (i : ℕ) → i ≡ place_at z (session s)
      → Made z ws vs me v i (get_or ws i 0) (record v { hand = learnt s (get_or ws i 0 / 2 ^ 32) }) [] none_noted
  learning s in_hand i is =
      let h : HasInHand z r.memory.bits r.memory.sessions r.owners.holder me (taken s) =
      subst (HasInHand z r.memory.bits r.memory.sessions r.owners.holder me) in_hand mine.work.hand in
      let x : ℕ = get_or ws i 0 in
      let word : x ≡ session_code z.generations (free h.0) (r.memory.counts s) =
      ap (λ (j : ℕ). get_or ws j 0) is ∙ (r.shows.sessions s h.1.slot ∙ ap (λ (y : Session). session_code z.generations y (r.memory.counts s)) h.1.session) in
      let gen : h.0 ≡ x / 2 ^ 32 = sym (ap (λ (n : ℕ). n / 2 ^ 32) word ∙ generation_of h.0 (r.memory.counts s) h.1.left) in
      let p : View = record v { hand = learnt s (x / 2 ^ 32) } in
      let d : Moved me z v.caller r.memory r.machine r.owners [] r.memory r.owners = calls_moved tt (λ b q h. tt) in
      keeps z ws (set ws i x) vs r me v p [] none_noted r.memory r.owners at l d (same_but) no_draw tt r.pages
      (λ b h. inr (h, refl, (λ y. y)))
      (λ b q h. inr (q, h, refl, (λ y. y)))
      (λ k g h q left b. inr (q, b, refl, (λ (y : KeepsSlot k v). (y.0, subst (HasSlot k) in_hand y.1))))
      (λ q j b. inr (refl, λ h. page_like q (r.owners.berth q) v p refl refl refl h))
      (λ b. refl)
      (numbers_stay z ws vs r me v at l [] r.memory r.owners p d same_but refl (λ k. refl) (λ k. refl) (λ k. refl))
      (shows_same z r.valid ws r.memory r.shows i) r.world
      (work_with mine.work
      (record {
        owner = h.1.owner;
        slot = h.1.slot;
        bit = h.1.bit;
        session = h.1.session ∙ ap free gen;
        left = subst (λ (n : ℕ). n < z.generations) gen h.1.left;
      })
      (subst (IsTaker r.owners.taker v.caller) in_hand mine.work.took))
      (number_stays z ws vs r me v at l [] r.memory r.owners p d same_but refl (λ k. refl) (λ k. refl) (λ k. refl))

pub take_steps : (z : Shape) (me : ℕ) (v : View) (e bit next : ℕ) → v.live ≡ true → v.shape ≡ z → v.hand ≡ nothing → bit < z.slots → IsWithout e bit next
    → MayStep z (TakesSlot e bit) me v (place_at z bits_place) (λ n. either (n == e) next n)
unfolding part entries noted
take_steps z me v e bit next l sh none low without = record {
  may = λ ws vs r at.
      let x : ℕ = get_or ws (place_at z bits_place) 0 in
      let g = taking z me v l ws vs r at sh none e bit next low without (x == e) (bit_at e bit == 1) refl refl in
      (g.0, g.1, record { gives = g.2; learns = learns z me v l ws vs r at sh none e bit next low without });
}

pub generation_steps : (z : Shape) (me : ℕ) (v : View) (s : ℕ) → v.live ≡ true → v.hand ≡ taken s
    → MayStep z (LearnsGeneration s) me v (place_at z (session s)) (λ n. n)
unfolding part entries noted
generation_steps z me v s l in_hand = record {
  may = λ ws vs r at.
      let g = learning z me v l ws vs r at s in_hand (place_at z (session s)) refl in
      (g.0, g.1, record { gives = g.2; learns = tt });
}
