-- The step that retires an arena that was swept.
use Rattle.std.proofs.Common.{◌≡◌, ◌≢◌, ◌⊎◌, ℕ, ◌+◌, ◌<◌, ◌==◌, Bool, true, false, List, [], set, sym, refl, ap, ◌∙◌, subst, arith, inl, inr, Some, None, Option}
use Rattle.std.{specs.Int.{bit_at}, proofs.lemmas.Nat.Bits.{bit_at-lt}}
use mathlib.Core.Option.{some}
use mathlib.Core.Logic.{dite}
use native.Mathlib.Decide.{ℕ_discrete}
use lib.ListN.{get_elem?}
use Rattle.fm_words.specs.{declared.shape.Shape.{Shape}, Places.{at as place_at, session}}
use Rattle.fm_base.specs.{declared.arena_id.ArenaId.{ArenaId}, Calls.{Entry}}
use Rattle.fm_base_machine.{specs.Functions.{Over, put}, proofs.Putting.{put_here, put_else, put_cases}}
use Rattle.fm_rule_facts.specs.{declared.step.Step.TheVariants.{Retires}, Hands.{Hand, nothing, HasSlot, IsTaker, hand_retired}, Views.{View, limit_of}}
use Rattle.fm_rule_facts.specs.{Words.{free_word}, Closes.{passed_of, dropped}, Steps.{part, entries, noted, none_noted}, Loans.{loans_of}}
use Rattle.fm_rule_facts.specs.Facts.{PoolWords, Session, free, shut, Owners, IsHeld, HasInHand, HasSweep, KeepsSlot, Owns, Rule, HasSwept}
use Rattle.fm_rule_facts.{specs.Moves.{MayMake, StaysEnded, Moved, Same, KeepsSweeps, KeepsSlots, MayStore}, proofs.Founds.{no_draw}}
use Rattle.fm_rule_facts.{proofs.{Keeping.{closing_on, sweeping_on}, Living.{pages_retire}, Retiring.{ended_bit, world_retire}}, specs.Parts.{unread}}
use Rattle.fm_rule_facts.proofs.{Shown.{shows_session}, Ruling.{keeps}, Leaving.{callers_stay, numbers_left, pages_left}}
use Rattle.fm_rule_steps.proofs.{Reading.{eqb_true, eqb_false}, Closes.{in_dropped, dropped_in, once_dropped}}
use Rattle.fm_rule_steps.proofs.{Sweeping.{its, its_sweep, ended_now, shut_now, mine_now, apart, fit}, Knowing.{own}}
use Rattle.fm_rule_steps.proofs.{Staying.{same_but, pages_there, numbers_stay, number_stays}, Plain.{Made}}

module _ (z : Shape) (me : ℕ) (v : View) (l : v.live ≡ true) (sh : v.shape ≡ z) (none : v.hand ≡ nothing) (idle : v.swept ≡ unread) (a : ArenaId)
    (has : passed_of v.sweeps a ≡ Some (z.reach + 1)) (ws : List ℕ) (vs : List View) (r : Rule z ws vs) (at : get_elem? vs me ≡ some v) where
  abbrev mine : Owns z r.history r.memory r.machine r.owners me v
  mine = own z ws vs r me v at l

  over : r.machine.life a ≡ Over
  over = ended_now z me v l a (z.reach + 1) has ws vs r at

  shown : r.memory.sessions a.slot ≡ shut a
  shown = shut_now z me v l a (z.reach + 1) has ws vs r at

  -- no part of the arena has a page any more
  no_map : (i : ℕ) → r.memory.maps a.slot i ≡ None
  no_map i = go (r.memory.maps a.slot i) refl
    where
      go : (o : Option ℕ) → r.memory.maps a.slot i ≡ o → r.memory.maps a.slot i ≡ None
      go None e = e
      go (Some p) e =
          let t = its z me v l a (z.reach + 1) has ws vs r at in
          let low = (r.pages.mapped_is p a.slot i (r.pages.map_is a.slot i p e)).part in
          let n = t.passed in
          ap (λ (x : ArenaId). r.memory.maps x.slot i) (sym t.arena) ∙ (its_sweep z me v l a (z.reach + 1) has ws vs r at).parts i (omega arith)

  abbrev next : ℕ
  next = a.generation + 1

  abbrev sessions' : ℕ → Session
  sessions' = put r.memory.sessions a.slot (free next)

  abbrev m' : PoolWords
  m' = record r.memory { sessions = sessions'; counts = put r.memory.counts a.slot 0 }

  abbrev o' : Owners
  o' = record r.owners { holder = put r.owners.holder a.slot me; taker = put r.owners.taker a.slot None }

  abbrev es : List Entry
  es = []

  abbrev hand_by : Bool → Hand
  hand_by last = hand_retired last a.slot v.hand

  abbrev part_by : Bool → View
  part_by last = record v { sweeps = dropped a v.sweeps; hand = hand_by last }

  same_part : (last : Bool) → Same v (part_by last)
  same_part last = same_but

  ok : MayMake (limit_of z) r.machine v.caller es
  ok = tt

  far : (b : ArenaId) → r.memory.sessions b.slot ≡ shut b → b ≢ a → b.slot ≢ a.slot
  far = apart z me v l a (z.reach + 1) has ws vs r at

  unfree : (s g : ℕ) → r.memory.sessions s ≡ free g → s ≢ a.slot
  unfree s g f e = let q : free g ≡ shut a = sym f ∙ (ap r.memory.sessions e ∙ shown) in absurd (cc)

  ended_on : (b : ArenaId) → r.memory.sessions b.slot ≡ shut b → b ≢ a → StaysEnded r.memory m' b
  ended_on b f n = record { session = put_else r.memory.sessions a.slot (free next) b.slot (far b f n) ∙ f; maps = λ i. refl; given = refl }

  moved_on : Moved me z v.caller r.memory r.machine r.owners es m' o'
  moved_on = record {
    allowed = ok;
    marks = λ k h. refl;
    callers = callers_stay;
    numbers = numbers_left;
    closers = λ b f h. (refl, tt);
    sweepers = λ b f h n. (refl, ended_on b h (λ e. n (ap r.owners.closer e ∙ mine_now z me v l a (z.reach + 1) has ws vs r at)));
    holders = λ s g f b h. (
      put_else r.owners.holder a.slot me s (unfree s g f),
      put_else r.memory.sessions a.slot (free next) s (unfree s g f) ∙ f,
      b,
      put_else r.owners.taker a.slot None s (unfree s g f),
    );
    taken = λ s k x.
        let n = unfree s x.generation x.session in
        inl (record {
          taker = put_else r.owners.taker a.slot None s n ∙ x.taker;
          generation = x.generation;
          session = put_else r.memory.sessions a.slot (free next) s n ∙ x.session;
          left = x.left;
          bit = x.bit;
        });
    pages = pages_left;
  }

  sweeps_on : (last : Bool) → KeepsSweeps me v (part_by last) r.memory r.machine r.owners m' r.machine o'
  sweeps_on last b f h = put_cases r.memory.sessions a.slot (free next) b.slot
      (λ (x : Session). x ≡ shut b → ((r.owners.closer b ≡ me) × HasSweep b (part_by last))
      ⊎ ((r.memory.sessions b.slot ≡ shut b) × (r.machine.life b ≡ Over) × (r.owners.closer b ≡ r.owners.closer b)
      × (HasSweep b v → HasSweep b (part_by last))))
      (λ e q. absurd (cc))
      (λ n q. inr (
        q,
        h,
        refl,
        (λ (y : HasSweep b v). (
          y.0,
          (y.1.0, dropped_in a y.1.0 v.sweeps y.1.1 (λ e. n (ap (λ (x : ArenaId). x.slot) (sym y.1.2 ∙ e))), y.1.2),
        )),
      ))
      f

  -- whether the generation was the last
  module _ (last : Bool) (is : (next == z.generations) ≡ last) where
    has_left : next < z.generations → last ≡ false
    has_left h = go last is
      where
        go : (b : Bool) → (next == z.generations) ≡ b → b ≡ false
        go true e = absurd (let q = eqb_true next z.generations e in omega arith)
        go false e = refl

    slots_on : KeepsSlots z me v (part_by last) r.memory r.owners m' o'
    slots_on s g low f left b = put_cases r.memory.sessions a.slot (free next) s
        (λ (x : Session). x ≡ free g → ((o'.holder s ≡ me) × KeepsSlot s (part_by last))
        ⊎ ((r.memory.sessions s ≡ free g) × (bit_at r.memory.bits s ≡ 0) × (o'.holder s ≡ r.owners.holder s) × (KeepsSlot s v → KeepsSlot s (part_by last))))
        (λ e q.
        let n : next ≡ g = cc in
        let kept : HasSlot s (hand_by last) = subst (λ (c : Bool). HasSlot s (hand_by c)) (sym (has_left (omega arith))) e in
        inl (ap (put r.owners.holder a.slot me) e ∙ put_here r.owners.holder a.slot me, (l, kept)))
        (λ n q. inr (q, b, put_else r.owners.holder a.slot me s n, (λ y. absurd (subst (HasSlot s) none y.1))))
        f

    bit_now : bit_at r.memory.bits a.slot ≡ 0
    bit_now =
        let y = bit_at-lt r.memory.bits a.slot in
        let n = ended_bit z r.memory r.machine r.world a shown over in
        dite (ℕ_discrete (bit_at r.memory.bits a.slot) 1) (λ e. absurd (n e)) (λ q. omega arith)

    held : next < z.generations → IsHeld z r.memory.bits sessions' (put r.owners.holder a.slot me) me a.slot next
    held left = record {
      owner = put_here r.owners.holder a.slot me;
      slot = (fit z me v l a (z.reach + 1) has ws vs r at).slot;
      bit = bit_now;
      session = put_here r.memory.sessions a.slot (free next);
      left = left;
    }

    in_hand : (b : Bool) → (next == z.generations) ≡ b → HasInHand z r.memory.bits sessions' (put r.owners.holder a.slot me) me (hand_by b)
    in_hand true e = subst (HasInHand z r.memory.bits sessions' (put r.owners.holder a.slot me) me) (sym none) tt
    in_hand false e = (
      a.generation,
      held (let n = eqb_false next z.generations e in let f = (fit z me v l a (z.reach + 1) has ws vs r at).generation in omega arith),
    )

    took_by : (b : Bool) → IsTaker (put r.owners.taker a.slot None) v.caller (hand_by b)
    took_by true = subst (IsTaker (put r.owners.taker a.slot None) v.caller) (sym none) tt
    took_by false = put_here r.owners.taker a.slot None

    retires : Made z ws vs me v (place_at z (session a.slot)) (free_word z.generations next) (part_by last) es none_noted
    retires =
        let t = its z me v l a (z.reach + 1) has ws vs r at in
        let mine_sweep = its_sweep z me v l a (z.reach + 1) has ws vs r at in
        let count = t.passed in
        keeps z ws (set ws (place_at z (session a.slot)) (free_word z.generations next)) vs r me v (part_by last) es none_noted m' o' at l moved_on
        (same_part last) no_draw
        tt
        (pages_retire z (loans_of r.history) r.memory.page_bits r.memory.maps r.memory.cells r.owners.berth r.memory.sessions r.machine.life r.machine.word
        r.machine.given r.world.sessions r.pages a next no_map)
        (λ b h. inr (h, refl, (λ y. y)))
        (sweeps_on last)
        slots_on
        (pages_there me r.owners v (part_by last) (same_part last) refl refl)
        (λ b. refl)
        (numbers_stay z ws vs r me v at l es m' o' (part_by last) moved_on (same_part last) refl (λ k. refl) (λ k. refl) (λ k. refl))
        (shows_session z r.valid ws r.memory r.shows a.slot (free next) 0 (fit z me v l a (z.reach + 1) has ws vs r at).slot)
        (world_retire z r.memory r.machine r.world a shown over
        (ap (λ (x : ArenaId). r.memory.given x.slot) (sym t.arena) ∙ mine_sweep.reset (omega arith)))
        (record {
          inside = mine.work.inside;
          mark = mine.work.mark;
          closes =
              λ c i. closing_on (limit_of z) r.history v.caller r.machine es ok me r.owners o' c (mine.work.closes c i) refl
              tt;
          once = mine.work.once;
          sweeps = λ c i.
              let w = in_dropped a c v.sweeps mine.work.swept_once i in
              let y = mine.work.sweeps c w.0 in
              sweeping_on (limit_of z) v.caller r.memory r.machine es m' ok (λ k b i. (r.world.marked k b i).stands) z me r.owners o' c y refl
              (ended_on c.arena y.session w.1);
          swept_once = once_dropped a v.sweeps mine.work.swept_once;
          hand = in_hand last is;
          took = took_by last;
          pages = record {
            read = mine.work.pages.read;
            claims = mine.work.pages.claims;
            lone = mine.work.pages.lone;
            sweep = subst (HasSwept z r.memory.maps r.memory.cells r.owners.berth me (dropped a v.sweeps)) (sym idle) tt;
          };
        })
        (number_stays z ws vs r me v at l es m' o' (part_by last) moved_on (same_part last) refl (λ k. refl) (λ k. refl) (λ k. refl))

pub retire_steps : (z : Shape) (me : ℕ) (v : View) (a : ArenaId) → v.live ≡ true → v.shape ≡ z → v.hand ≡ nothing → v.swept ≡ unread
    → passed_of v.sweeps a ≡ Some (z.reach + 1)
    → MayStore z (Retires a) me v (place_at z (session a.slot)) (free_word z.generations (a.generation + 1))
unfolding part entries noted
retire_steps z me v a l sh none idle has = record {
  may = λ ws vs r at.
      let is : (a.generation + 1 == z.generations) ≡ (a.generation + 1 == v.shape.generations) =
      ap (λ (x : Shape). a.generation + 1 == x.generations) (sym sh) in
      let g = retires z me v l sh none idle a has ws vs r at (a.generation + 1 == v.shape.generations) is in
      (g.0, g.1, record { gives = g.2; learns = tt });
}
