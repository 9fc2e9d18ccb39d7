-- The step that opens an arena.
use Rattle.std.{proofs.Common.{◌≡◌, ◌≢◌, ◌⊎◌, ℕ, true, List, set, sym, refl, ap, ◌∙◌, subst, arith, inl, inr, Some, ◌∷◌, []}, specs.Int.{bit_at}}
use mathlib.Core.Option.{some}
use lib.ListN.{get_elem?}
use Rattle.fm_words.specs.{declared.shape.Shape.{Shape}, Places.{at as place_at, session}}
use Rattle.fm_base.specs.{declared.{caller.Caller.{Caller}, arena_id.ArenaId.{ArenaId}}, Arenas.{owner_of}, Calls.{Entry, Open, Fine, entry_of}}
use Rattle.fm_base_machine.specs.{Functions.{Fresh, Lives, Closes, Over, put, put_at}, Steps.{moved_by}}
use Rattle.fm_base_machine.proofs.Putting.{put_else, put_cases, at_here, at_cases}
use Rattle.fm_rule_facts.specs.{Hands.{nothing, learnt, HasSlot, IsTaker}, Gone.{IsTakenBy, OpenedBy}, declared.step.Step.TheVariants.{Opens}}
use Rattle.fm_rule_facts.specs.{Views.{View, Fits, limit_of}, Words.{alive_word}, Steps.{part, entries, noted, none_noted}}
use Rattle.fm_rule_facts.specs.Facts.{PoolWords, free, live, shut, IsHeld, HasInHand, HasClose, HasSweep, KeepsSlot, Owns, Rule}
use Rattle.fm_rule_facts.{specs.Moves.{MayMake, StaysEnded, Moved, Same, KeepsSweeps, KeepsSlots, MayStore}, proofs.Keeping.{closing_on, sweeping_on}}
use Rattle.fm_rule_facts.{proofs.{Founds.{no_draw}, Sessions.{open_new}, Worlds.{world_open}, Living.{pages_open}}, specs.Loans.{loans_of}}
use Rattle.fm_rule_facts.{proofs.{Ruling.{page_like, keeps}, Shown.{shows_session}, Gripping.{opened_handles}}, specs.Holds.{handles_with, one_alive}}
use Rattle.fm_rule_facts.proofs.Leaving.{callers_stay, numbers_left, pages_left}
use mathlib.Core.Logic.{dite}
use native.Mathlib.Decide.{ℕ_discrete}
use Rattle.fm_rule_steps.proofs.{Knowing.{own, low}, Staying.{same_but, numbers_stay, number_stays}, Plain.{Made}}

module _ (z : Shape) (me : ℕ) (v : View) (l : v.live ≡ true) (a : ArenaId) (hand : v.hand ≡ learnt a.slot a.generation) (owner : owner_of a ≡ v.caller)
    (ws : List ℕ) (vs : List View) (r : Rule z ws vs) (at : get_elem? vs me ≡ some v) where
  abbrev mine : Owns z r.history r.memory r.machine r.owners me v
  mine = own z ws vs r me v at l

  held : IsHeld z r.memory.bits r.memory.sessions r.owners.holder me a.slot a.generation
  held = subst (HasInHand z r.memory.bits r.memory.sessions r.owners.holder me) hand mine.work.hand

  free_now : r.memory.sessions a.slot ≡ free a.generation
  free_now = held.session

  bit_now : bit_at r.memory.bits a.slot ≢ 1
  bit_now e = let b = held.bit in absurd (omega arith)

  fit : Fits z a
  fit = record {
    slot = held.slot;
    owner = (let h = low z ws vs r me v at l in let e : a.owner ≡ v.caller.number = ap (λ (c : Caller). c.number) owner in omega arith);
    generation = held.left;
  }

  abbrev es : List Entry
  es = entry_of v.caller (Open a) Fine ∷ []

  abbrev m' : PoolWords
  m' = record r.memory { sessions = put r.memory.sessions a.slot (live a); counts = put r.memory.counts a.slot 0 }

  abbrev p : View
  p = record v { hand = nothing; handles = handles_with a v.handles }

  new : r.machine.life a ≡ Fresh
  new = open_new z r.memory.sessions r.machine.life r.world.sessions a free_now

  ok : MayMake (limit_of z) r.machine v.caller es
  ok = (refl, (new, owner), refl, tt)

  ended_on : (b : ArenaId) → r.memory.sessions b.slot ≡ shut b → StaysEnded r.memory m' b
  ended_on b h = record {
    session = put_else r.memory.sessions a.slot (live a) b.slot (λ e.
        let q : r.memory.sessions b.slot ≡ free a.generation = ap r.memory.sessions e ∙ free_now in absurd (cc)) ∙ h;
    maps = λ i. refl;
    given = refl;
  }

  opened_now : put_at r.machine.life a Lives a ≢ Fresh
  opened_now f = let g : Lives ≡ Fresh = sym (at_here r.machine.life a Lives) ∙ f in absurd (cc)

  -- who took the slot opens the arena
  its_open : (s : ℕ) (k : Caller) → s ≡ a.slot → IsTakenBy z r.memory.bits r.memory.sessions r.owners.taker s k
      → OpenedBy (put_at r.machine.life a Lives) s k
  its_open s k e x =
      let t : r.owners.taker a.slot ≡ Some v.caller = subst (IsTaker r.owners.taker v.caller) hand mine.work.took in
      let q : Some v.caller ≡ Some k = sym t ∙ (ap r.owners.taker (sym e) ∙ x.taker) in
      record { arena = a; in_slot = sym e; opened = opened_now; owner = owner ∙ (cc) }

  moved_on : Moved me z v.caller r.memory r.machine r.owners es m' r.owners
  moved_on = record {
    allowed = ok;
    marks = λ k h. refl;
    callers = callers_stay;
    numbers = numbers_left;
    closers = λ b f h. (refl, ((λ h. h), tt));
    sweepers = λ b f h n. (refl, ended_on b h);
    holders = λ s g f b h. (refl, put_else r.memory.sessions a.slot (live a) s (λ e. h (ap r.owners.holder e ∙ held.owner)) ∙ f, b, refl);
    taken = λ s k x. dite (ℕ_discrete s a.slot) (λ e. inr (its_open s k e x)) (λ n. inl (record {
      taker = x.taker;
      generation = x.generation;
      session = put_else r.memory.sessions a.slot (live a) s n ∙ x.session;
      left = x.left;
      bit = x.bit;
    }));
    pages = pages_left;
  }

  -- each sweep is where it was
  sweeps_on : KeepsSweeps me v p r.memory r.machine r.owners m' (moved_by r.machine es) r.owners
  sweeps_on b f = at_cases r.machine.life a Lives b
      (λ x. x ≡ Over → ((r.owners.closer b ≡ me) × HasSweep b p)
      ⊎ ((r.memory.sessions b.slot ≡ shut b) × (r.machine.life b ≡ Over) × (r.owners.closer b ≡ r.owners.closer b) × (HasSweep b v → HasSweep b p)))
      (λ e q. absurd (cc))
      (λ n q. inr (
        put_cases r.memory.sessions a.slot (live a) b.slot (λ x. x ≡ shut b → r.memory.sessions b.slot ≡ shut b) (λ e u. absurd (cc)) (λ m u. u) f,
        q,
        refl,
        (λ y. y),
      ))

  -- the slot in the hand was the one that is opened
  its_slot : (s : ℕ) → KeepsSlot s v → s ≡ a.slot
  its_slot s y = subst (HasSlot s) hand y.1

  slots_on : KeepsSlots z me v p r.memory r.owners m' r.owners
  slots_on s g low f left b = put_cases r.memory.sessions a.slot (live a) s
      (λ x. x ≡ free g → ((r.owners.holder s ≡ me) × KeepsSlot s p)
      ⊎ ((r.memory.sessions s ≡ free g) × (bit_at r.memory.bits s ≡ 0) × (r.owners.holder s ≡ r.owners.holder s) × (KeepsSlot s v → KeepsSlot s p)))
      (λ e q. absurd (cc))
      (λ n q. inr (q, b, refl, (λ y. absurd (n (its_slot s y)))))
      f

  opens : Made z ws vs me v (place_at z (session a.slot)) (alive_word a 0) p es none_noted
  opens =
      let same : Same v p = same_but in
      keeps z ws (set ws (place_at z (session a.slot)) (alive_word a 0)) vs r me v p es none_noted m' r.owners at l moved_on same no_draw (
        tt,
        tt,
      )
      (pages_open z (loans_of r.history) r.memory.page_bits r.memory.maps r.memory.cells r.owners.berth r.memory.sessions r.machine.life r.machine.word
      r.machine.given r.world.sessions r.pages a free_now new)
      (λ b. at_cases r.machine.life a Lives b
      (λ x. x ≡ Closes → ((r.owners.closer b ≡ me) × HasClose b p) ⊎
      ((r.machine.life b ≡ Closes) × (r.owners.closer b ≡ r.owners.closer b) × (HasClose b v → HasClose b p)))
      (λ e q. absurd (cc))
      (λ n q. inr (q, refl, (λ y. y))))
      sweeps_on
      slots_on
      (λ q j b. inr (refl, λ h. page_like q (r.owners.berth q) v p refl refl refl h))
      (opened_handles v l r.machine a (ap one_alive new))
      (numbers_stay z ws vs r me v at l es m' r.owners p moved_on same refl (λ k. refl) (λ k. refl) (λ k. refl))
      (shows_session z r.valid ws r.memory r.shows a.slot (live a) 0 fit.slot)
      (world_open z r.memory r.machine r.world a free_now bit_now fit)
      (record {
        inside = mine.work.inside;
        mark = mine.work.mark;
        closes =
            λ c i. closing_on (limit_of z) r.history v.caller r.machine es ok me r.owners r.owners c (mine.work.closes c i) refl
            ((λ h. h), tt);
        once = mine.work.once;
        sweeps = λ c i.
            let y = mine.work.sweeps c i in
            sweeping_on (limit_of z) v.caller r.memory r.machine es m' ok (λ k b i. (r.world.marked k b i).stands) z me r.owners r.owners c y refl
            (ended_on c.arena y.session);
        swept_once = mine.work.swept_once;
        hand = tt;
        took = tt;
        pages = mine.work.pages;
      })
      (number_stays z ws vs r me v at l es m' r.owners p moved_on same refl (λ k. refl) (λ k. refl) (λ k. refl))

pub open_steps : (z : Shape) (me : ℕ) (v : View) (a : ArenaId) → v.live ≡ true → v.hand ≡ learnt a.slot a.generation → owner_of a ≡ v.caller
    → MayStore z (Opens a) me v (place_at z (session a.slot)) (alive_word a 0)
unfolding part entries noted
open_steps z me v a l hand owner =
    record { may = λ ws vs r at. let g = opens z me v l a hand owner ws vs r at in (g.0, g.1, record { gives = g.2; learns = tt }) }
