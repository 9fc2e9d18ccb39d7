-- The step that visits a mark for a close.
use Rattle.std.proofs.Common.{◌≡◌, ◌≢◌, ◌⊎◌, ℕ, ◌+◌, ◌<◌, ◌==◌, Bool, true, false, List, [], ◌∷◌, set, get_or, sym, refl, ap, ◌∙◌, subst, arith, inl, inr, ⊎_elim, Some, Option}
use mathlib.Core.Option.{some}
use mathlib.Core.Logic.{dite}
use native.Mathlib.Decide.{ℕ_discrete}
use lib.ListN.{get_elem?}
use Rattle.fm_words.specs.{declared.shape.Shape.{Shape}, Places.{at as place_at, mark}}
use Rattle.fm_base.specs.{declared.{caller.Caller.{Caller}, arena_id.ArenaId.{ArenaId}}, Calls.{End, Fine, Entry, entry_of}}
use Rattle.fm_base.specs.Finds.{Find, Close, Sweep, Visits as Visiting}
use Rattle.fm_base_machine.{specs.{Functions.{Closes, Over, put_at}, Steps.{moved_by}}, proofs.Putting.{at_here, at_other, at_cases}}
use Rattle.fm_rule_facts.specs.{declared.step.Step.TheVariants.{Visits}, Views.{View, In, limit_of}, Words.{mark_of, own_word}}
use Rattle.fm_rule_facts.specs.Closes.{walk_of, passed_of, advanced, dropped, one_more, visit_by, closes_after, sweeps_after, visit_entries}
use Rattle.fm_rule_facts.specs.{Steps.{part, entries, noted, note_of}, Facts.{shut, IsClosing, IsSweeping, HasClose, HasSweep, Owns, Rule, Berth, HasSwept}}
use Rattle.fm_rule_facts.{specs.Moves.{MayMake, Moved, Same, MayStep}, proofs.{Keeping.{closing_on, sweeping_on}, Founds.{NoDraw, note_no_draw}}}
use Rattle.fm_rule_facts.{proofs.{Worlds.{world_end}, Living.{pages_end}, Shown.{shows_same}}, specs.{Loans.{loans_of}, Parts.{Swept, unread, named, wiping}}}
use Rattle.fm_rule_facts.{proofs.{Ruling.{keeps}, Gripping.{same_handles}, Leaving.{calls_moved, stays_ended}}, specs.Holds.{one_alive}}
use Rattle.fm_rule_steps.proofs.{Quiet.{looks_with}, Knowing.{own}, Staying.{pages_there, same_but, sweeps_still, slots_still, numbers_stay, number_stays}}
use Rattle.fm_rule_steps.proofs.{Plain.{Made}, Reading.{eqb_true, eqb_false}}
use Rattle.fm_rule_steps.proofs.Closes.{Found, passed_of-found, count_of, in_advanced, advanced_in, once_advanced, in_dropped, dropped_in, once_dropped}

-- a sweep is there still where another one begins
more_swept : (z : Shape) (maps : ℕ → ℕ → Option ℕ) (cells : ℕ → ℕ → ℕ) (berth : ℕ → Berth) (j : ℕ) (c : Sweep) (cs : List Sweep) (s : Swept)
    → HasSwept z maps cells berth j cs s → HasSwept z maps cells berth j (c ∷ cs) s
more_swept z maps cells berth j c cs unread h = tt
more_swept z maps cells berth j c cs (named a i p) h =
    let n = h.0 in (record { sweep = n.sweep; there = inr n.there; arena = n.arena; passed = n.passed }, h.1)
more_swept z maps cells berth j c cs (wiping a i p w) h =
    let n = h.next in
    record {
      next = record { sweep = n.sweep; there = inr n.there; arena = n.arena; passed = n.passed };
      owner = h.owner;
      empty = h.empty;
      wiped = h.wiped;
    }

module _ (z : Shape) (me : ℕ) (v : View) (l : v.live ≡ true) (sh : v.shape ≡ z) (a : ArenaId) (k : ℕ) (has : passed_of v.closes a ≡ Some k)
    (low : k < z.passes)
    (ws : List ℕ) (vs : List View) (r : Rule z ws vs) (at : get_elem? vs me ≡ some v) where
  abbrev i : ℕ
  i = place_at z (mark k)

  abbrev found : ℕ
  found = get_or ws i 0

  abbrev fs : ℕ → List Find
  fs = note_of (Visiting a k) found v

  no_draws : NoDraw fs
  no_draws = note_no_draw (Visiting a k) found v refl refl refl refl

  abbrev mine : Owns z r.history r.memory r.machine r.owners me v
  mine = own z ws vs r me v at l

  -- the close of the arena
  its : Found a k v.closes
  its = passed_of-found v.closes a k has

  its_closing : IsClosing r.machine r.owners me its.walk
  its_closing = mine.work.closes its.walk its.there

  closes_now : r.machine.life a ≡ Closes
  closes_now = ap r.machine.life (sym its.arena) ∙ its_closing.life

  closer_me : r.owners.closer a ≡ me
  closer_me = ap r.owners.closer (sym its.arena) ∙ its_closing.owner

  -- a mark that doesn't name the arena is of callers that are elsewhere
  elsewhere : found ≢ mark_of a → (c : Caller) → c.number ≡ k → r.machine.inside c ≢ Some a
  elsewhere n c e w = n (r.shows.marks k low ∙ (ap (λ (x : ℕ). own_word (r.memory.marks x)) (sym e) ∙ ap own_word (r.world.marked c a w).mark))

  -- the mark names the arena
  stays : Made z ws vs me v i found v [] fs
  stays = looks_with z ws vs r me v at l i fs no_draws

  -- the close has visited one mark more
  walks : found ≢ mark_of a → Made z ws vs me v i found (record v { closes = advanced a v.closes }) [] fs
  walks n =
      let p : View = record v { closes = advanced a v.closes } in
      let same : Same v p = same_but in
      let d : Moved me z v.caller r.memory r.machine r.owners [] r.memory r.owners = calls_moved tt (λ b f h. tt) in
      keeps z ws (set ws i found) vs r me v p [] fs r.memory r.owners at l d same no_draws
      tt r.pages
      (λ b h. inr (h, refl, (λ (y : HasClose b v). let w = advanced_in a y.1.0 v.closes y.1.1 in (y.0, (w.0, w.1, w.2 ∙ y.1.2)))))
      (sweeps_still me v p r.memory r.machine r.owners r.memory r.machine r.owners same refl (λ b f. refl) (λ b f h. (f, h)))
      (slots_still z me v p r.memory r.owners r.memory r.owners same refl (λ s. refl) (λ s g f. f) refl)
      (pages_there me r.owners v p same refl refl)
      (λ b. refl)
      (numbers_stay z ws vs r me v at l [] r.memory r.owners p d same refl (λ k. refl) (λ k. refl) (λ k. refl))
      (shows_same z r.valid ws r.memory r.shows i) r.world
      (record {
        inside = mine.work.inside;
        mark = mine.work.mark;
        closes = λ c j. let w = in_advanced a c v.closes mine.work.once j in onward c w.before (mine.work.closes w.before w.there) w.there w.how;
        once = once_advanced a v.closes mine.work.once;
        sweeps = mine.work.sweeps;
        swept_once = mine.work.swept_once;
        hand = mine.work.hand;
        took = mine.work.took;
        pages = mine.work.pages;
      })
      (number_stays z ws vs r me v at l [] r.memory r.owners p d same refl (λ k. refl) (λ k. refl) (λ k. refl))
    where
      -- the close of an arena is the one that was found
      its_count : (b : Close) → In b v.closes → b.arena ≡ a → b.passed ≡ k
      its_count b j e = count_of v.closes a k b j e has mine.work.once

      onward : (c b : Close) → IsClosing r.machine r.owners me b → In b v.closes → ((b.arena ≡ a) × (c ≡ one_more b)) ⊎ ((c ≡ b) × (c.arena ≢ a))
          → IsClosing r.machine r.owners me c
      onward c b s j (inr e) = subst (IsClosing r.machine r.owners me) (sym e.0) s
      onward c b s j (inl q) = subst (IsClosing r.machine r.owners me) (sym q.1) (record {
        owner = s.owner;
        life = s.life;
        passed = λ w h. dite (ℕ_discrete w.number k)
            (λ e p. elsewhere n w e (p ∙ ap Some q.0))
            (λ far. s.passed w (let g = its_count b j q.0 in omega arith));
      })

  -- it was the last: nobody is under way, and the arena ends
  ends : found ≢ mark_of a → k + 1 ≡ z.passes → Made z ws vs me v i found
      (record v { closes = dropped a v.closes; sweeps = walk_of a 0 ∷ v.sweeps }) (entry_of v.caller (End a) Fine ∷ []) fs
  ends n top =
      let nobody : (c : Caller) → r.machine.inside c ≢ Some a = (λ c p.
      let below = (r.world.marked c a p).number in
      dite (ℕ_discrete c.number k)
      (λ e. elsewhere n c e p)
      (λ far. its_closing.passed c (let g = its.passed in omega arith) (p ∙ ap Some (sym its.arena)))) in
      let es : List Entry = entry_of v.caller (End a) Fine ∷ [] in
      let p : View = record v { closes = dropped a v.closes; sweeps = walk_of a 0 ∷ v.sweeps } in
      let ok : MayMake (limit_of z) r.machine v.caller es = (refl, (closes_now, nobody), refl, tt) in
      let same : Same v p = same_but in
      let d : Moved me z v.caller r.memory r.machine r.owners es r.memory r.owners =
      calls_moved ok (λ b f h. ((λ e. h (ap r.owners.closer (sym e ∙ sym its.arena) ∙ its_closing.owner)), tt)) in
      let other : (b : ArenaId) → put_at r.machine.life a Over b ≡ Closes → b ≢ a =
      (λ b. at_cases r.machine.life a Over b (λ x. x ≡ Closes → b ≢ a) (λ e q. absurd (cc)) (λ ne q. ne)) in
      keeps z ws (set ws i found) vs r me v p es fs r.memory r.owners at l d same no_draws
      (tt, tt)
      (pages_end z (loans_of r.history) r.memory.page_bits r.memory.maps r.memory.cells r.owners.berth r.memory.sessions r.machine.life r.machine.word
      r.machine.given r.world.sessions r.pages a closes_now)
      (λ b h. let ne = other b h in inr (
        sym (at_other r.machine.life a Over b ne)
            ∙ h,
        refl,
        (λ (y : HasClose b v). (y.0, (y.1.0, dropped_in a y.1.0 v.closes y.1.1 (λ e. ne (sym y.1.2 ∙ e)), y.1.2))),
      ))
      (λ b f. at_cases r.machine.life a Over b
      (λ x. x ≡ Over → ((r.owners.closer b ≡ me) × HasSweep b p)
      ⊎ ((r.memory.sessions b.slot ≡ shut b) × (r.machine.life b ≡ Over) × (r.owners.closer b ≡ r.owners.closer b) × (HasSweep b v → HasSweep b p)))
      (λ e q. inl (ap r.owners.closer e ∙ closer_me, (l, (walk_of a 0, inl refl, sym e))))
      (λ ne q. inr (f, q, refl, (λ y. (y.0, (y.1.0, inr y.1.1, y.1.2))))))
      (slots_still z me v p r.memory r.owners r.memory r.owners same refl (λ s. refl) (λ s g f. f) refl)
      (pages_there me r.owners v p same refl refl)
      (same_handles v l r.machine a Over (λ k. sym (ap one_alive closes_now)))
      (numbers_stay z ws vs r me v at l es r.memory r.owners p d same refl (λ k. refl) (λ k. refl) (λ k. refl))
      (shows_same z r.valid ws r.memory r.shows i) (world_end z r.memory r.machine r.world a closes_now nobody)
      (record {
        inside = mine.work.inside;
        mark = mine.work.mark;
        closes = λ c j.
            let y = in_dropped a c v.closes mine.work.once j in
            closing_on (limit_of z) r.history v.caller r.machine es ok me r.owners r.owners c (mine.work.closes c y.0) refl
            ((λ e. y.1 (sym e)), tt);
        once = once_dropped a v.closes mine.work.once;
        sweeps = λ c. ⊎_elim
            (λ (e : c ≡ walk_of a 0). subst (IsSweeping z r.memory (moved_by r.machine es) r.owners me) (sym e) (record {
              owner = closer_me;
              life = at_here r.machine.life a Over;
              session = r.world.sessions.closing_shown a closes_now;
              parts = λ i h. absurd (omega arith);
              count = λ h. r.world.givens.shown a (inr closes_now);
              reset = λ h. absurd (omega arith);
            }))
            (λ (j : In c v.sweeps).
            let y = mine.work.sweeps c j in
            sweeping_on (limit_of z) v.caller r.memory r.machine es r.memory ok
            (λ k b i. (r.world.marked k b i).stands) z me r.owners r.owners c y refl (stays_ended c.arena y.session));
        swept_once = (
          (λ c j e.
              let y : r.machine.life a ≡ Over = ap r.machine.life (sym e) ∙ (mine.work.sweeps c j).life in
              let q : Closes ≡ Over = sym closes_now ∙ y in absurd (cc)),
          mine.work.swept_once,
        );
        hand = mine.work.hand;
        took = mine.work.took;
        pages = record {
          read = mine.work.pages.read;
          claims = mine.work.pages.claims;
          lone = mine.work.pages.lone;
          sweep = more_swept z r.memory.maps r.memory.cells r.owners.berth me (walk_of a 0) v.sweeps v.swept mine.work.pages.sweep;
        };
      })
      (number_stays z ws vs r me v at l es r.memory r.owners p d same refl (λ k. refl) (λ k. refl) (λ k. refl))

  visits : (b c : Bool) → (found == mark_of a) ≡ b → (k + 1 == v.shape.passes) ≡ c
      → Made z ws vs me v i found (record v {
        closes = closes_after a (visit_by b c) v.closes;
        sweeps = sweeps_after a (visit_by b c) v.sweeps;
      }) (visit_entries a (visit_by b c) v.caller) fs
  visits true c e q = stays
  visits false true e q = ends (eqb_false found (mark_of a) e) (eqb_true (k + 1) v.shape.passes q ∙ ap (λ (x : Shape). x.passes) sh)
  visits false false e q = walks (eqb_false found (mark_of a) e)

pub visit_steps : (z : Shape) (me : ℕ) (v : View) (a : ArenaId) (k : ℕ) → v.live ≡ true → v.shape ≡ z → passed_of v.closes a ≡ Some k → k < z.passes
    → MayStep z (Visits a k) me v (place_at z (mark k)) (λ n. n)
unfolding part entries noted
visit_steps z me v a k l sh has low = record {
  may = λ ws vs r at.
      let x : ℕ = get_or ws (place_at z (mark k)) 0 in
      let g = visits z me v l sh a k has low ws vs r at (x == mark_of a) (k + 1 == v.shape.passes) refl refl in
      (g.0, g.1, record { gives = g.2; learns = λ e. r.shows.marks k low ∙ ap own_word (ap r.memory.marks e ∙ ((r.each me v at).owns l).work.mark) });
}
