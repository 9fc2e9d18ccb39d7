-- The count of given bytes in a sweep: it is read at the beginning, and reset at the end.
use Rattle.std.proofs.Common.{◌≡◌, ◌≢◌, ◌⊎◌, ℕ, ◌<◌, ◌≤◌, true, List, [], set, get_or, sym, refl, ap, ◌∙◌, subst, arith, inl, inr, Option, Some, None}
use mathlib.Core.Option.{some}
use mathlib.Core.Logic.{dite}
use native.Mathlib.Decide.{ℕ_discrete}
use lib.ListN.{get_elem?}
use lib.Seq.{set-get_or}
use Rattle.fm_base.specs.{Arenas.{arena_of}, Histories.{state_after}, declared.arena_id.ArenaId.{ArenaId}, Finds.{Sweep}}
use Rattle.fm_words.specs.{declared.shape.Shape.{Shape}, Places.{at as place_at, given as given_place}}
use Rattle.fm_base_machine.{specs.Functions.{put}, proofs.Putting.{put_here, put_else, put_cases}}
use Rattle.fm_rule_facts.specs.{declared.step.Step.TheVariants.{SweepsGiven, ResetsGiven}, Parts.{unread}, Views.{View, In, given_of, limit_of}}
use Rattle.fm_rule_facts.specs.{Closes.{passed_of, advanced, one_more}, Steps.{part, entries, noted, none_noted}}
use Rattle.fm_rule_facts.{specs.{Facts.{PoolWords, HasSwept, IsSweeping, Owns, Rule}, Moves.{MayStep, MayStore}}, proofs.Retiring.{world_reset}}
use Rattle.fm_rule_facts.proofs.{Shown.{shows_given}, Keeping.{set_there}, Ruling.{page_like}}
use Rattle.fm_rule_steps.proofs.{Closes.{in_advanced, once_advanced}, Quiet.{looks_on}, Knowing.{own}, Plain.{Made}}
use Rattle.fm_rule_steps.proofs.Sweeping.{its, its_sweep, ended_now, shut_now, apart, fit, its_count, memory_of, sweep_on, visits}

module _ (z : Shape) (me : ℕ) (v : View) (l : v.live ≡ true) (a : ArenaId) (k : ℕ) (has : passed_of v.sweeps a ≡ Some k)
    (ws : List ℕ) (vs : List View) (r : Rule z ws vs) (at : get_elem? vs me ≡ some v) where
  abbrev mine : Owns z r.history r.memory r.machine r.owners me v
  mine = own z ws vs r me v at l

  slot_low : a.slot < z.slots
  slot_low = (fit z me v l a k has ws vs r at).slot

  -- ---- the given count is reset

  resets : v.swept ≡ unread → k ≡ z.reach
      → Made z ws vs me v (place_at z (given_place a.slot)) 0 (record v { sweeps = advanced a v.sweeps; swept = v.swept }) [] none_noted
  resets idle full = sweep_on z me v l a k has ws vs r at
      (place_at z (given_place a.slot)) 0 r.memory.page_bits r.memory.maps r.memory.cells given r.owners.berth (advanced a v.sweeps) v.swept [] (record {
        may = tt;
        ends = λ b. tt;
        stays = refl;
        same_maps = λ b n i. refl;
        same_given = λ b n. put_else r.memory.given a.slot 0 b n;
        others = λ q j b n. (refl, λ w. refl);
        claims = λ q e. e;
        lends = tt;
        pages = r.pages;
        there = visits z me v l a k has ws vs r at;
        keep = λ q j b. inr (refl, page_like q (r.owners.berth q) v (record v { sweeps = advanced a v.sweeps; swept = v.swept }) refl refl refl);
        shows = shows_given z r.valid ws r.memory r.shows a.slot 0 slot_low;
        world = world_reset z r.memory r.machine r.world a (shut_now z me v l a k has ws vs r at) (ended_now z me v l a k has ws vs r at);
        sweeps = λ c j. let w = in_advanced a c v.sweeps mine.work.swept_once j in onward c w.before (mine.work.sweeps w.before w.there) w.there w.how;
        once = once_advanced a v.sweeps mine.work.swept_once;
        of_page = subst (HasSwept z r.memory.maps r.memory.cells r.owners.berth me (advanced a v.sweeps)) (sym idle) tt;
      })
    where
      given : ℕ → ℕ
      given = put r.memory.given a.slot 0

      m' : PoolWords
      m' = memory_of z me v l a k has ws vs r at r.memory.page_bits r.memory.maps r.memory.cells given

      none_at : (n : ℕ) → n ≡ z.reach → r.memory.maps a.slot n ≡ None
      none_at n e = go (r.memory.maps a.slot n) refl
        where
          go : (o : Option ℕ) → r.memory.maps a.slot n ≡ o → r.memory.maps a.slot n ≡ None
          go None h = h
          go (Some p) h = absurd (let y = (r.pages.mapped_is p a.slot n (r.pages.map_is a.slot n p h)).part in omega arith)

      onward : (c b : Sweep) → IsSweeping z r.memory r.machine r.owners me b → In b v.sweeps
          → ((b.arena ≡ a) × (c ≡ one_more b)) ⊎ ((c ≡ b) × (c.arena ≢ a))
          → IsSweeping z m' r.machine (record r.owners { berth = r.owners.berth }) me c
      onward c b s j (inr e) = subst (IsSweeping z m' r.machine (record r.owners { berth = r.owners.berth }) me) (sym e.0) (record {
        owner = s.owner;
        life = s.life;
        session = s.session;
        parts = s.parts;
        count = λ h. put_else r.memory.given a.slot 0 b.arena.slot
            (apart z me v l a k has ws vs r at b.arena s.session (λ q. e.1 (ap (λ (y : Sweep). y.arena) e.0 ∙ q))) ∙ s.count h;
        reset = λ h. put_cases r.memory.given a.slot 0 b.arena.slot (λ (y : ℕ). y ≡ 0) (λ q. refl) (λ n. s.reset h);
      })
      onward c b s j (inl q) = subst (IsSweeping z m' r.machine (record r.owners { berth = r.owners.berth }) me) (sym q.1) (record {
        owner = s.owner;
        life = s.life;
        session = s.session;
        parts = λ n h. dite (ℕ_discrete n k)
            (λ e. ap (λ (x : ArenaId). r.memory.maps x.slot n) q.0 ∙ none_at n (e ∙ full))
            (λ ne. s.parts n (let g = its_count z me v l a k has ws vs r at b j q.0 in omega arith));
        count = λ h. absurd (let g = its_count z me v l a k has ws vs r at b j q.0 in omega arith);
        reset = λ h. ap (λ (x : ArenaId). given x.slot) q.0 ∙ put_here r.memory.given a.slot 0;
      })

  -- ---- the given count is read

  -- it shows what the arena gave
  its_given : k ≤ z.reach → get_or ws (place_at z (given_place a.slot)) 0 ≡ r.machine.given a
  its_given low = r.shows.given a.slot slot_low
      ∙ subst (λ (b : ArenaId). r.memory.given b.slot ≡ r.machine.given b) (its z me v l a k has ws vs r at).arena
      ((its_sweep z me v l a k has ws vs r at).count (let e = (its z me v l a k has ws vs r at).passed in omega arith))

-- ---- the steps

module _ (z : Shape) (me : ℕ) (v : View) (a : ArenaId) (i : ℕ) (l : v.live ≡ true) (has : passed_of v.sweeps a ≡ Some i) where
  -- how many bytes the arena gave
  pub given_steps : i ≤ z.reach → v.shape ≡ z → MayStep z (SweepsGiven a) me v (place_at z (given_place a.slot)) (λ n. n)
  unfolding part entries noted
  given_steps low sh = record {
    may = λ ws vs r at.
        let place : ℕ = place_at z (given_place a.slot) in
        let x : ℕ = get_or ws place 0 in
        let g = looks_on z ws vs r me v at l place in
        let live' : g.0.live ≡ true = ap (λ (u : View). u.live) g.2.is ∙ l in
        let has' : passed_of g.0.sweeps a ≡ Some i = ap (λ (u : View). passed_of u.sweeps a) g.2.is ∙ has in
        let now = its_given z me g.0 live' a i has' (set ws place x) (set vs me g.0) g.1 (set_there vs me v g.0 at) low in
        let shape' : z ≡ g.0.shape = sym (ap (λ (u : View). u.shape) g.2.is ∙ sh) in
        let seen : (arena_of (state_after (limit_of z) [] g.1.history) a).given ≡ given_of g.0 a =
        (λ j. (arena_of (state_after (limit_of (shape' j)) [] (sym g.3 j)) a).given) in
        let stays : get_or (set ws place x) place 0 ≡ x = ap (λ (xs : List ℕ). get_or xs place 0) (set-get_or ws place 0) in
        (g.0, g.1, record { gives = g.2; learns = sym stays ∙ (now ∙ (g.1.depicts.given a ∙ seen)) });
  }

-- past the last part, the count of given bytes is made 0
pub reset_steps : (z : Shape) (me : ℕ) (v : View) (a : ArenaId) → v.live ≡ true → passed_of v.sweeps a ≡ Some z.reach → v.swept ≡ unread
    → MayStore z (ResetsGiven a) me v (place_at z (given_place a.slot)) 0
unfolding part entries noted
reset_steps z me v a l has idle =
    record { may = λ ws vs r at. let g = resets z me v l a z.reach has ws vs r at idle refl in (g.0, g.1, record { gives = g.2; learns = tt }) }
