-- A step of a sweep: it keeps the rule where it keeps the facts of pages and what the sweep says.
use Rattle.std.proofs.Common.{◌≡◌, ◌≢◌, ◌⊎◌, ℕ, ◌+◌, ◌<◌, true, List, set, sym, refl, ap, ◌∙◌, subst, arith, inl, inr, Option, Some, None, get_or, []}
use mathlib.Core.Option.{some}
use mathlib.Core.Logic.{dite}
use native.Mathlib.Decide.{ℕ_discrete}
use lib.ListN.{get_elem?}
use Rattle.fm_words.specs.declared.shape.Shape.{Shape}
use Rattle.fm_base.specs.{declared.arena_id.ArenaId.{ArenaId}, Calls.{Entry}, Finds.{Sweep}}
use Rattle.fm_base_machine.specs.{Functions.{Over, Machine}, Steps.{moved_by}}
use Rattle.fm_rule_facts.specs.{Loans.{loans_of}, Parts.{Swept, wiping}, Views.{View, Fits, In, limit_of}, Holds.{holds_of, all_holds}}
use Rattle.fm_rule_facts.specs.{Closes.{passed_of, advanced, one_more}, Steps.{none_noted}}
use Rattle.fm_rule_facts.specs.Facts.{PoolWords, Owners, shut, Berth, loose, claimed, mapped, unmapped, IsAt, IsOnce, IsNext, HasSwept, HasPage, IsSweeping, HasSweep, Owns, Shows, World, Rule}
use Rattle.fm_rule_facts.{specs.Moves.{MayMake, MayLend, NoEnd, Moved, KeepsPages}, proofs.{Founds.{no_draw}, Sessions.{ended_apart}, Retiring.{ended_fits}}}
use Rattle.fm_rule_facts.proofs.{Ruling.{PagesAfter, keeps}, Leaving.{berths_moved}, Shown.{shows_same}}
use Rattle.fm_rule_steps.proofs.{Closes.{Found, passed_of-found, count_of, in_advanced, advanced_in}, Knowing.{own, closes_still}}
use Rattle.fm_rule_steps.proofs.{Staying.{same_but, numbers_stay, number_stays}, Plain.{Made}}

-- where the sweep of the arena has come so far
module _ (z : Shape) (me : ℕ) (v : View) (l : v.live ≡ true) (a : ArenaId) (k : ℕ) (has : passed_of v.sweeps a ≡ Some k)
    (ws : List ℕ) (vs : List View) (r : Rule z ws vs) (at : get_elem? vs me ≡ some v) where
  abbrev pub mine : Owns z r.history r.memory r.machine r.owners me v
  mine = own z ws vs r me v at l

  -- the sweep that was found
  pub its : Found a k v.sweeps
  its = passed_of-found v.sweeps a k has

  -- what is known of it
  pub its_sweep : IsSweeping z r.memory r.machine r.owners me its.walk
  its_sweep = mine.work.sweeps its.walk its.there

  -- its arena has ended
  pub ended_now : r.machine.life a ≡ Over
  ended_now = ap r.machine.life (sym its.arena) ∙ its_sweep.life

  -- the session shows the arena
  pub shut_now : r.memory.sessions a.slot ≡ shut a
  shut_now = subst (λ (b : ArenaId). r.memory.sessions b.slot ≡ shut b) its.arena its_sweep.session

  -- the sweep is at this seat
  pub mine_now : r.owners.closer a ≡ me
  mine_now = ap r.owners.closer (sym its.arena) ∙ its_sweep.owner

  -- another arena that is ended and isn't retired is of another slot
  pub apart : (b : ArenaId) → r.memory.sessions b.slot ≡ shut b → b ≢ a → b.slot ≢ a.slot
  apart b f n e = let q : shut b ≡ shut a = sym f ∙ (ap r.memory.sessions e ∙ shut_now) in n (cc)

  pub not_mine : (b : ArenaId) → r.owners.closer b ≢ me → b ≢ a
  not_mine b n e = n (ap r.owners.closer e ∙ mine_now)

  -- the arena has a slot
  pub fit : Fits z a
  fit = ended_fits z r.memory r.machine r.world a shut_now ended_now

  -- each sweep of the arena is this one
  pub its_count : (b : Sweep) → In b v.sweeps → b.arena ≡ a → b.passed ≡ k
  its_count b j e = count_of v.sweeps a k b j e has mine.work.swept_once

  -- the part is its next one
  pub next_here : IsNext v.sweeps a k
  next_here = record { sweep = its.walk; there = its.there; arena = its.arena; passed = its.passed }

  -- what is changed of the pool's words
  abbrev pub memory_of : (bits : ℕ → ℕ) (maps : ℕ → ℕ → Option ℕ) (cells : ℕ → ℕ → ℕ) (given : ℕ → ℕ) → PoolWords
  memory_of bits maps cells given = record r.memory { page_bits = bits; maps = maps; cells = cells; given = given }

  -- what a step of the sweep does, and what the view has of its sweeps then
  pub record Sweeping (i x : ℕ) (bits : ℕ → ℕ) (maps : ℕ → ℕ → Option ℕ) (cells : ℕ → ℕ → ℕ) (given : ℕ → ℕ) (berth : ℕ → Berth) (cs : List Sweep) (s : Swept)
      (es : List Entry) : Type 0 where
    pub may : MayMake (limit_of z) r.machine v.caller es
    pub ends : (b : ArenaId) → NoEnd es b
    pub stays : moved_by r.machine es ≡ r.machine
    pub same_maps : (b : ℕ) → b ≢ a.slot → (n : ℕ) → maps b n ≡ r.memory.maps b n
    pub same_given : (b : ℕ) → b ≢ a.slot → given b ≡ r.memory.given b
    pub others : (p j : ℕ) → IsAt j (r.owners.berth p) → j ≢ me → (berth p ≡ r.owners.berth p) × ((w : ℕ) → cells p w ≡ r.memory.cells p w)
    pub claims : (p : ℕ) → r.owners.berth p ≡ claimed me → berth p ≡ claimed me
    pub lends : MayLend z r.machine (loans_of r.history) es
    pub pages : PagesAfter z r.history (memory_of bits maps cells given) r.machine (record r.owners { berth = berth }) es
    pub there : (c : Sweep) → In c v.sweeps → (d : Sweep) × In d cs × (d.arena ≡ c.arena)
    pub keep : KeepsPages me v (record v { sweeps = cs; swept = s }) r.owners (record r.owners { berth = berth })
    pub shows : Shows z (set ws i x) (memory_of bits maps cells given)
    pub world : World z (memory_of bits maps cells given) r.machine
    pub sweeps : (c : Sweep) → In c cs → IsSweeping z (memory_of bits maps cells given) r.machine (record r.owners { berth = berth }) me c
    pub once : IsOnce (λ (c : Sweep). c.arena) cs
    pub of_page : HasSwept z maps cells berth me cs s

  -- such a step keeps the rule
  pub sweep_on : (i x : ℕ) (bits : ℕ → ℕ) (maps : ℕ → ℕ → Option ℕ) (cells : ℕ → ℕ → ℕ) (given : ℕ → ℕ) (berth : ℕ → Berth) (cs : List Sweep) (s : Swept)
      (es : List Entry)
      → Sweeping i x bits maps cells given berth cs s es → Made z ws vs me v i x (record v { sweeps = cs; swept = s }) es none_noted
  sweep_on i x bits maps cells given berth cs s es q =
      let m' : PoolWords = memory_of bits maps cells given in
      let o' : Owners = record r.owners { berth = berth } in
      let p : View = record v { sweeps = cs; swept = s } in
      let d : Moved me z v.caller r.memory r.machine r.owners es m' o' =
      berths_moved q.may (λ b f h. q.ends b)
      (λ b f h n. let far = apart b h (not_mine b n) in record { session = h; maps = q.same_maps b.slot far; given = q.same_given b.slot far })
      (record {
        others = q.others;
        stay = λ b n p st e. q.same_maps b.slot (ended_apart z r.memory.sessions r.machine.life r.world.sessions a b shut_now ended_now st) n ∙ e;
      }) in
      keeps z ws (set ws i x) vs r me v p es none_noted m' o' at l d same_but no_draw q.lends q.pages
      (λ b h. inr (ap (λ (t : Machine). t.life b) (sym q.stays) ∙ h, refl, (λ y. y)))
      (λ b f h. inr (
        f,
        ap (λ (t : Machine). t.life b) (sym q.stays) ∙ h,
        refl,
        (λ (y : HasSweep b v). let w = q.there y.1.0 y.1.1 in
            (y.0, (w.0, w.1, w.2 ∙ y.1.2))),
      ))
      (λ k g low f left b. inr (f, b, refl, (λ y. y)))
      q.keep
      (λ b. ap (λ (t : Machine). holds_of b v + all_holds b t) (sym q.stays))
      (numbers_stay z ws vs r me v at l es m' o' p d same_but refl (λ k. refl) (λ k. refl) (λ k. refl))
      q.shows
      (subst (World z m') (sym q.stays) q.world)
      (record {
        inside = ap (λ (t : Machine). t.inside v.caller) q.stays ∙ mine.work.inside;
        mark = mine.work.mark;
        closes = closes_still z ws vs r me v at l es q.may q.ends (λ b. refl);
        once = mine.work.once;
        sweeps = λ c j. subst (λ (t : Machine). IsSweeping z m' t o' me c) (sym q.stays) (q.sweeps c j);
        swept_once = q.once;
        hand = mine.work.hand;
        took = mine.work.took;
        pages = record {
          read = λ b e y j. q.same_maps b.slot (inside_apart b (mine.work.inside ∙ e)) y.part ∙ mine.work.pages.read b e y j;
          claims = λ n j. q.claims n (mine.work.pages.claims n j);
          lone = mine.work.pages.lone;
          sweep = q.of_page;
        };
      })
      (number_stays z ws vs r me v at l es m' o' p d same_but refl (λ k. refl) (λ k. refl) (λ k. refl))
    where
      inside_apart : (b : ArenaId) → r.machine.inside v.caller ≡ Some b → b.slot ≢ a.slot
      inside_apart b e = ended_apart z r.memory.sessions r.machine.life r.world.sessions a b shut_now ended_now (r.world.marked v.caller b e).stands

  -- a step that changes no word keeps the rule
  pub sweep_reads : (i : ℕ) (cs : List Sweep) (s : Swept) → ((c : Sweep) → In c v.sweeps → (d : Sweep) × In d cs × (d.arena ≡ c.arena))
      → ((q : ℕ) (b : Berth) → HasPage q b v → HasPage q b (record v { sweeps = cs; swept = s }))
      → ((c : Sweep) → In c cs
      → IsSweeping z (memory_of r.memory.page_bits r.memory.maps r.memory.cells r.memory.given) r.machine (record r.owners { berth = r.owners.berth }) me c)
      → IsOnce (λ (c : Sweep). c.arena) cs → HasSwept z r.memory.maps r.memory.cells r.owners.berth me cs s
      → Made z ws vs me v i (get_or ws i 0) (record v { sweeps = cs; swept = s }) [] none_noted
  sweep_reads i cs s there keep sweeps once page =
      sweep_on i (get_or ws i 0) r.memory.page_bits r.memory.maps r.memory.cells r.memory.given r.owners.berth cs s [] (record {
        may = tt;
        ends = λ b. tt;
        stays = refl;
        same_maps = λ b n i. refl;
        same_given = λ b n. refl;
        others = λ p j h n. (refl, λ w. refl);
        claims = λ p h. h;
        lends = tt;
        pages = r.pages;
        there = there;
        keep = λ q j b. inr (refl, keep q (r.owners.berth q));
        shows = shows_same z r.valid ws r.memory r.shows i;
        world = r.world;
        sweeps = sweeps;
        once = once;
        of_page = page;
      })

  -- the same sweeps, where parts that had no page have none
  pub sweeps_kept : (bits : ℕ → ℕ) (maps : ℕ → ℕ → Option ℕ) (cells : ℕ → ℕ → ℕ) (berth : ℕ → Berth)
      → ((b n : ℕ) → r.memory.maps b n ≡ None → maps b n ≡ None) → (c : Sweep) → In c v.sweeps
      → IsSweeping z (memory_of bits maps cells r.memory.given) r.machine (record r.owners { berth = berth }) me c
  sweeps_kept bits maps cells berth none c j =
      let y = mine.work.sweeps c j in
      record {
        owner = y.owner;
        life = y.life;
        session = y.session;
        parts = λ n h. none c.arena.slot n (y.parts n h);
        count = y.count;
        reset = y.reset;
      }

  -- the sweep has one part more behind it, which has no page
  pub sweeps_more : (bits : ℕ → ℕ) (maps : ℕ → ℕ → Option ℕ) (cells : ℕ → ℕ → ℕ) (berth : ℕ → Berth)
      → ((b n : ℕ) → r.memory.maps b n ≡ None → maps b n ≡ None) → maps a.slot k ≡ None → k < z.reach → (c : Sweep) → In c (advanced a v.sweeps)
      → IsSweeping z (memory_of bits maps cells r.memory.given) r.machine (record r.owners { berth = berth }) me c
  sweeps_more bits maps cells berth none here low c j = let w = in_advanced a c v.sweeps mine.work.swept_once j in onward w.before w.there w.how
    where
      onward : (b : Sweep) → In b v.sweeps → ((b.arena ≡ a) × (c ≡ one_more b)) ⊎ ((c ≡ b) × (c.arena ≢ a))
          → IsSweeping z (memory_of bits maps cells r.memory.given) r.machine (record r.owners { berth = berth }) me c
      onward b i (inr e) = subst (IsSweeping z (memory_of bits maps cells r.memory.given) r.machine (record r.owners { berth = berth }) me) (sym e.0)
          (sweeps_kept bits maps cells berth none b i)
      onward b i (inl q) =
          let y = mine.work.sweeps b i in
          let g = its_count b i q.0 in
          subst (IsSweeping z (memory_of bits maps cells r.memory.given) r.machine (record r.owners { berth = berth }) me) (sym q.1) (record {
            owner = y.owner;
            life = y.life;
            session = y.session;
            parts = λ n h. dite (ℕ_discrete n k)
                (λ e. (λ i. maps (q.0 i).slot (e i)) ∙ here)
                (λ ne. none b.arena.slot n (y.parts n (omega arith)));
            count = λ h. y.count (omega arith);
            reset = λ h. absurd (omega arith);
          })

  -- where one has a part more behind it, the same arenas are swept
  pub visits : (c : Sweep) → In c v.sweeps → (d : Sweep) × In d (advanced a v.sweeps) × (d.arena ≡ c.arena)
  visits c j = let w = advanced_in a c v.sweeps j in (w.0, w.1, w.2)

  -- and where nothing changes
  pub stays_there : (c : Sweep) → In c v.sweeps → (d : Sweep) × In d v.sweeps × (d.arena ≡ c.arena)
  stays_there c j = (c, j, refl)

  -- no page is in the hand of this sweep
  pub not_wiping : (s : Swept) → v.swept ≡ s → ((b : ArenaId) (i p w : ℕ) → s ≢ wiping b i p w) → (q : ℕ) (b : Berth) (p : View) → p.live ≡ v.live
      → p.pages ≡ v.pages
      → HasPage q b v → HasPage q b p
  not_wiping s e n q loose p lv ps h = h
  not_wiping s e n q (claimed j) p lv ps h = (lv ∙ h.0, subst (In q) (sym ps) h.1)
  not_wiping s e n q (mapped c i) p lv ps h = h
  not_wiping s e n q (unmapped j b i) p lv ps h = absurd (n b i q h.1.0 (sym e ∙ h.1.1))
