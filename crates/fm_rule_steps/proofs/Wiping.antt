-- The way of a page in a sweep: its map word is read and cleared, its words are wiped, and it is given back.
use Rattle.std.proofs.Common.{◌≡◌, ◌≢◌, ◌⊎◌, ℕ, ◌+◌, ◌-◌, ◌*◌, ◌/◌, ◌%◌, ◌^◌, ◌<◌, ◌==◌, Bool, true, false, if◌then◌else◌, List, [], ◌∷◌, get_or, bit_or, sym, refl, ap, ◌∙◌, subst, arith, inl, inr, Option, Some, None}
use Rattle.std.proofs.lemmas.{Bool.{cases_lt}, Nat.{div-mul-add, mod-mul-add}}
use mathlib.Core.Option.{some}
use lib.ListN.{get_elem?}
use Rattle.fm_words.specs.{declared.shape.Shape.{Shape}, Places.{at as place_at, page_bits as bits_place, page_groups, map, page_word}}
use Rattle.fm_base.specs.{declared.arena_id.ArenaId.{ArenaId}, Calls.{Back, Fine, entry_of}}
use Rattle.fm_base_machine.{specs.Functions.{Over, put}, proofs.Putting.{put_here, put_else, put_cases}}
use Rattle.fm_rule_facts.specs.{declared.step.Step.TheVariants.{SweepsMap, Unmaps, Wipes, ReturnsPage}, Loans.{loans_of}, Parts.{unread, named, wiping}}
use Rattle.fm_rule_facts.specs.{Views.{View, IsOver, given_of}, Pages.{IsBlank}, Closes.{passed_of, advanced}}
use Rattle.fm_rule_facts.specs.Steps.{part, entries, noted, none_noted, AreAllGiven}
use Rattle.fm_rule_facts.specs.Facts.{shut, Berth, loose, claimed, mapped, unmapped, IsAt, IsNext, IsWiped, HasSwept, HasPage, Owns, Rule}
use Rattle.fm_rule_facts.{specs.Moves.{MayStep, MayStore}, proofs.{Putting.{two_cases}, Worlds.{world_pages}, Moving.{pages_unmap}, Living.{pages_wipe}}}
use Rattle.fm_rule_facts.proofs.{Returning.{pages_back}, Shown.{shows_map, shows_cell, shows_page_bits}, Groups.{set_here, set_else, page_group}}
use Rattle.fm_rule_steps.proofs.{Closes.{once_advanced}, Reading.{eqb_true, eqb_false, says_none, says_page, says_low}, Knowing.{own, given_over}, Plain.{Made}}
use Rattle.fm_rule_steps.proofs.Sweeping.{ended_now, shut_now, fit, next_here, sweep_on, sweeps_kept, sweeps_more, visits, stays_there, not_wiping, sweep_reads}

-- what was none is none, where one is taken away
none_stays : (f : ℕ → ℕ → Option ℕ) (s i b n : ℕ) → f b n ≡ None → put f s (put (f s) i None) b n ≡ None
none_stays f s i b n e = two_cases f s i None b n (λ (x : Option ℕ). x ≡ None) (λ p q. refl) (λ p. e)

module _ (z : Shape) (me : ℕ) (v : View) (l : v.live ≡ true) (a : ArenaId) (k : ℕ) (has : passed_of v.sweeps a ≡ Some k)
    (ws : List ℕ) (vs : List View) (r : Rule z ws vs) (at : get_elem? vs me ≡ some v) where
  abbrev mine : Owns z r.history r.memory r.machine r.owners me v
  mine = own z ws vs r me v at l

  is_over : r.machine.life a ≡ Over
  is_over = ended_now z me v l a k has ws vs r at

  is_shut : r.memory.sessions a.slot ≡ shut a
  is_shut = shut_now z me v l a k has ws vs r at

  slot_low : a.slot < z.slots
  slot_low = (fit z me v l a k has ws vs r at).slot

  module _ (low : k < z.reach) where
    abbrev map_at : ℕ
    map_at = place_at z (map a.slot k)

    abbrev seen : ℕ
    seen = get_or ws map_at 0

    -- ---- a map word is read

    module _ (idle : v.swept ≡ unread) where
      nothing_held : (q : ℕ) (b : Berth) (p : View) → p.live ≡ v.live → p.pages ≡ v.pages → HasPage q b v → HasPage q b p
      nothing_held = not_wiping z me v l a k has ws vs r at unread idle (λ b i p w e. absurd (cc))

      looks : (b : Bool) → (seen == 0) ≡ b
          → Made z ws vs me v map_at seen
          (record v { swept = if b then unread else named a k (seen - 1); sweeps = if b then advanced a v.sweeps else v.sweeps }) [] none_noted
      looks true e = sweep_reads z me v l a k has ws vs r at map_at (advanced a v.sweeps) unread (visits z me v l a k has ws vs r at)
          (λ q b. nothing_held q b (record v { sweeps = advanced a v.sweeps; swept = unread }) refl refl)
          (sweeps_more z me v l a k has ws vs r at r.memory.page_bits r.memory.maps r.memory.cells r.owners.berth (λ b n h. h)
          (says_none z ws vs r a.slot k slot_low low (eqb_true seen 0 e)) low)
          (once_advanced a v.sweeps mine.work.swept_once) tt
      looks false e = sweep_reads z me v l a k has ws vs r at map_at v.sweeps (named a k (seen - 1)) (stays_there z me v l a k has ws vs r at)
          (λ q b. nothing_held q b (record v { sweeps = v.sweeps; swept = named a k (seen - 1) }) refl refl) mine.work.sweeps mine.work.swept_once
          (next_here z me v l a k has ws vs r at, says_page z ws vs r a.slot k slot_low low (eqb_false seen 0 e))

    -- ---- the page is taken from its map word

    unmaps : (p : ℕ) → v.swept ≡ named a k p → Made z ws vs me v map_at 0 (record v { sweeps = v.sweeps; swept = wiping a k p 0 }) [] none_noted
    unmaps p is =
        let h : IsNext v.sweeps a k × (r.memory.maps a.slot k ≡ Some p) =
        subst (HasSwept z r.memory.maps r.memory.cells r.owners.berth me v.sweeps) is mine.work.pages.sweep in
        let maps' : ℕ → ℕ → Option ℕ = put r.memory.maps a.slot (put (r.memory.maps a.slot) k None) in
        let berth' : ℕ → Berth = put r.owners.berth p (unmapped me a k) in
        let here : r.owners.berth p ≡ mapped a.slot k = r.pages.map_is a.slot k p h.1 in
        let p' : View = record v { sweeps = v.sweeps; swept = wiping a k p 0 } in
        let far : (q j : ℕ) → IsAt j (r.owners.berth q) → q ≢ p = (λ q j b n. subst (IsAt j) (ap r.owners.berth n ∙ here) b) in
        sweep_on z me v l a k has ws vs r at map_at 0 r.memory.page_bits maps' r.memory.cells r.memory.given berth' v.sweeps (wiping a k p 0) [] (record {
          may = tt;
          ends = λ b. tt;
          stays = refl;
          same_maps = λ b n i. (λ j. put_else r.memory.maps a.slot (put (r.memory.maps a.slot) k None) b n j i);
          same_given = λ b n. refl;
          others = λ q j b n. (put_else r.owners.berth p (unmapped me a k) q (far q j b), λ w. refl);
          claims = λ q e. put_else r.owners.berth p (unmapped me a k) q (far q me (subst (IsAt me) (sym e) refl)) ∙ e;
          lends = tt;
          pages =
              pages_unmap z (loans_of r.history) r.memory.page_bits r.memory.maps r.memory.cells r.owners.berth r.memory.sessions r.machine.life r.machine.word
              r.machine.given r.valid.page_words.0 r.world.sessions r.pages me a k p is_over is_shut h.1;
          there = stays_there z me v l a k has ws vs r at;
          keep = λ q j. put_cases r.owners.berth p (unmapped me a k) q
              (λ (c : Berth). IsAt j c → ((j ≡ me) × HasPage q c p')
              ⊎ ((c ≡ r.owners.berth q) × (HasPage q (r.owners.berth q) v → HasPage q (r.owners.berth q) p')))
              (λ n b. inl (sym b, (l, (0, ap (λ (x : ℕ). wiping a k x 0) (sym n)))))
              (λ n b. inr (refl, not_wiping z me v l a k has ws vs r at (named a k p) is (λ c i x w e. absurd (cc)) q (r.owners.berth q) p' refl refl));
          shows = shows_map z r.valid ws r.memory r.shows a.slot k None slot_low low;
          world = world_pages z r.memory r.machine r.world r.memory.page_bits maps' r.memory.cells;
          sweeps = sweeps_kept z me v l a k has ws vs r at r.memory.page_bits maps' r.memory.cells berth' (none_stays r.memory.maps a.slot k);
          once = mine.work.swept_once;
          of_page = record {
            next = next_here z me v l a k has ws vs r at;
            owner = put_here r.owners.berth p (unmapped me a k);
            empty = (λ j. put_here r.memory.maps a.slot (put (r.memory.maps a.slot) k None) j k) ∙ put_here (r.memory.maps a.slot) k None;
            wiped = λ o b w. absurd (omega arith);
          };
        })

    -- ---- a page that the sweep has

    module _ (p w : ℕ) (is : v.swept ≡ wiping a k p w) where
      abbrev held : IsWiped z r.memory.maps r.memory.cells r.owners.berth me v.sweeps a k p w
      held = subst (HasSwept z r.memory.maps r.memory.cells r.owners.berth me v.sweeps) is mine.work.pages.sweep

      page_low : p < z.pages
      page_low = (r.pages.unmapped_is p me k a held.owner).page

      -- a word of it is wiped
      wipes : w < z.page_words → Made z ws vs me v (place_at z (page_word p w)) 0 (record v { sweeps = v.sweeps; swept = wiping a k p (w + 1) }) [] none_noted
      wipes fits =
          let cells' : ℕ → ℕ → ℕ = put r.memory.cells p (put (r.memory.cells p) w 0) in
          let p' : View = record v { sweeps = v.sweeps; swept = wiping a k p (w + 1) } in
          sweep_on z me v l a k has ws vs r at
          (place_at z (page_word p w)) 0 r.memory.page_bits r.memory.maps cells' r.memory.given r.owners.berth v.sweeps (wiping a k p (w + 1)) [] (record {
            may = tt;
            ends = λ b. tt;
            stays = refl;
            same_maps = λ b n i. refl;
            same_given = λ b n. refl;
            others = λ q j b n. (
              refl,
              λ o. (λ i. put_else r.memory.cells p (put (r.memory.cells p) w 0) q
                  (λ e. n (sym (subst (IsAt j) (ap r.owners.berth e ∙ held.owner) b))) i o),
            );
            claims = λ q e. e;
            lends = tt;
            pages =
                pages_wipe z (loans_of r.history) r.memory.page_bits r.memory.maps r.memory.cells r.owners.berth r.memory.sessions r.machine.life r.machine.word
                r.machine.given r.world.sessions r.pages p me k w a held.owner;
            there = stays_there z me v l a k has ws vs r at;
            keep = λ q j b. inr (refl, still q (r.owners.berth q));
            shows = shows_cell z r.valid ws r.memory r.shows p w 0 page_low fits;
            world = world_pages z r.memory r.machine r.world r.memory.page_bits r.memory.maps cells';
            sweeps = sweeps_kept z me v l a k has ws vs r at r.memory.page_bits r.memory.maps cells' r.owners.berth (λ b n h. h);
            once = mine.work.swept_once;
            of_page = record {
              next = next_here z me v l a k has ws vs r at;
              owner = held.owner;
              empty = held.empty;
              wiped = λ o b f. two_cases r.memory.cells p w 0 p o (λ (x : ℕ). x ≡ 0) (λ e n. refl)
                  (λ n. held.wiped o (let ne : o ≢ w = (λ e. n (refl, e)) in omega arith) f);
            };
          })
        where
          still : (q : ℕ) (b : Berth) → HasPage q b v → HasPage q b (record v { sweeps = v.sweeps; swept = wiping a k p (w + 1) })
          still q loose h = h
          still q (claimed j) h = h
          still q (mapped c i) h = h
          still q (unmapped j b i) h =
              let e : wiping b i q h.1.0 ≡ wiping a k p w = sym h.1.1 ∙ is in
              let f : b ≡ a = cc in let g : i ≡ k = cc in let n : q ≡ p = cc in
              (h.0, (w + 1, (λ j. wiping (sym f j) (sym g j) (sym n j) (w + 1))))

      -- where the words that have a given byte are wiped, all are 0
      is_blank : AreAllGiven v a k w → IsOver v a → IsBlank z r.memory.cells p
      is_blank all over o low = elim (cases_lt o w) [
        | inl wiped ↦ held.wiped o wiped low
        | inr rest ↦
            let size : ℕ = z.page_words in
            let word : ℕ = k * size + o in
            let sh : v.shape ≡ z = (r.each me v at).shape l in
            let part : word / size ≡ k = div-mul-add k size o low in
            let place : word % size ≡ o = mod-mul-add k size o low in
            let none : ¬ (8 * word < given_of v a) = (λ h.
            let few : word % v.shape.page_words < w = all word (ap (λ (x : Shape). word / x.page_words) sh ∙ part) h in
            let same : word % v.shape.page_words ≡ o = ap (λ (x : Shape). word % x.page_words) sh ∙ place in omega arith) in
            let count = given_over z ws vs r me v at l a over in
            ap (λ (n : ℕ). r.memory.cells p n) (sym place) ∙ (r.pages.unmapped_is p me k a held.owner).beyond word part (omega arith)
      ]

      -- it is given back, and its loan is taken back
      returns : AreAllGiven v a k w → IsOver v a
          → Made z ws vs me v (place_at z (bits_place (p / 64))) (bit_or (get_or ws (place_at z (bits_place (p / 64))) 0) (2 ^ (p % 64)))
          (record v { sweeps = advanced a v.sweeps; swept = unread })
          (entry_of v.caller (Back p) Fine ∷ []) none_noted
      returns all over =
          let i : ℕ = place_at z (bits_place (p / 64)) in
          let found : ℕ = get_or ws i 0 in
          let word : ℕ = bit_or found (2 ^ (p % 64)) in
          let group : p / 64 < page_groups z = page_group z p (r.pages.unmapped_is p me k a held.owner).page in
          let is : found ≡ r.memory.page_bits (p / 64) = r.shows.page_bits (p / 64) group in
          let bits' : ℕ → ℕ = put r.memory.page_bits (p / 64) word in
          let berth' : ℕ → Berth = put r.owners.berth p loose in
          let p' : View = record v { sweeps = advanced a v.sweeps; swept = unread } in
          sweep_on z me v l a k has ws vs r at i word bits' r.memory.maps r.memory.cells r.memory.given berth' (advanced a v.sweeps) unread
          (entry_of v.caller (Back p) Fine ∷ []) (record {
            may = (refl, tt, refl, tt);
            ends = λ b. ((λ h. h), tt);
            stays = refl;
            same_maps = λ b n i. refl;
            same_given = λ b n. refl;
            others = λ q j b n. (put_else r.owners.berth p loose q (λ e. n (sym (subst (IsAt j) (ap r.owners.berth e ∙ held.owner) b))), λ w. refl);
            claims = λ q e. put_else r.owners.berth p loose q
                (λ n. absurd (let u : unmapped me a k ≡ claimed me = sym held.owner ∙ (ap r.owners.berth (sym n) ∙ e) in cc)) ∙ e;
            lends = ((a, k, (r.pages.unmapped_is p me k a held.owner).lent, is_over), tt);
            pages =
                pages_back z (loans_of r.history) r.memory.page_bits r.memory.maps r.memory.cells r.owners.berth r.memory.sessions r.machine.life r.machine.word
                r.machine.given r.world.sessions r.pages bits' p (set_here r.memory.page_bits p found is) (set_else r.memory.page_bits p found is) me k a held.owner
                (is_blank all over);
            there = visits z me v l a k has ws vs r at;
            keep = λ q j. put_cases r.owners.berth p loose q
                (λ (c : Berth). IsAt j c → ((j ≡ me) × HasPage q c p')
                ⊎ ((c ≡ r.owners.berth q) × (HasPage q (r.owners.berth q) v → HasPage q (r.owners.berth q) p')))
                (λ n b. absurd b)
                (λ n b. inr (refl, gone q n (r.owners.berth q)));
            shows = shows_page_bits z r.valid ws r.memory r.shows (p / 64) word group;
            world = world_pages z r.memory r.machine r.world bits' r.memory.maps r.memory.cells;
            sweeps = sweeps_more z me v l a k has ws vs r at bits' r.memory.maps r.memory.cells berth' (λ b n h. h) held.empty low;
            once = once_advanced a v.sweeps mine.work.swept_once;
            of_page = tt;
          })
        where
          gone : (q : ℕ) → q ≢ p → (b : Berth) → HasPage q b v → HasPage q b (record v { sweeps = advanced a v.sweeps; swept = unread })
          gone q n loose h = h
          gone q n (claimed j) h = h
          gone q n (mapped c i) h = h
          gone q n (unmapped j b i) h = absurd (let e : wiping b i q h.1.0 ≡ wiping a k p w = sym h.1.1 ∙ is in let f : q ≡ p = cc in n f)

-- ---- the steps

module _ (z : Shape) (me : ℕ) (v : View) (a : ArenaId) (i : ℕ) (l : v.live ≡ true) (has : passed_of v.sweeps a ≡ Some i) where
  -- the map word of the next part is read
  pub look_map_steps : v.shape ≡ z → i < z.reach → v.swept ≡ unread → MayStep z (SweepsMap a i) me v (place_at z (map a.slot i)) (λ n. n)
  unfolding part entries noted
  look_map_steps sh low idle = record {
    may = λ ws vs r at.
        let g = looks z me v l a i has ws vs r at low idle (get_or ws (place_at z (map a.slot i)) 0 == 0) refl in
        (g.0, g.1, record { gives = g.2; learns = says_low z ws vs r a.slot i (slot_low z me v l a i has ws vs r at) low sh });
  }

  -- it is made 0: the sweep has the page
  pub unmap_steps : (p : ℕ) → i < z.reach → v.swept ≡ named a i p → MayStore z (Unmaps a i p) me v (place_at z (map a.slot i)) 0
  unfolding part entries noted
  unmap_steps p low is =
      record { may = λ ws vs r at. let g = unmaps z me v l a i has ws vs r at low p is in (g.0, g.1, record { gives = g.2; learns = tt }) }

  -- the next word of the page is wiped
  pub wipe_steps : (p w : ℕ) → i < z.reach → v.swept ≡ wiping a i p w → w < z.page_words → MayStore z (Wipes a i p w) me v (place_at z (page_word p w)) 0
  unfolding part entries noted
  wipe_steps p w low is fits =
      record { may = λ ws vs r at. let g = wipes z me v l a i has ws vs r at low p w is fits in (g.0, g.1, record { gives = g.2; learns = tt }) }

  -- where the words with a given byte are wiped, the page is given back
  pub return_steps : (p w : ℕ) → i < z.reach → v.swept ≡ wiping a i p w → AreAllGiven v a i w → IsOver v a
      → MayStep z (ReturnsPage a p) me v (place_at z (bits_place (p / 64))) (λ n. bit_or n (2 ^ (p % 64)))
  unfolding part entries noted
  return_steps p w low is all over =
      record { may = λ ws vs r at. let g = returns z me v l a i has ws vs r at low p w is all over in (g.0, g.1, record { gives = g.2; learns = tt }) }
