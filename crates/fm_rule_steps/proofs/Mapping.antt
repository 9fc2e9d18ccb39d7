-- The steps that map a page in the hand, and read map words.
use Rattle.std.proofs.Common.{◌≡◌, ◌≢◌, ◌⊎◌, ℕ, ◌-◌, ◌/◌, ◌<◌, ◌==◌, Bool, true, false, if◌then◌else◌, List, [], ◌∷◌, length, set, get_or, sym, refl, ap, ◌∙◌, subst, arith, inl, inr, ⊎_elim, Option, Some}
use mathlib.Core.Option.{some}
use lib.ListN.{get_elem?}
use lib.Seq.{set-get_or}
use prog.Atomic.{either}
use Rattle.fm_words.specs.{declared.shape.Shape.{Shape}, Maps.{map_word}, Places.{at as place_at, map}}
use Rattle.fm_base.specs.{declared.arena_id.ArenaId.{ArenaId}, Calls.{Entry, Lend, Fine, entry_of}, Finds.{Find, Maps as Mapped}}
use Rattle.fm_base_machine.{specs.Functions.{Over, put}, proofs.Putting.{put_here, put_else, put_cases}}
use Rattle.fm_rule_facts.specs.{declared.step.Step.TheVariants.{Maps, ReadsMap}, Loans.{loans_of, HasPart}, Gone.{FoundBy}, Parts.{Mapping, mapping_of}}
use Rattle.fm_rule_facts.specs.{Views.{View, In}, Steps.{part, entries, noted, none_noted, note_of, where_found}}
use Rattle.fm_rule_facts.specs.{Facts.{own_map, shut, IsStanding, Berth, claimed, mapped, unmapped, IsAt, HasPage, Owns, Rule}, Moves.{LearnsMap, MayStep}}
use Rattle.fm_rule_facts.proofs.{Founds.{NoneDrawn, NoDraw, no_draw, note_no_draw}, Sessions.{standing_known, ended_apart, unstanding}}
use Rattle.fm_rule_facts.proofs.{Moving.{pages_map, no_part, claimed_free, read_mapped}, Shown.{shows_map}, Ruling.{page_by, AreLooked, unlooked}}
use Rattle.fm_rule_facts.proofs.{Keeping.{set_there}, Gone.{none_founded}}
use Rattle.fm_rule_steps.proofs.{Reading.{eqb_true, eqb_false, none_read, says_none, says_page, says_low}, Knowing.{own, given_now}, Plain.{Made}}
use Rattle.fm_rule_steps.proofs.Paging.{paged, swept_still, pages_read}

module _ (z : Shape) (me : ℕ) (v : View) (l : v.live ≡ true) (ws : List ℕ) (vs : List View) (r : Rule z ws vs) (at : get_elem? vs me ≡ some v) where
  abbrev mine : Owns z r.history r.memory r.machine r.owners me v
  mine = own z ws vs r me v at l

  -- nothing is noted of draws, slots, pages and numbers
  none_drawn : (fs : ℕ → List Find) → NoDraw fs → NoneDrawn fs
  none_drawn fs nd n f i = let y = nd n f i in (y.0, y.1)

  founded : (fs : ℕ → List Find) → NoDraw fs → (f : Find) → In f (fs (length r.history))
      → FoundBy z r.history r.memory r.owners.taker r.machine.life v.caller f
  founded fs nd =
      none_founded z r.history r.memory r.owners.taker r.machine.life v.caller fs (λ n f i. let y = nd n f i in (y.2, y.3)) (length r.history)

  looks : (fs : ℕ → List Find) → NoDraw fs → AreLooked r v fs
  looks fs nd = unlooked r v fs (λ n f i. (nd n f i).4)

  -- ---- a page in the hand is mapped

  module _ (a : ArenaId) (ins : v.inside ≡ Some a) where
    here : r.machine.inside v.caller ≡ Some a
    here = mine.work.inside ∙ ins

    stands : IsStanding (r.machine.life a)
    stands = (r.world.marked v.caller a here).stands

    apart : (b : ArenaId) → r.memory.sessions b.slot ≡ shut b → r.machine.life b ≡ Over → b.slot ≢ a.slot
    apart b f o e = ended_apart z r.memory.sessions r.machine.life r.world.sessions b a f o stands (sym e)

    slot_low : a.slot < z.slots
    slot_low = (r.world.sessions.fits a (standing_known (r.machine.life a) stands)).slot

    module _ (i : ℕ) (low : i < z.reach) where
      abbrev map_at : ℕ
      map_at = place_at z (map a.slot i)

      abbrev seen : ℕ
      seen = get_or ws map_at 0

      -- a page that was read is known
      knows : (ps : List ℕ) (maps : ℕ → ℕ → Option ℕ) (berth : ℕ → Berth) (p : ℕ) → maps a.slot i ≡ Some p
          → ((b : ArenaId) (k q : ℕ) → IsStanding (r.machine.life b) → r.memory.maps b.slot k ≡ Some q → maps b.slot k ≡ Some q)
          → (b : ArenaId) → v.inside ≡ Some b → (x : Mapping) → In x (mapping_of i p ∷ v.reads) → maps b.slot x.part ≡ Some x.page
      knows ps maps berth p e stay b h x (inl q) =
          let same : a ≡ b = (let w : Some a ≡ Some b = sym ins ∙ h in cc) in
          (λ j. maps (sym same j).slot (q j).part) ∙ (e ∙ ap (λ (y : Mapping). Some y.page) (sym q))
      knows ps maps berth p e stay b h x (inr j) = stay b x.part x.page
          (subst (λ (c : ArenaId). IsStanding (r.machine.life c)) (let w : Some a ≡ Some b = sym ins ∙ h in cc) stands) (mine.work.pages.read b h x j)

      -- another one was there
      map_loses : (fs : ℕ → List Find) → NoDraw fs → seen ≢ 0
          → Made z ws vs me v map_at seen (record v { pages = v.pages; reads = mapping_of i (seen - 1) ∷ v.reads }) [] fs
      map_loses fs nd n =
          pages_read z me v l ws vs r at map_at (mapping_of i (seen - 1) ∷ v.reads) fs (none_drawn fs nd) (founded fs nd) (looks fs nd)
          (knows v.pages r.memory.maps r.owners.berth (seen - 1) (says_page z ws vs r a.slot i slot_low low n) (λ b k q st f. f))

      -- nothing was there: the page is lent to the arena as this part
      map_wins : (p : ℕ) (fs : ℕ → List Find) → NoDraw fs
          → v.pages ≡ p ∷ [] → seen ≡ 0
          → Made z ws vs me v map_at (map_word p) (record v { pages = []; reads = mapping_of i p ∷ v.reads }) (entry_of v.caller (Lend p a i) Fine ∷ []) fs
      map_wins p fs nd has zero_word =
          let none = says_none z ws vs r a.slot i slot_low low zero_word in
          let at_hand : r.owners.berth p ≡ claimed me = mine.work.pages.claims p (subst (In p) (sym has) (inl refl)) in
          let maps' : ℕ → ℕ → Option ℕ = put r.memory.maps a.slot (put (r.memory.maps a.slot) i (Some p)) in
          let berth' : ℕ → Berth = put r.owners.berth p (mapped a.slot i) in
          let p' : View = record v { pages = []; reads = mapping_of i p ∷ v.reads } in
          let named : maps' a.slot i ≡ Some p =
          (λ j. put_here r.memory.maps a.slot (put (r.memory.maps a.slot) i (Some p)) j i) ∙ put_here (r.memory.maps a.slot) i (Some p) in
          let stay : (b : ArenaId) (k q : ℕ) → IsStanding (r.machine.life b) → r.memory.maps b.slot k ≡ Some q → maps' b.slot k ≡ Some q =
          (λ b k q st f. read_mapped z
          (loans_of r.history) r.memory.page_bits r.memory.maps r.memory.cells r.owners.berth r.memory.sessions r.machine.life r.machine.word
          r.machine.given r.valid.page_words.0 r.world.sessions r.pages a i p none b k q f) in
          let ended : (b : ArenaId) → r.machine.life b ≡ Over → r.memory.sessions b.slot ≡ shut b → (k : ℕ) → maps' b.slot k ≡ r.memory.maps b.slot k =
          (λ b o f k. λ j. put_else r.memory.maps a.slot (put (r.memory.maps a.slot) i (Some p)) b.slot (apart b f o) j k) in
          paged z me v l ws vs r at map_at (map_word p) r.memory.page_bits maps' berth' [] (mapping_of i p ∷ v.reads)
          (entry_of v.caller (Lend p a i) Fine ∷ []) fs (none_drawn fs nd) (founded fs nd) (looks fs nd) (record {
            may = (refl, tt, refl, tt);
            ends = λ b. ((λ h. h), tt);
            stays = refl;
            moved = record {
              others = λ q j b h. (
                put_else r.owners.berth p (mapped a.slot i) q (λ n. h (sym (subst (IsAt j) (ap r.owners.berth n ∙ at_hand) b))),
                λ w. refl,
              );
              stay = stay;
            };
            ended = ended;
            lends = (
              (
                claimed_free z (loans_of r.history) r.memory.page_bits r.memory.maps r.memory.cells r.owners.berth r.memory.sessions
                    r.machine.life r.machine.word
                    r.machine.given r.valid.page_words.0 r.world.sessions r.pages p me at_hand,
                standing_known (r.machine.life a) stands,
                λ o. unstanding (r.machine.life a) o stands,
                no_part z (loans_of r.history) r.memory.page_bits r.memory.maps r.memory.cells r.owners.berth r.memory.sessions r.machine.life r.machine.word
                    r.machine.given r.valid.page_words.0 r.world.sessions r.pages a i stands none,
                (r.pages.claimed_is p me at_hand).0,
                low,
              ),
              tt,
            );
            pages =
                pages_map z (loans_of r.history) r.memory.page_bits r.memory.maps r.memory.cells r.owners.berth r.memory.sessions r.machine.life r.machine.word
                r.machine.given r.valid.page_words.0 r.world.sessions r.pages me a i p stands low none at_hand;
            keep = λ q j. put_cases r.owners.berth p (mapped a.slot i) q
                (λ (c : Berth). IsAt j c → ((j ≡ me) × HasPage q c p')
                ⊎ ((c ≡ r.owners.berth q) × (HasPage q (r.owners.berth q) v → HasPage q (r.owners.berth q) p')))
                (λ n b. absurd b)
                (λ n b. inr (refl, page_by q (r.owners.berth q) v p' refl (λ w. absurd (n (⊎_elim (λ e. e) (λ e. absurd e) (subst (In q) has w)))) refl));
            shows = shows_map z r.valid ws r.memory r.shows a.slot i (Some p) slot_low low;
            has = record {
              read = knows [] maps' berth' p named stay;
              claims = λ q w. absurd w;
              lone = inl refl;
              sweep = swept_still z me v l ws vs r at maps' berth' ended
                  (λ q j k b h. put_else r.owners.berth p (mapped a.slot i) q
                  (λ n. absurd (let u : claimed me ≡ unmapped j b k = sym at_hand ∙ (ap r.owners.berth (sym n) ∙ h) in cc)));
            };
          })

      -- a map word is read
      reads : (b : Bool) → (seen == 0) ≡ b
          → Made z ws vs me v map_at seen (record v { pages = v.pages; reads = if b then v.reads else mapping_of i (seen - 1) ∷ v.reads }) [] none_noted
      reads false e = map_loses none_noted no_draw (eqb_false seen 0 e)
      reads true e = pages_read z me v l ws vs r at map_at v.reads none_noted (λ n f j. absurd j) (founded none_noted no_draw) (looks none_noted no_draw)
          mine.work.pages.read

      no_draws : (p : ℕ) → NoDraw (note_of (Mapped a i p) seen v)
      no_draws p = note_no_draw (Mapped a i p) seen v refl refl refl refl

      -- what the exchange does
      maps_it : (p : ℕ) → v.pages ≡ p ∷ [] → (b : Bool) → (seen == 0) ≡ b
          → Made z ws vs me v map_at (either b (map_word p) seen)
          (record v { pages = if b then [] else v.pages; reads = if b then mapping_of i p ∷ v.reads else mapping_of i (seen - 1) ∷ v.reads })
          (where_found b (entry_of v.caller (Lend p a i) Fine ∷ [])) (note_of (Mapped a i p) seen v)
      maps_it p has true e = map_wins p (note_of (Mapped a i p) seen v) (no_draws p) has (eqb_true seen 0 e)
      maps_it p has false e = map_loses (note_of (Mapped a i p) seen v) (no_draws p) (eqb_false seen 0 e)

      -- ---- what a map word tells

      learns_map : v.shape ≡ z → (g : Made z ws vs me v map_at seen
          (record v { pages = v.pages; reads = if seen == 0 then v.reads else mapping_of i (seen - 1) ∷ v.reads }) [] none_noted) → LearnsMap v a i seen g.0
      learns_map sh g = record {
        given = λ word part low' e.
            let more = given_now z ws vs r me v at l a in
            let is : word / z.page_words ≡ i = ap (λ (x : Shape). word / x.page_words) (sym sh) ∙ part in
            r.pages.says.covered a word stands (omega arith) (ap (r.memory.maps a.slot) is ∙ says_none z ws vs r a.slot i slot_low low e);
        none = λ e h.
            let rule = g.1 in
            let there = set_there vs me v g.0 at in
            let live' : g.0.live ≡ true = ap (λ (u : View). u.live) g.2.is ∙ l in
            let inside' : g.0.inside ≡ Some a = ap (λ (u : View). u.inside) g.2.is ∙ ins in
            let its = own z (set ws map_at seen) (set vs me g.0) rule me g.0 there live' in
            let st = (rule.world.marked g.0.caller a (its.work.inside ∙ inside')).stands in
            let word : get_or (set ws map_at seen) map_at 0 ≡ own_map (rule.memory.maps a.slot i) =
            rule.shows.maps a.slot i (rule.world.sessions.fits a (standing_known (rule.machine.life a) st)).slot low in
            let same : get_or (set ws map_at seen) map_at 0 ≡ 0 = ap (λ (xs : List ℕ). get_or xs map_at 0) (set-get_or ws map_at 0) ∙ e in
            no_part z (loans_of rule.history) rule.memory.page_bits rule.memory.maps rule.memory.cells rule.owners.berth rule.memory.sessions rule.machine.life
            rule.machine.word rule.machine.given rule.valid.page_words.0 rule.world.sessions rule.pages a i st
            (none_read (rule.memory.maps a.slot i) (sym word ∙ same))
            (subst (λ (es : List Entry). HasPart (loans_of es) a i) g.3 h);
        low = says_low z ws vs r a.slot i slot_low low sh;
      }

-- ---- the steps

-- where the map word is 0, the page in the hand is the arena's as this part
pub map_steps : (z : Shape) (me : ℕ) (v : View) (a : ArenaId) (i p : ℕ) → v.live ≡ true → v.shape ≡ z → v.inside ≡ Some a → i < z.reach → v.pages ≡ p ∷ []
    → MayStep z (Maps a i p) me v (place_at z (map a.slot i)) (λ n. either (n == 0) (map_word p) n)
unfolding part entries noted
map_steps z me v a i p l sh ins low has = record {
  may = λ ws vs r at.
      let x : ℕ = get_or ws (place_at z (map a.slot i)) 0 in
      let g = maps_it z me v l ws vs r at a ins i low p has (x == 0) refl in
      (g.0, g.1, record { gives = g.2; learns = says_low z ws vs r a.slot i (slot_low z me v l ws vs r at a ins) low sh });
}

-- the map word of a part is read
pub read_map_steps : (z : Shape) (me : ℕ) (v : View) (a : ArenaId) (i : ℕ) → v.live ≡ true → v.shape ≡ z → v.inside ≡ Some a → i < z.reach
    → MayStep z (ReadsMap a i) me v (place_at z (map a.slot i)) (λ n. n)
unfolding part entries noted
read_map_steps z me v a i l sh ins low = record {
  may = λ ws vs r at.
      let x : ℕ = get_or ws (place_at z (map a.slot i)) 0 in
      let g = reads z me v l ws vs r at a ins i low (x == 0) refl in
      (g.0, g.1, record { gives = g.2; learns = learns_map z me v l ws vs r at a ins i low sh g });
}
