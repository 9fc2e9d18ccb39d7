-- The steps that claim a page by its bit, and give back one that wasn't mapped.
use Rattle.std.proofs.Common.{◌≡◌, ◌≢◌, ◌⊎◌, ℕ, ◌^◌, ◌<◌, ◌==◌, Bool, true, false, if◌then◌else◌, List, [], ◌∷◌, length, get_or, bit_or, sym, refl, ap, ◌∙◌, subst, inl, inr, ⊎_elim, ◌/◌, ◌%◌}
use Rattle.std.specs.{Int.{bit_at}, Prelude.{◌&&◌}}
use mathlib.Core.Option.{some}
use lib.ListN.{get_elem?}
use prog.Atomic.{either}
use Rattle.fm_words.specs.{declared.shape.Shape.{Shape}, Bits.{IsWithout, number_at, bit_of}, Places.{at as place_at, page_bits as bits_place, page_groups}}
use Rattle.fm_rule_facts.{proofs.Groups.{bit_here, bit_else, bit_was, set_here, set_else, page_group, group_of_page}, specs.Hands.{slots_in}}
use Rattle.fm_rule_facts.specs.{declared.step.Step.TheVariants.{Claims, GivesPage}, Loans.{loans_of}, Gone.{FoundBy}, Parts.{pages_taken}, Views.{View, In}}
use Rattle.fm_rule_facts.specs.Steps.{part, entries, noted, none_noted, note_of, is_clear, is_empty}
use Rattle.fm_rule_facts.specs.{Facts.{Berth, loose, claimed, unmapped, IsAt, HasPage, Owns, Rule}, Moves.{MayStep}}
use Rattle.fm_rule_facts.proofs.{Founds.{note_none_drawn, note_no_number}, Moving.{pages_take}, Returning.{pages_give}, Shown.{shows_page_bits}}
use Rattle.fm_rule_facts.proofs.{Ruling.{page_by, AreLooked, unlooked}, Gone.{NoSlots, none_founded}}
use Rattle.fm_base.specs.Finds.{Find, TakesPage as Claiming, is_slot, group_of}
use Rattle.fm_base_machine.{specs.Functions.{put}, proofs.Putting.{put_here, put_else, put_cases}}
use Rattle.fm_rule_steps.proofs.{Reading.{by_bit}, Knowing.{own}, Plain.{Made}, Scarce.{few_left}, Paging.{paged, swept_still, pages_read}}

-- a clear pass is known to be whole
pub whole_clear : (v : View) → is_clear v ≡ true → v.whole ≡ true
whole_clear v h = go v.whole refl
  where
    go : (b : Bool) → v.whole ≡ b → v.whole ≡ true
    go true e = e
    go false e = absurd (let q : false ≡ true = ap
        (λ (b : Bool). b && is_empty (slots_in v.hand) && is_empty v.pages && is_empty v.closes && is_empty v.sweeps) (sym e) ∙ h in cc)

module _ (z : Shape) (me : ℕ) (v : View) (l : v.live ≡ true) (ws : List ℕ) (vs : List View) (r : Rule z ws vs) (at : get_elem? vs me ≡ some v) where
  abbrev mine : Owns z r.history r.memory r.machine r.owners me v
  mine = own z ws vs r me v at l

  -- ---- a page is claimed

  module _ (none : v.pages ≡ []) (g e bit next : ℕ) (few : bit < 64) (low : number_at g bit < z.pages) (without : IsWithout e bit next) where
    abbrev bits_at : ℕ
    bits_at = place_at z (bits_place g)

    -- the page
    abbrev p : ℕ
    p = number_at g bit

    abbrev found : ℕ
    found = get_or ws bits_at 0

    abbrev fs : ℕ → List Find
    fs = note_of (Claiming g e bit) found v

    is_found : found ≡ r.memory.page_bits g
    is_found = r.shows.page_bits g (group_of_page z g bit low)

    new : (f : Find) → In f (fs (length r.history)) → FoundBy z r.history r.memory r.owners.taker r.machine.life v.caller f
    new f (inr j) = absurd j
    new f (inl q) = record {
      slot = λ j. absurd (let n : false ≡ true = ap (λ (g : Find). is_slot g.step) (sym q) ∙ j in cc);
      page = λ j h. few_left z me v l ws vs r at none g (sym is_found ∙ (ap (λ (x : Find). x.found) (sym q) ∙ h)) f
          (ap (λ (x : Find). group_of x.step) q) (ap (λ (x : Find). x.seen) q)
          (λ c. whole_clear v (ap (λ (g : Find). g.clear) (sym q) ∙ c));
    }

    looks : AreLooked r v fs
    looks = unlooked r v fs (note_no_number (Claiming g e bit) found v refl)

    claim_misses : Made z ws vs me v bits_at found (record v { pages = v.pages; reads = v.reads }) [] fs
    claim_misses = pages_read z me v l ws vs r at bits_at v.reads fs (note_none_drawn (Claiming g e bit) found v refl) new looks mine.work.pages.read

    claims_it : r.memory.page_bits g ≡ e → bit_at e bit ≡ 1 → Made z ws vs me v bits_at next (record v { pages = p ∷ v.pages; reads = v.reads }) [] fs
    claims_it is one =
        let bits' : ℕ → ℕ = put r.memory.page_bits g next in
        let one' : bit_of r.memory.page_bits p ≡ 1 = bit_was r.memory.page_bits g bit next few e is ∙ one in
        let was = r.pages.bit_is p one' in
        let zero : bit_of bits' p ≡ 0 = bit_here r.memory.page_bits g bit next few ∙ without.zero in
        let others : (k : ℕ) → k ≢ p → bit_of bits' k ≡ bit_of r.memory.page_bits k =
        bit_else r.memory.page_bits g bit next few (λ k n. without.others k n ∙ ap (λ (w : ℕ). bit_at w k) (sym is)) in
        let far : (q j : ℕ) → IsAt j (r.owners.berth q) → q ≢ p = (λ q j b n. subst (IsAt j) (ap r.owners.berth n ∙ was.0) b) in
        paged z me v l ws vs r at bits_at next bits' r.memory.maps (put r.owners.berth p (claimed me)) (p ∷ v.pages) v.reads [] fs
        (note_none_drawn (Claiming g e bit) found v refl) new looks (record {
          may = tt;
          ends = λ b. tt;
          stays = refl;
          moved = record { others = λ q j b h. (put_else r.owners.berth p (claimed me) q (far q j b), λ w. refl); stay = λ b k q st f. f };
          ended = λ b o f k. refl;
          lends = tt;
          pages =
              pages_take z (loans_of r.history) r.memory.page_bits r.memory.maps r.memory.cells r.owners.berth r.memory.sessions r.machine.life r.machine.word
              r.machine.given r.valid.page_words.0 r.world.sessions r.pages bits' me p one' zero others;
          keep = λ q j. put_cases r.owners.berth p (claimed me) q
              (λ (c : Berth). IsAt j c → ((j ≡ me) × HasPage q c (record v { pages = p ∷ v.pages; reads = v.reads }))
              ⊎ ((c ≡ r.owners.berth q)
              × (HasPage q (r.owners.berth q) v → HasPage q (r.owners.berth q) (record v { pages = p ∷ v.pages; reads = v.reads }))))
              (λ n b. inl (sym b, (l, inl n)))
              (λ n b. inr (refl, page_by q (r.owners.berth q) v (record v { pages = p ∷ v.pages; reads = v.reads }) refl (λ i. inr i) refl));
          shows = shows_page_bits z r.valid ws r.memory r.shows g next (group_of_page z g bit low);
          has = record {
            read = mine.work.pages.read;
            claims = λ q. ⊎_elim
                (λ (n : q ≡ p). ap (put r.owners.berth p (claimed me)) n ∙ put_here r.owners.berth p (claimed me))
                (λ (i : In q v.pages). absurd (subst (In q) none i));
            lone = inr (p, ap (λ (ps : List ℕ). p ∷ ps) none);
            sweep = swept_still z me v l ws vs r at r.memory.maps (put r.owners.berth p (claimed me)) (λ b o f k. refl)
                (λ q j k a h. put_else r.owners.berth p (claimed me) q (far q j (subst (IsAt j) (sym h) refl)));
          };
        })

    claiming : (b c : Bool) → (found == e) ≡ b → (bit_at e bit == 1) ≡ c
        → Made z ws vs me v bits_at (either b next found) (record v { pages = pages_taken (if b then c else false) p v.pages; reads = v.reads }) [] fs
    claiming = by_bit (λ w b. Made z ws vs me v bits_at w (record v { pages = pages_taken b p v.pages; reads = v.reads }) [] fs) e bit next found without
        (λ q. claims_it (sym is_found ∙ q)) claim_misses

  founded : (fs : ℕ → List Find) → NoSlots fs → (f : Find) → In f (fs (length r.history))
      → FoundBy z r.history r.memory r.owners.taker r.machine.life v.caller f
  founded fs n = none_founded z r.history r.memory r.owners.taker r.machine.life v.caller fs n (length r.history)

  -- ---- a page in the hand is given back

  module _ (p : ℕ) (has : v.pages ≡ p ∷ []) where
    abbrev bits_place_at : ℕ
    bits_place_at = place_at z (bits_place (p / 64))

    abbrev word : ℕ
    word = bit_or (get_or ws bits_place_at 0) (2 ^ (p % 64))

    abbrev bits' : ℕ → ℕ
    bits' = put r.memory.page_bits (p / 64) word

    at_hand : r.owners.berth p ≡ claimed me
    at_hand = mine.work.pages.claims p (subst (In p) (sym has) (inl refl))

    low : p / 64 < page_groups z
    low = page_group z p (r.pages.claimed_is p me at_hand).0

    is_bits : get_or ws bits_place_at 0 ≡ r.memory.page_bits (p / 64)
    is_bits = r.shows.page_bits (p / 64) low

    gives_page : Made z ws vs me v bits_place_at word (record v { pages = []; reads = v.reads }) [] none_noted
    gives_page =
        let p' : View = record v { pages = []; reads = v.reads } in
        paged z me v l ws vs r at bits_place_at word bits' r.memory.maps (put r.owners.berth p loose) [] v.reads [] none_noted (λ n f j. absurd j)
        (founded none_noted (λ n f j. absurd j)) (λ f j. absurd j) (record {
          may = tt;
          ends = λ b. tt;
          stays = refl;
          moved = record {
            others = λ q j b h. (put_else r.owners.berth p loose q (λ n. h (sym (subst (IsAt j) (ap r.owners.berth n ∙ at_hand) b))), λ w. refl);
            stay = λ b k q st f. f;
          };
          ended = λ b o f k. refl;
          lends = tt;
          pages =
              pages_give z (loans_of r.history) r.memory.page_bits r.memory.maps r.memory.cells r.owners.berth r.memory.sessions r.machine.life r.machine.word
              r.machine.given r.world.sessions r.pages bits' p
              (set_here r.memory.page_bits p (get_or ws bits_place_at 0) is_bits) (set_else r.memory.page_bits p (get_or ws bits_place_at 0) is_bits) me at_hand;
          keep = λ q j. put_cases r.owners.berth p loose q
              (λ (c : Berth). IsAt j c → ((j ≡ me) × HasPage q c p')
              ⊎ ((c ≡ r.owners.berth q) × (HasPage q (r.owners.berth q) v → HasPage q (r.owners.berth q) p')))
              (λ n b. absurd b)
              (λ n b. inr (refl, page_by q (r.owners.berth q) v p' refl (λ w. absurd (n (⊎_elim (λ e. e) (λ e. absurd e) (subst (In q) has w)))) refl));
          shows = shows_page_bits z r.valid ws r.memory r.shows (p / 64) word low;
          has = record {
            read = mine.work.pages.read;
            claims = λ q w. absurd w;
            lone = inl refl;
            sweep = swept_still z me v l ws vs r at r.memory.maps (put r.owners.berth p loose) (λ b o f k. refl)
                (λ q j k b h. put_else r.owners.berth p loose q
                (λ n. absurd (let u : claimed me ≡ unmapped j b k = sym at_hand ∙ (ap r.owners.berth (sym n) ∙ h) in cc)));
          };
        })

-- ---- the steps

-- where the word of page bits is the expected one, the page is claimed by its bit
pub claim_steps : (z : Shape) (me : ℕ) (v : View) (g e bit next : ℕ) → v.live ≡ true → v.pages ≡ [] → bit < 64 → number_at g bit < z.pages
    → IsWithout e bit next → MayStep z (Claims g e bit) me v (place_at z (bits_place g)) (λ n. either (n == e) next n)
unfolding part entries noted
claim_steps z me v g e bit next l none few low without = record {
  may = λ ws vs r at.
      let x : ℕ = get_or ws (place_at z (bits_place g)) 0 in
      let y = claiming z me v l ws vs r at none g e bit next few low without (x == e) (bit_at e bit == 1) refl refl in
      (y.0, y.1, record { gives = y.2; learns = tt });
}

-- a page in the hand is given back
pub give_page_steps : (z : Shape) (me : ℕ) (v : View) (p : ℕ) → v.live ≡ true → v.pages ≡ p ∷ []
    → MayStep z (GivesPage p) me v (place_at z (bits_place (p / 64))) (λ n. bit_or n (2 ^ (p % 64)))
unfolding part entries noted
give_page_steps z me v p l has =
    record { may = λ ws vs r at. let g = gives_page z me v l ws vs r at p has in (g.0, g.1, record { gives = g.2; learns = tt }) }
