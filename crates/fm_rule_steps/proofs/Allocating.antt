-- The step that gives bytes of the arena that the pass is inside.
use Rattle.std.proofs.Common.{◌≡◌, ◌≢◌, ℕ, ◌+◌, ◌*◌, ◌/◌, ◌<◌, ◌==◌, nat_le, Bool, true, false, if◌then◌else◌, List, [], ◌∷◌, get_or, set, sym, refl, ap, ◌∙◌, subst, arith, Option, Some, None, ne_eqb, inl, inr, ◌≤◌}
use Rattle.std.proofs.lemmas.Bool.{cases_lt}
use mathlib.Core.Option.{some}
use lib.ListN.{get_elem?}
use lib.Seq.{set-get_or}
use Rattle.fm_base.specs.{Arenas.{arena_of}, Histories.{state_after}, declared.arena_id.ArenaId.{ArenaId}, Calls.{Entry, Allocate, Given, NoRoom, entry_of}}
use Rattle.fm_base.{specs.Machine.{IsPower, rounded_up, allocate_reply}, proofs.Growing.{le-rounded_up, power_pos}}
use Rattle.fm_rule_facts.{specs.{Views.{given_of, View, limit_of, In}, declared.step.Step.TheVariants.{Allocates}}, proofs.Keeping.{set_there}}
use Rattle.fm_rule_facts.specs.{Loans.{loans_of}, Steps.{part, entries, noted, acted, none_noted, where_found, given_next}, Facts.{IsStanding, Shows, Rule}}
use Rattle.fm_rule_facts.{specs.{Parts.{mapping_of}, Moves.{MayStep}}, proofs.{Living.{pages_given}, Sessions.{standing_known}, Worlds.{world_given}}}
use Rattle.fm_rule_facts.proofs.Shown.{shows_same, shows_given}
use prog.Atomic.{either}
use Rattle.fm_words.specs.{declared.shape.Shape.{Shape}, Places.{at as place_at, given as given_place}}
use Rattle.fm_base_machine.{specs.Functions.{put, put_at}, proofs.Putting.{put_else}}
use Rattle.fm_rule_steps.proofs.{Reading.{eqb_true}, Quiet.{looks_on}, Knowing.{own}, Plain.{Made, words_left}, Reaching.{here, stands, fit, apart, act}}

module _ (z : Shape) (me : ℕ) (v : View) (l : v.live ≡ true) (a : ArenaId) (ins : v.inside ≡ Some a) where
  -- every part that has a byte below the new count was read or mapped by the pass
  module _ (count size align : ℕ) (power : IsPower align)
      (read : nat_le (rounded_up count align + size) (limit_of z) ≡ true → (w : ℕ) → count ≤ 8 * w → 8 * w < rounded_up count align + size
      → (p : ℕ) × In (mapping_of (w / z.page_words) p) v.reads) where
    abbrev place : ℕ
    place = place_at z (given_place a.slot)

    abbrev round : ℕ
    round = rounded_up count align

    module _ (ws : List ℕ) (vs : List View) (r : Rule z ws vs) (at : get_elem? vs me ≡ some v) where
      is_given : get_or ws place 0 ≡ r.machine.given a
      is_given = r.shows.given a.slot (fit z me v l a ins ws vs r at).slot ∙ r.world.givens.shown a (stands z me v l a ins ws vs r at)

      covered : get_or ws place 0 ≡ count → nat_le (round + size) (limit_of z) ≡ true → (w : ℕ) → 8 * w < round + size
          → r.memory.maps a.slot (w / z.page_words) ≢ None
      covered e fits w low none = elim (cases_lt (8 * w) count) [
        | inl given ↦ r.pages.says.covered a w (stands z me v l a ins ws vs r at) (let q = is_given in omega arith) none
        | inr new ↦ (
            let y = read fits w new low in
            let h = (own z ws vs r me v at l).work.pages.read a ins (mapping_of (w / z.page_words) y.0) y.1 in
            let q : None ≡ Some y.0 = sym none ∙ h in absurd (cc))
      ]

      more : get_or ws place 0 ≡ count → r.machine.given a ≤ round + size
      more e = let up = le-rounded_up count align (power_pos align power) in let q = is_given in omega arith

      -- it answers as the functions do
      answer : get_or ws place 0 ≡ count → (b : Bool) → nat_le (round + size) (limit_of z) ≡ b
          → (if b then Given round else NoRoom count) ≡ allocate_reply (limit_of z) (r.machine.given a) size align
      answer e b q = ap (λ (c : Bool). if c then Given round else NoRoom count) (sym q)
          ∙ ap (λ (n : ℕ). allocate_reply (limit_of z) n size align) (sym e ∙ is_given)

      -- where the count was the expected one, the range fits or it doesn't
      gives : get_or ws place 0 ≡ count → (b : Bool) → nat_le (round + size) (limit_of z) ≡ b
          → Made z ws vs me v place (if b then round + size else count) v
          (entry_of v.caller (Allocate a size align) (if b then Given round else NoRoom count) ∷ []) none_noted
      gives e true fits =
          act z me v l a ins ws vs r at place (round + size) (Allocate a size align) (Given round) r.memory.cells (put r.memory.given a.slot (round + size))
          r.machine.word (put_at r.machine.given a (round + size)) refl (here z me v l a ins ws vs r at, power) (answer e true fits) (λ b n. n) tt refl
          (shows_given z r.valid ws r.memory r.shows a.slot (round + size) (fit z me v l a ins ws vs r at).slot)
          (world_given z r.memory r.machine r.world a (round + size) (stands z me v l a ins ws vs r at))
          (pages_given z (loans_of r.history) r.memory.page_bits r.memory.maps r.memory.cells r.owners.berth r.memory.sessions r.machine.life r.machine.word
          r.machine.given r.world.sessions r.pages a (round + size) (stands z me v l a ins ws vs r at) (more e) (covered e fits))
          (record {
            given = λ b o f. put_else r.memory.given a.slot (round + size) b.slot (apart z me v l a ins ws vs r at b f o);
            cells = λ q j b n. refl;
          })
      gives e false fits =
          act z me v l a ins ws vs r at place count (Allocate a size align) (NoRoom count) r.memory.cells r.memory.given
          r.machine.word r.machine.given refl (here z me v l a ins ws vs r at, power) (answer e false fits) (λ b n. n) tt refl
          (subst (λ (x : ℕ). Shows z (set ws place x) r.memory) e (shows_same z r.valid ws r.memory r.shows place)) r.world r.pages words_left

      -- another count was found
      misses : Made z ws vs me v place (get_or ws place 0) v [] none_noted
      misses = looks_on z ws vs r me v at l place

      exchanged : (b : Bool) → (get_or ws place 0 == count) ≡ b
          → Made z ws vs me v place (either b (given_next (limit_of z) count size align) (get_or ws place 0)) v
          (where_found b (entry_of v.caller (Allocate a size align) (allocate_reply (limit_of z) count size align) ∷ [])) none_noted
      exchanged true e = gives (eqb_true (get_or ws place 0) count e) (nat_le (round + size) (limit_of z)) refl
      exchanged false e = misses

    -- where another count was found, it is the one that stands
    found_given : (ws : List ℕ) (vs : List View) (r : Rule z ws vs) (at : get_elem? vs me ≡ some v) → v.shape ≡ z → (es : List Entry)
        → (g : Made z ws vs me v place (either (get_or ws place 0 == count) (given_next (limit_of z) count size align) (get_or ws place 0)) v es none_noted)
        → (b : ArenaId) → v.inside ≡ Some b → get_or ws place 0 ≢ count → get_or ws place 0 ≡ given_of g.0 b
    found_given ws vs r at sh es g b e n =
        let x : ℕ = get_or ws place 0 in
        let rule = g.1 in
        let same : a ≡ b = (let q : Some a ≡ Some b = sym ins ∙ e in cc) in
        let there = set_there vs me v g.0 at in
        let live' : g.0.live ≡ true = ap (λ (u : View). u.live) g.2.is ∙ l in
        let inside' : g.0.inside ≡ Some a = ap (λ (u : View). u.inside) g.2.is ∙ ins in
        let shape' : g.0.shape ≡ z = ap (λ (u : View). u.shape) g.2.is ∙ sh in
        let word : ℕ = either (x == count) (given_next (limit_of z) count size align) x in
        let its = own z (set ws place word) (set vs me g.0) rule me g.0 there live' in
        let st : IsStanding (rule.machine.life a) = (rule.world.marked g.0.caller a (its.work.inside ∙ inside')).stands in
        let is_x : word ≡ x = ap (λ (c : Bool). either c (given_next (limit_of z) count size align) x) (ne_eqb x count n) in
        let now : get_or (set ws place word) place 0 ≡ x =
        (λ j. get_or (set ws place (is_x j)) place 0) ∙ ap (λ (xs : List ℕ). get_or xs place 0) (set-get_or ws place 0) in
        let shown = rule.shows.given a.slot (rule.world.sessions.fits a (standing_known (rule.machine.life a) st)).slot ∙ rule.world.givens.shown a st in
        let given : (arena_of (state_after (limit_of z) [] rule.history) a).given ≡ given_of g.0 b =
        λ j. (arena_of (state_after (limit_of (sym shape' j)) [] (sym g.3 j)) (same j)).given in
        sym now ∙ (shown ∙ (rule.depicts.given a ∙ given))

    -- bytes are given where the count was the expected one
    pub allocate_steps : v.shape ≡ z → MayStep z (Allocates count size align) me v place (λ n. either (n == count) (given_next (limit_of z) count size align) n)
    unfolding part entries noted
    allocate_steps sh = record {
      may = λ ws vs r at.
          let x : ℕ = get_or ws place 0 in
          let g =
          subst (λ (o : Option ArenaId × Shape). Made z ws vs me v place (either (x == count) (given_next (limit_of z) count size align) x) v
          (where_found (x == count) (acted o.0 v.caller (λ b. Allocate b size align) (allocate_reply (limit_of o.1) count size align))) none_noted)
          (λ j. (sym ins j, sym sh j))
          (exchanged ws vs r at (x == count) refl) in (
            g.0,
            g.1,
            record {
              gives = g.2;
              learns = found_given ws vs r at sh
                  (where_found (x == count) (acted v.inside v.caller (λ b. Allocate b size align) (allocate_reply (limit_of v.shape) count size align))) g;
            },
          );
    }
