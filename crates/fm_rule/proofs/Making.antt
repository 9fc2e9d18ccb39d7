-- The steps that a pass of a pool may make, by what is known at the call.
use Rattle.std.proofs.Common.{◌≡◌, ◌≢◌, ℕ, ◌+◌, ◌-◌, ◌/◌, ◌%◌, ◌^◌, ◌<◌, ◌≤◌, ◌==◌, bit_or, true, [], ◌∷◌, Some, None, refl, sym, ap, ◌∙◌, subst, arith}
use Rattle.std.proofs.lemmas.Bool.{leb-true}
use prog.Atomic.{either}
use Rattle.fm_words.specs.declared.shape.Shape.{Shape}
use Rattle.fm_words.specs.Places.{Place, IsPlace, at, front, draw, slot_bits, page_bits, map, page_word, mark, session, given, number_bits, term}
use Rattle.fm_words.specs.{Bits.{IsWithout}, Maps.{map_word}}
use Rattle.fm_base.specs.declared.{caller.Caller.{Caller}, arena_id.ArenaId.{ArenaId}, kind.Kind.TheVariants.{Global, Automatic}}
use Rattle.fm_base.specs.{Machine.{IsPower, rounded_up}, Arenas.{MayUse, owner_of}}
use Rattle.fm_rule_facts.specs.{Hands.{nothing, taken, learnt, retired, no_number, number_taken, number_left, number_joined}, declared.step.Step.{Step}}
use Rattle.fm_rule_facts.specs.declared.step.Step.TheVariants.{Draws, Marks, Checks, Loads, Stores, SwapsIf, Adds, Allocates, Holds, Unholds, Backs, Unmarks, Shuts, Visits, TakesSlot, LearnsGeneration, Opens, Claims, Maps, ReadsMap, SweepsGiven, SweepsMap, Unmaps, Wipes, GivesPage, ReturnsPage, ResetsGiven, Retires, GivesSlot, TakesNumber, LearnsTerm, RaisesTerm, GivesNumber, Looks}
use Rattle.fm_rule_facts.specs.{Views.{View, In, IsKnown, limit_of}, Words.{alive_word, closing_word, free_word, held_word, mark_of}, Handles.{back_word}}
use Rattle.fm_rule_facts.specs.{Closes.{passed_of}, Steps.{draw_next, number_at, CanDraw, CanReach, HasParts, HasPlace, AreAllGiven, given_next}}
use Rattle.fm_rule_facts.{specs.{Parts.{unread, named, wiping, mapping_of}, Moves.{MayStep, MayStore}}, proofs.Groups.{group_of_page}}
use Rattle.fm_rule_steps.proofs.{Acting.{mark_steps, check_steps, unmark_steps, look_steps}, Reaching.{load_steps, store_steps, swap_steps, add_steps}}
use Rattle.fm_rule_steps.proofs.{Allocating.{allocate_steps}, Holding.{hold_steps, unhold_steps}, Backing.{back_steps}, Drawing.{draw_steps}}
use Rattle.fm_rule_steps.proofs.{Numbering.{learn_term_steps, raise_term_steps, give_number_steps}, Shutting.{shut_steps}, Visiting.{visit_steps}}
use Rattle.fm_rule_steps.proofs.{Taking.{take_steps, generation_steps}, Opening.{open_steps}, Wiping.{look_map_steps, unmap_steps, wipe_steps, return_steps}}
use Rattle.fm_rule_steps.proofs.{Resetting.{given_steps, reset_steps}, Claiming.{claim_steps, give_page_steps}, Mapping.{map_steps, read_map_steps}}
use Rattle.fm_rule_steps.proofs.{Retiring.{retire_steps}, Giving.{give_steps}, TakingNumbers.{take_number_steps}}
use Rattle.atomic_table.specs.declared.shared.Seat.{Seat}
use Rattle.fm_rule.specs.{declared.{pool.Pool.{Pool}, seen.Seen.{Seen}}, Acts.{CanAct, CanStore}, Views.{numbers_of}}
use Rattle.fm_rule.proofs.Knowing.{IsOpen, Sees, WordPlace, place_below, group_low, group_of_low, at_number, inner, in_shape, shape_is, knows, fits, number_below, slot_in_hand, swept_fits, swept_over, inside_slot, word_place, page_in_sweep, group_in_hand, group_in_sweep, can_draw_in}

module _ {pool : Pool} {now : View} {seat : Seat (Unit {0}) Seen} (k : IsOpen pool now seat) where
  abbrev z : Shape
  z = pool.shape

  abbrev v : View
  v = seat.me.0

  abbrev s : Sees z now (numbers_of seat.table_id) v
  s = k.sees

  -- a step may be made at this place
  module _ {i : ℕ} {step : Step} (p : Place) (e : i ≡ at z p) (h : IsPlace z p) where
    at_place : {f : ℕ → ℕ} → MayStep z step seat.id v (at z p) f → CanAct pool seat i step f
    at_place {f = f} may = record {
      table = k.table;
      place = place_below z p h e;
      may = subst (λ (n : ℕ). MayStep z step seat.id v n f) (sym e) may;
    }

    -- an exchange of the word by this one
    exchanged : (found : ℕ) {new next : ℕ} → new ≡ next → MayStep z step seat.id v (at z p) (λ n. either (n == found) next n)
        → CanAct pool seat i step (λ n. either (n == found) new n)
    exchanged found q may =
        at_place (subst (λ (x : ℕ). MayStep z step seat.id v (at z p) (λ n. either (n == found) x n)) (sym q) may)

    -- bits that become 1
    raised : {bits more : ℕ} → bits ≡ more → MayStep z step seat.id v (at z p) (λ w. bit_or w more) → CanAct pool seat i step (λ w. bit_or w bits)
    raised q may = at_place (subst (λ (x : ℕ). MayStep z step seat.id v (at z p) (λ w. bit_or w x)) (sym q) may)

    stored : {x y : ℕ} → x ≡ y → MayStore z step seat.id v (at z p) y → CanStore pool seat i step x
    stored q may = record {
      table = k.table;
      place = place_below z p h e;
      may = subst (λ (y : ℕ × ℕ). MayStore z step seat.id v y.0 y.1) (λ j. (sym e j, sym q j)) may;
    }

  module _ {i : ℕ} where
    pub can_mark : {a : ArenaId} {c : Caller} {y : ℕ} → now.inside ≡ None → c ≡ v.caller → i ≡ at z (mark c.number) → y ≡ mark_of a
        → CanStore pool seat i (Marks a) y
    can_mark {a = a} o e p q =
        stored (mark v.caller.number) (p ∙ ap (λ (d : Caller). at z (mark d.number)) e) (number_below s) q
        (mark_steps z seat.id v k.live a (inner s (λ (x : View). x.inside ≡ None) o))

    pub can_check : {a : ArenaId} → now.inside ≡ None → now.mark ≡ Some a → IsKnown now a → MayUse a now.caller → i ≡ at z (session a.slot)
        → CanAct pool seat i (Checks a) (λ n. n)
    can_check {a = a} o m known u p =
        at_place (session a.slot) p (fits s a known).slot
        (check_steps z seat.id v k.live a (inner s (λ (x : View). x.inside ≡ None) o) (inner s (λ (x : View). x.mark ≡ Some a) m) (knows s a known)
        (inner s (λ (x : View). MayUse a x.caller) u))

    -- a word of the arena that the pass is inside
    module _ {w : ℕ} (act : CanReach now w) (place : HasPlace now w i) where
      reach : CanReach v w
      reach = let y = inner s (λ (x : View). CanReach x w) act in record { id = y.id; inside = y.inside; given = y.given }

      here : WordPlace z v w i
      here = word_place s place

      abbrev word : Place
      word = page_word here.page (w % z.page_words)

      pub can_load : CanAct pool seat i (Loads w) (λ n. n)
      can_load = at_place word here.is here.low (load_steps z seat.id v k.live reach.id reach.inside w reach.given here.page here.read)

      pub can_store : {y : ℕ} → y < 2 ^ 64 → CanStore pool seat i (Stores w y) y
      can_store {y = y} f = stored word here.is here.low refl (store_steps z seat.id v k.live reach.id reach.inside w reach.given here.page here.read y f)

      pub can_swap : {o y : ℕ} → y < 2 ^ 64 → CanAct pool seat i (SwapsIf w o y) (λ n. either (n == o) y n)
      can_swap {o = o} {y = y} f =
          at_place word here.is here.low (swap_steps z seat.id v k.live reach.id reach.inside w reach.given here.page here.read o y f)

      pub can_add : {n : ℕ} → CanAct pool seat i (Adds w n) (λ x. (x + n) % 2 ^ 64)
      can_add {n = n} = at_place word here.is here.low (add_steps z seat.id v k.live reach.id reach.inside w reach.given here.page here.read n)

    pub can_allocate : {a : ArenaId} {count size align limit next : ℕ} → now.inside ≡ Some a → IsPower align
        → (rounded_up count align + size ≤ limit_of now.shape → HasParts now count (rounded_up count align + size)) → i ≡ at z (given a.slot)
        → limit ≡ limit_of z → next ≡ given_next limit count size align → CanAct pool seat i (Allocates count size align) (λ n. either (n == count) next n)
    can_allocate {a = a} {count = count} {size = size} {align = align} e q parts p lim is =
        exchanged (given a.slot) p (inside_slot s e) count (is ∙ ap (λ (m : ℕ). given_next m count size align) lim)
        (allocate_steps z seat.id v k.live a (inner s (λ (x : View). x.inside ≡ Some a) e) count size align q (λ fits w low h.
        let end : ℕ = rounded_up count align + size in
        let below : end ≤ limit_of z = leb-true end (limit_of z) fits in
        let y = inner s (λ (x : View). HasParts x count end) (parts (subst (λ (x : Shape). end ≤ limit_of x) (sym s.of) below)) w low h in
        (y.0, in_shape s (λ (x : Shape). In (mapping_of (w / x.page_words) y.0) v.reads) y.1)) (shape_is s))

    pub can_draw : {e next : ℕ} → CanDraw now e → i ≡ at z draw → next ≡ draw_next e → CanAct pool seat i (Draws e) (λ n. either (n == e) next n)
    can_draw {e = e} d p is = exchanged draw p tt e is (draw_steps z seat.id v e k.live k.met (can_draw_in s d))

    pub can_take_number : {g e bit next : ℕ} → now.number ≡ no_number → bit < 64 → number_at g bit < z.passes → IsWithout e bit next
        → i ≡ at z (number_bits g) → CanAct pool seat i (TakesNumber g e bit) (λ n. either (n == e) next n)
    can_take_number {g = g} {e = e} {bit = bit} {next = next} none few low w p =
        at_place (number_bits g) p (group_of_low z g bit low)
        (take_number_steps z seat.id v g e bit next k.live (inner s (λ (x : View). x.number ≡ no_number) none) (group_of_low z g bit low) few low w)

    pub can_learn_term : {n : ℕ} → now.number ≡ number_taken n → n < z.passes → i ≡ at z (term n) → CanAct pool seat i (LearnsTerm n) (λ x. x)
    can_learn_term {n = n} h low p =
        at_place (term n) p low (learn_term_steps z seat.id v n k.live (inner s (λ (x : View). x.number ≡ number_taken n) h))

    pub can_raise_term : {c : Caller} {y : ℕ} → now.number ≡ number_joined c → c.number < z.passes → i ≡ at z (term c.number) → y ≡ c.term + 1
        → CanStore pool seat i (RaisesTerm c.number) y
    can_raise_term {c = c} h low p q =
        stored (term c.number) p low q (raise_term_steps z seat.id v c k.live (inner s (λ (x : View). x.number ≡ number_joined c) h))

    pub can_give_number : {n w : ℕ} → now.number ≡ number_left n → n < z.passes → i ≡ at z (number_bits (n / 64)) → w ≡ 2 ^ (n % 64)
        → CanAct pool seat i (GivesNumber n) (λ x. bit_or x w)
    can_give_number {n = n} h low p q =
        raised (number_bits (n / 64)) p (group_low z n low) q
        (give_number_steps z seat.id v n (n / 64) (n % 64) k.live (at_number n) (group_low z n low) (omega arith)
        (inner s (λ (x : View). x.number ≡ number_left n) h ∙ ap number_left (at_number n)))

    pub can_hold : {a : ArenaId} {word next : ℕ} → IsKnown now a → MayUse a now.caller → i ≡ at z (session a.slot) → next ≡ held_word a word
        → CanAct pool seat i (Holds a word) (λ n. either (n == word) next n)
    can_hold {a = a} {word = word} known u p is =
        exchanged (session a.slot) p (fits s a known).slot word is
        (hold_steps z seat.id v k.live a word (knows s a known) (inner s (λ (x : View). MayUse a x.caller) u))

    pub can_unhold : {a : ArenaId} → IsKnown now a → In a now.holds → a.kind ≢ Automatic → i ≡ at z (session a.slot)
        → CanAct pool seat i (Unholds a) (λ n. (n + (2 ^ 64 - 1)) % 2 ^ 64)
    can_unhold {a = a} known h by_hand p =
        at_place (session a.slot) p (fits s a known).slot (unhold_steps z seat.id v k.live a (inner s (λ (x : View). In a x.holds) h) by_hand)

    pub can_back : {a : ArenaId} {word next : ℕ} → IsKnown now a → In a now.handles → a.kind ≡ Automatic → i ≡ at z (session a.slot)
        → next ≡ back_word a word → CanAct pool seat i (Backs a word) (λ n. either (n == word) next n)
    can_back {a = a} {word = word} known h automatic p is =
        exchanged (session a.slot) p (fits s a known).slot word is
        (back_steps z seat.id v a word k.live (knows s a known) automatic (inner s (λ (x : View). In a x.handles) h))

    pub can_unmark : {c : Caller} → c ≡ v.caller → i ≡ at z (mark c.number) → CanStore pool seat i Unmarks 0
    can_unmark e p =
        stored (mark v.caller.number) (p ∙ ap (λ (d : Caller). at z (mark d.number)) e) (number_below s) refl (unmark_steps z seat.id v k.live)

    pub can_shut : {a : ArenaId} {o n : ℕ} → IsKnown now a → MayUse a now.caller → (a.kind ≢ Global) × (a.kind ≢ Automatic)
        → i ≡ at z (session a.slot) → o ≡ alive_word a 0 → n ≡ closing_word a → CanAct pool seat i (Shuts a) (λ x. either (x == o) n x)
    can_shut {a = a} {n = n} known u by_hand p q r =
        at_place (session a.slot) p (fits s a known).slot
        (subst (λ (x : ℕ × ℕ). MayStep z (Shuts a) seat.id v (at z (session a.slot)) (λ y. either (y == x.0) x.1 y)) (λ j. (sym q j, sym r j))
        (shut_steps z seat.id v a k.live (knows s a known) (inner s (λ (x : View). MayUse a x.caller) u) by_hand.0 by_hand.1))

    pub can_visit : {a : ArenaId} {n : ℕ} → passed_of now.closes a ≡ Some n → n < now.shape.passes → i ≡ at z (mark n)
        → CanAct pool seat i (Visits a n) (λ n. n)
    can_visit {a = a} {n = n} h few p =
        let low = subst (λ (x : Shape). n < x.passes) s.of few in
        at_place (mark n) p low (visit_steps z seat.id v a n k.live (shape_is s) (inner s (λ (x : View). passed_of x.closes a ≡ Some n) h) low)

    pub can_take : {e bit next : ℕ} → now.hand ≡ nothing → bit < z.slots → IsWithout e bit next → i ≡ at z slot_bits
        → CanAct pool seat i (TakesSlot e bit) (λ n. either (n == e) next n)
    can_take {e = e} {bit = bit} {next = next} h low w p =
        at_place slot_bits p tt (take_steps z seat.id v e bit next k.live (shape_is s) (inner s (λ (x : View). x.hand ≡ nothing) h) low w)

    pub can_learn_generation : {n : ℕ} → now.hand ≡ taken n → i ≡ at z (session n) → CanAct pool seat i (LearnsGeneration n) (λ n. n)
    can_learn_generation {n = n} h p =
        at_place (session n) p (slot_in_hand s h refl) (generation_steps z seat.id v n k.live (inner s (λ (x : View). x.hand ≡ taken n) h))

    pub can_open : {a : ArenaId} {y : ℕ} → now.hand ≡ learnt a.slot a.generation → owner_of a ≡ v.caller → i ≡ at z (session a.slot) → y ≡ alive_word a 0
        → CanStore pool seat i (Opens a) y
    can_open {a = a} h o p q =
        stored (session a.slot) p (slot_in_hand s h refl) q
        (open_steps z seat.id v a k.live (inner s (λ (x : View). x.hand ≡ learnt a.slot a.generation) h) o)

    pub can_take_page : {g e bit next : ℕ} → now.pages ≡ [] → bit < 64 → number_at g bit < z.pages → IsWithout e bit next → i ≡ at z (page_bits g)
        → CanAct pool seat i (Claims g e bit) (λ n. either (n == e) next n)
    can_take_page {g = g} {e = e} {bit = bit} {next = next} h few low w p =
        at_place (page_bits g) p (group_of_page z g bit low)
        (claim_steps z seat.id v g e bit next k.live (inner s (λ (x : View). x.pages ≡ []) h) few low w)

    pub can_map : {a : ArenaId} {n q new : ℕ} → now.inside ≡ Some a → n < z.reach → now.pages ≡ q ∷ [] → i ≡ at z (map a.slot n) → new ≡ map_word q
        → CanAct pool seat i (Maps a n q) (λ n. either (n == 0) new n)
    can_map {a = a} {n = n} {q = q} ins low h p e =
        exchanged (map a.slot n) p (inside_slot s ins, low) 0 e
        (map_steps z seat.id v a n q k.live (shape_is s) (inner s (λ (x : View). x.inside ≡ Some a) ins) low (inner s (λ (x : View). x.pages ≡ q ∷ []) h))

    pub can_read_map : {a : ArenaId} {n : ℕ} → now.inside ≡ Some a → n < z.reach → i ≡ at z (map a.slot n) → CanAct pool seat i (ReadsMap a n) (λ n. n)
    can_read_map {a = a} {n = n} ins low p =
        at_place (map a.slot n) p (inside_slot s ins, low)
        (read_map_steps z seat.id v a n k.live (shape_is s) (inner s (λ (x : View). x.inside ≡ Some a) ins) low)

    pub can_give_page : {q n : ℕ} → now.pages ≡ q ∷ [] → i ≡ at z (page_bits (q / 64)) → n ≡ 2 ^ (q % 64)
        → CanAct pool seat i (GivesPage q) (λ w. bit_or w n)
    can_give_page {q = q} h p e =
        raised (page_bits (q / 64)) p (group_in_hand s h) e
        (give_page_steps z seat.id v q k.live (inner s (λ (x : View). x.pages ≡ q ∷ []) h))

    pub can_give : {n w : ℕ} → now.hand ≡ retired n → i ≡ at z slot_bits → w ≡ 2 ^ n → CanAct pool seat i (GivesSlot n) (λ x. bit_or x w)
    can_give {n = n} h p q = raised slot_bits p tt q (give_steps z seat.id v n k.live (inner s (λ (x : View). x.hand ≡ retired n) h))

  -- steps of the sweep of an arena that has come so far
  module _ (a : ArenaId) {n : ℕ} (sweep : passed_of now.sweeps a ≡ Some n) where
    so_far : passed_of v.sweeps a ≡ Some n
    so_far = inner s (λ (x : View). passed_of x.sweeps a ≡ Some n) sweep

    slot : a.slot < z.slots
    slot = (swept_fits s sweep).slot

    pub can_sweep_given : {i : ℕ} → n ≡ 0 → i ≡ at z (given a.slot) → CanAct pool seat i (SweepsGiven a) (λ n. n)
    can_sweep_given e p = at_place (given a.slot) p slot (given_steps z seat.id v a n k.live so_far (omega arith) (shape_is s))

    pub can_sweep_map : {i : ℕ} → n < z.reach → now.swept ≡ unread → i ≡ at z (map a.slot n) → CanAct pool seat i (SweepsMap a n) (λ n. n)
    can_sweep_map h u p =
        at_place (map a.slot n) p (slot, h) (look_map_steps z seat.id v a n k.live so_far (shape_is s) h (inner s (λ (x : View). x.swept ≡ unread) u))

    pub can_unmap : {i q : ℕ} → n < z.reach → now.swept ≡ named a n q → i ≡ at z (map a.slot n) → CanStore pool seat i (Unmaps a n q) 0
    can_unmap {q = q} h u p =
        stored (map a.slot n) p (slot, h) refl (unmap_steps z seat.id v a n k.live so_far q h (inner s (λ (x : View). x.swept ≡ named a n q) u))

    pub can_wipe : {i q w : ℕ} → n < z.reach → now.swept ≡ wiping a n q w → w < z.page_words → i ≡ at z (page_word q w)
        → CanStore pool seat i (Wipes a n q w) 0
    can_wipe {q = q} {w = w} h u f p =
        stored (page_word q w) p (page_in_sweep s u, f) refl
        (wipe_steps z seat.id v a n k.live so_far q w h (inner s (λ (x : View). x.swept ≡ wiping a n q w) u) f)

    pub can_return_page : {i q w bits : ℕ} → n < z.reach → now.swept ≡ wiping a n q w → AreAllGiven now a n w → i ≡ at z (page_bits (q / 64))
        → bits ≡ 2 ^ (q % 64) → CanAct pool seat i (ReturnsPage a q) (λ w. bit_or w bits)
    can_return_page {q = q} {w = w} h u g p e =
        raised (page_bits (q / 64)) p (group_in_sweep s u) e
        (return_steps z seat.id v a n k.live so_far q w h (inner s (λ (x : View). x.swept ≡ wiping a n q w) u)
        (inner s (λ (x : View). AreAllGiven x a n w) g) (swept_over s sweep))

    pub can_reset : {i : ℕ} → n ≡ z.reach → now.swept ≡ unread → i ≡ at z (given a.slot) → CanStore pool seat i (ResetsGiven a) 0
    can_reset e u p =
        stored (given a.slot) p slot refl
        (reset_steps z seat.id v a k.live (so_far ∙ ap Some e) (inner s (λ (x : View). x.swept ≡ unread) u))

    pub can_retire : {i y : ℕ} → n ≡ z.reach + 1 → now.hand ≡ nothing → now.swept ≡ unread → i ≡ at z (session a.slot)
        → y ≡ free_word z.generations (a.generation + 1) → CanStore pool seat i (Retires a) y
    can_retire e h u p q =
        stored (session a.slot) p slot q
        (retire_steps z seat.id v a k.live (shape_is s) (inner s (λ (x : View). x.hand ≡ nothing) h) (inner s (λ (x : View). x.swept ≡ unread) u)
        (so_far ∙ ap Some e))

-- a look of a seat that is at the pool's table
pub can_look : {pool : Pool} {seat : Seat (Unit {0}) Seen} {i : ℕ} → seat.table_id ≡ pool.table.shared.table_id → seat.me.0.live ≡ true
    → i ≡ at pool.shape front → CanAct pool seat i Looks (λ n. n)
can_look {pool = pool} {seat = seat} {i = i} t l p = record {
  table = t;
  place = place_below pool.shape front tt p;
  may = look_steps pool.shape seat.id seat.me.0 l i;
}
