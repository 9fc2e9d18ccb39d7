-- The steps that learn the term of a number in the hand, raise it, and give the number back.
use Rattle.std.proofs.Common.{◌≡◌, ◌≢◌, ℕ, ◌+◌, ◌^◌, ◌<◌, ◌≤◌, true, List, [], ◌++◌, length, bit_or, set, get_or, sym, refl, ap, ◌∙◌, subst, arith, inl, inr, ⊎_elim, Some, None}
use Rattle.std.specs.Int.{bit_at}
use mathlib.Core.Option.{some}
use mathlib.Core.Logic.{dite}
use native.Mathlib.Decide.{ℕ_discrete}
use lib.ListN.{get_elem?}
use Rattle.fm_words.specs.{declared.shape.Shape.{Shape}, Places.{at as place_at, groups, number_bits, term}}
use Rattle.fm_base.specs.{declared.{caller.Caller.{Caller}, arena_id.ArenaId.{ArenaId}}, Finds.{Find}}
use Rattle.fm_base_machine.{specs.Functions.{put}, proofs.Putting.{put_here, put_else}}
use Rattle.fm_rule_facts.specs.declared.step.Step.TheVariants.{LearnsTerm, RaisesTerm, GivesNumber}
use Rattle.fm_rule_facts.specs.Hands.{Number, no_number, number_taken, number_learnt, number_drawn, number_left, number_joined, HasNumberIn, last_term}
use Rattle.fm_rule_facts.specs.{Views.{View}, Steps.{part, entries, noted, none_noted, number_at}}
use Rattle.fm_rule_facts.specs.Facts.{PoolWords, Owners, WasDrawn, bit_of, next_of, IsUndrawn, IsMarked, IsJoined, KeepsNumber, HasNumberInHand, Shows, World, Owns, Rule}
use Rattle.fm_rule_facts.specs.Moves.{Moved, Same, NumbersOn, KeepsHand, MayStep, MayStore, NumbersMoved}
use Rattle.fm_rule_facts.proofs.{Groups.{bit_here, bit_else, or_here, or_else}, Looking.{wants_in}, Gone.{NoSlots, none_founded}, Founds.{NoneDrawn}}
use Rattle.fm_rule_facts.proofs.{Keeping.{gathered_all}, Sessions.{caller_is}, Shown.{shows_same, shows_numbers, shows_term}}
use Rattle.fm_rule_facts.proofs.{Ruling.{AreLooked, page_like, keeps_with}, Leaving.{callers_stay, numbers_left, pages_left}, Working.{work_as}}
use Rattle.fm_rule_steps.proofs.{Knowing.{own}, Staying.{slots_still, sweeps_still}, Plain.{Made}}

module _ (z : Shape) (me : ℕ) (v : View) (l : v.live ≡ true) (ws : List ℕ) (vs : List View) (r : Rule z ws vs) (at : get_elem? vs me ≡ some v) where
  abbrev mine : Owns z r.history r.memory r.machine r.owners me v
  mine = own z ws vs r me v at l

  -- ---- what all of them do

  module _ (numbers' terms' number' : ℕ → ℕ) (x : Number) where
    abbrev m' : PoolWords
    m' = record r.memory { numbers = numbers'; terms = terms' }

    abbrev o' : Owners
    o' = record r.owners { number = number' }

    abbrev p : View
    p = record v { number = x }

    same : Same v p
    same = record { home = refl; shape = refl; live = refl; caller = refl; seen = refl; met = refl; finds = refl; gathered = refl; whole = refl }

    -- the rule after a step that changes numbers, terms and which number is in the hand
    pub turns : (i y : ℕ) (fs : ℕ → List Find) → NoneDrawn fs → NoSlots fs
        → AreLooked r v fs → NumbersMoved me v.caller.number r.memory.numbers r.memory.terms r.owners.number numbers' terms' number'
        → NumbersOn z me v p r.memory r.owners m' o' → KeepsHand z (r.history ++ []) v m' r.machine o' me p
        → ((c : Caller) (a : ArenaId) → r.machine.inside c ≡ Some a → IsMarked z r.memory.marks terms' r.machine.life c a) → Shows z (set ws i y) m'
        → Made z ws vs me v i y p [] fs
    turns i y fs nd slots looks moved on hand marked shows =
        let d : Moved me z v.caller r.memory r.machine r.owners [] m' o' = record {
          allowed = tt;
          marks = λ k h. refl;
          callers = callers_stay;
          numbers = moved;
          closers = λ b q h. (refl, tt);
          sweepers = λ b q h n. (refl, record { session = h; maps = λ i. refl; given = refl });
          holders = λ s g q b h. (refl, q, b, refl);
          taken = λ s k y. inl y;
          pages = pages_left;
        } in
        let world : World z m' r.machine = record {
          marked = marked;
          sessions = r.world.sessions;
          slots = r.world.slots;
          counts = r.world.counts;
          givens = r.world.givens;
        } in
        keeps_with z ws (set ws i y) vs r me v p [] fs m' o' at l d same nd
        (none_founded z r.history r.memory r.owners.taker r.machine.life v.caller fs slots (length r.history)) looks tt r.pages
        (λ b h. inr (h, refl, (λ y. y)))
        (sweeps_still me v p r.memory r.machine r.owners m' r.machine o' same refl (λ b q. refl) (λ b q h. (q, h)))
        (slots_still z me v p r.memory r.owners m' o' same refl (λ s. refl) (λ s g f. f) refl)
        (λ q j b. inr (refl, page_like q (r.owners.berth q) v p refl refl refl))
        (λ b. refl) on shows world
        (work_as mine.work)
        hand

  drawn_none : NoneDrawn none_noted
  drawn_none k f i = absurd i

  slots_none : NoSlots none_noted
  slots_none k f i = absurd i

  looks_none : AreLooked r v none_noted
  looks_none f i = absurd i

  -- ---- its term is learnt

  learning : (n : ℕ) → v.number ≡ number_taken n → (i : ℕ) → i ≡ place_at z (term n)
      → Made z ws vs me v i (get_or ws i 0) (record v { number = number_learnt n (get_or ws i 0) }) [] none_noted
  learning n in_hand i is =
      let h : IsUndrawn z r.memory r.owners me n = subst (HasNumberInHand z r.history r.memory r.machine r.owners me v) in_hand mine.number in
      let x : ℕ = get_or ws i 0 in
      let word : x ≡ r.memory.terms n = ap (λ (j : ℕ). get_or ws j 0) is ∙ r.shows.terms n h.loose.low in
      turns r.memory.numbers r.memory.terms r.owners.number (number_learnt n x) i x none_noted drawn_none slots_none looks_none
      numbers_left
      (record {
        kept = λ k low b. inr (inl (
          b,
          refl,
          refl,
          refl,
          (λ (y : KeepsNumber k v). (y.0, ⊎_elim inl (λ (q : HasNumberIn k v.number). inr (subst (HasNumberIn k) in_hand q)) y.1)),
        ));
        freed = λ k b. let y = r.free_numbers k b in record { mark = y.mark; fresh = y.fresh };
        terms = record { terms = λ k. omega arith; last = r.last; used = λ k t h. inl h };
        wants = λ k h. ((l, inr (x, ap (λ (s : ℕ). number_learnt s x) (sym (subst (HasNumberIn k) in_hand (wants_in k v h))))), refl);
      })
      (record {
        number = (
          record { loose = record { low = h.loose.low; owner = h.loose.owner; bit = h.loose.bit; mark = h.loose.mark }; fresh = h.fresh },
          word,
        );
        not_own = λ k q. mine.not_own k (subst (HasNumberIn k) (sym in_hand) q);
        stays = λ c q. absurd (let y : number_taken n ≡ number_drawn c = sym in_hand ∙ q in cc);
      })
      (λ c a q. r.world.marked c a q)
      (shows_same z r.valid ws r.memory r.shows i)

  term_few : (n : ℕ) → v.number ≡ number_taken n → get_or ws (place_at z (term n)) 0 ≤ last_term
  term_few n in_hand =
      let h : IsUndrawn z r.memory r.owners me n = subst (HasNumberInHand z r.history r.memory r.machine r.owners me v) in_hand mine.number in
      let a = r.shows.terms n h.loose.low in let b = r.last n in omega arith

  -- ---- the term of a gathered caller's number is raised

  raising : (c : Caller) → v.number ≡ number_joined c
      → Made z ws vs me v (place_at z (term c.number)) (c.term + 1) (record v { number = number_left c.number }) [] none_noted
  raising c in_hand =
      let h : IsJoined z r.memory r.owners me v c = subst (HasNumberInHand z r.history r.memory r.machine r.owners me v) in_hand mine.number in
      let n : ℕ = c.number in
      let terms' : ℕ → ℕ = put r.memory.terms n (c.term + 1) in
      let on : (k : ℕ) → k ≢ n → terms' k ≡ r.memory.terms k = put_else r.memory.terms n (c.term + 1) in
      let here : terms' n ≡ c.term + 1 = put_here r.memory.terms n (c.term + 1) in
      let mine_far : n ≢ v.caller.number = mine.not_own n (subst (HasNumberIn n) (sym in_hand) refl) in
      let outside : r.machine.inside c ≡ None = subst (λ (x : Caller). r.machine.inside x ≡ None) h.gathered.2
      (gathered_all z r.history r.memory r.machine r.owners me v mine h.gathered.0 h.gathered.1).1.outside in
      turns r.memory.numbers terms' r.owners.number (number_left n) (place_at z (term n)) (c.term + 1) none_noted drawn_none slots_none looks_none
      (record {
        owner = refl;
        bit = refl;
        term = on v.caller.number (λ e. mine_far (sym e));
        others = λ k b f. (refl, b, on k (λ e. f (ap r.owners.number e ∙ h.loose.owner)));
      })
      (record {
        kept = λ k low b. dite (ℕ_discrete k n)
            (λ e. inl (ap r.owners.number e ∙ h.loose.owner, (l, inr e)))
            (λ ne. inr (inl (
              b,
              refl,
              on k ne,
              refl,
              (λ (y : KeepsNumber k v). (y.0, ⊎_elim inl (λ (q : HasNumberIn k v.number). absurd (ne (subst (HasNumberIn k) in_hand q))) y.1)),
            )));
        freed = λ k b.
            let ne : k ≢ n = (λ e. let q : bit_of r.memory.numbers k ≡ 0 = ap (bit_of r.memory.numbers) e ∙ h.loose.bit in omega arith) in
            let y = r.free_numbers k b in
            record {
              mark = y.mark;
              fresh = λ q. y.fresh (subst (λ (t : ℕ). WasDrawn r.memory.draw r.owners.who r.owners.rank (record { number = k; term = t })) (on k ne) q);
            };
        terms = record {
          terms = λ k. dite (ℕ_discrete k n)
              (λ e. let a : terms' k ≡ c.term + 1 = ap terms' e ∙ here in let b : r.memory.terms k ≡ c.term = ap r.memory.terms e ∙ sym h.term in omega arith)
              (λ ne. let a = on k ne in omega arith);
          last = λ k. dite (ℕ_discrete k n)
              (λ e. let a : terms' k ≡ c.term + 1 = ap terms' e ∙ here in let b = h.left in omega arith)
              (λ ne. let a = on k ne in let b = r.last k in omega arith);
          used = λ k t low. dite (ℕ_discrete k n)
              (λ e.
              let a : terms' k ≡ c.term + 1 = ap terms' e ∙ here in
              let b : r.memory.terms k ≡ c.term = ap r.memory.terms e ∙ sym h.term in
              dite (ℕ_discrete t c.term)
              (λ q. inr (subst (WasDrawn r.memory.draw r.owners.who r.owners.rank) (λ j. record { number = sym e j; term = sym q j })
              (subst (WasDrawn r.memory.draw r.owners.who r.owners.rank) h.gathered.2
              (gathered_all z r.history r.memory r.machine r.owners me v mine h.gathered.0 h.gathered.1).1.drawn)))
              (λ ne. inl (omega arith)))
              (λ ne. inl (let a = on k ne in omega arith));
        };
        wants = λ k h. absurd (⊎_elim (λ (e : v.number ≡ number_taken k). let q : number_taken k ≡ number_joined c = sym e ∙ in_hand in cc)
            (λ (e : (t : ℕ) × (v.number ≡ number_learnt k t)). let q : number_learnt k e.0 ≡ number_joined c = sym e.1 ∙ in_hand in cc) h.1);
      })
      (record {
        number = (
          record {
            loose = record { low = h.loose.low; owner = h.loose.owner; bit = h.loose.bit; mark = h.loose.mark };
            -- nobody has a later term than his number had
            fresh = λ q. let a = (r.terms (next_of terms' n) q).1 in let b = here in let e = h.term in omega arith;
          },
          inr (h.gathered.0, h.gathered.1, ap (λ (x : Caller). x.number) h.gathered.2),
        );
        not_own = λ k q e. mine_far (sym q ∙ e);
        stays = λ d q. absurd (let y : number_joined c ≡ number_drawn d = sym in_hand ∙ q in cc);
      })
      -- who is under way has the term of its number, so it isn't a caller of this one
      (λ d a q.
      let y = r.world.marked d a q in
      let ne : d.number ≢ n = (λ e.
      let one : d ≡ c = caller_is d c e (y.term ∙ (ap r.memory.terms e ∙ sym h.term)) in
      let none : None ≡ Some a = sym outside ∙ (ap r.machine.inside (sym one) ∙ q) in absurd (cc)) in
      record { number = y.number; term = y.term ∙ sym (on d.number ne); mark = y.mark; stands = y.stands })
      (shows_term z r.valid ws r.memory r.shows n (c.term + 1) h.loose.low)

  -- ---- the number is given back

  giving : (g bit : ℕ) → g < groups z → bit < 64 → v.number ≡ number_left (number_at g bit)
      → Made z ws vs me v (place_at z (number_bits g)) (bit_or (get_or ws (place_at z (number_bits g)) 0) (2 ^ bit)) (record v { number = no_number }) [] none_noted
  giving g bit low few in_hand =
      let i : ℕ = place_at z (number_bits g) in
      let n : ℕ = number_at g bit in
      let found : ℕ = get_or ws i 0 in
      let word : ℕ = bit_or found (2 ^ bit) in
      let is_found : found ≡ r.memory.numbers g = r.shows.numbers g low in
      let h : IsUndrawn z r.memory r.owners me n = (subst (HasNumberInHand z r.history r.memory r.machine r.owners me v) in_hand mine.number).0 in
      let numbers' : ℕ → ℕ = put r.memory.numbers g word in
      let is_one : bit_at word bit ≡ 1 = or_here found bit in
      let others : (k : ℕ) → k ≢ bit → bit_at word k ≡ bit_at (r.memory.numbers g) k =
      (λ k ne. or_else found bit k ne ∙ ap (λ (x : ℕ). bit_at x k) is_found) in
      let bit_on : (k : ℕ) → k ≢ n → bit_of numbers' k ≡ bit_of r.memory.numbers k = bit_else r.memory.numbers g bit word few others in
      let now : bit_of numbers' n ≡ 1 = bit_here r.memory.numbers g bit word few ∙ is_one in
      let mine_far : n ≢ v.caller.number = mine.not_own n (subst (HasNumberIn n) (sym in_hand) refl) in
      turns numbers' r.memory.terms r.owners.number no_number i word none_noted drawn_none slots_none looks_none
      (record {
        owner = refl;
        bit = bit_on v.caller.number (λ e. mine_far (sym e));
        term = refl;
        others = λ k b f. (refl, bit_on k (λ e. f (ap r.owners.number e ∙ h.loose.owner)) ∙ b, refl);
      })
      (record {
        kept = λ k q b.
            let ne : k ≢ n = (λ e. let y : bit_of numbers' k ≡ 1 = ap (bit_of numbers') e ∙ now in omega arith) in
            inr (inl (
              sym (bit_on k ne) ∙ b,
              refl,
              refl,
              refl,
              (λ (y : KeepsNumber k v). (y.0, ⊎_elim inl (λ (q : HasNumberIn k v.number). absurd (ne (subst (HasNumberIn k) in_hand q))) y.1)),
            ));
        freed = λ k b. dite (ℕ_discrete k n)
            (λ e. record {
              mark = ap r.memory.marks e ∙ h.loose.mark;
              fresh = λ q. h.fresh (subst (λ (x : ℕ). WasDrawn r.memory.draw r.owners.who r.owners.rank (next_of r.memory.terms x)) e q);
            })
            (λ ne. let y = r.free_numbers k (sym (bit_on k ne) ∙ b) in record { mark = y.mark; fresh = y.fresh });
        terms = record { terms = λ k. omega arith; last = r.last; used = λ k t h. inl h };
        wants = λ k h. absurd (⊎_elim (λ (e : v.number ≡ number_taken k). let q : number_taken k ≡ number_left n = sym e ∙ in_hand in cc)
            (λ (e : (t : ℕ) × (v.number ≡ number_learnt k t)). let q : number_learnt k e.0 ≡ number_left n = sym e.1 ∙ in_hand in cc) h.1);
      })
      (record {
        number = tt;
        not_own = λ k q. absurd q;
        stays = λ c q. absurd (let y : number_left n ≡ number_drawn c = sym in_hand ∙ q in cc);
      })
      (λ c a q. r.world.marked c a q)
      (shows_numbers z r.valid ws r.memory r.shows g word low)

-- ---- the steps

pub learn_term_steps : (z : Shape) (me : ℕ) (v : View) (n : ℕ) → v.live ≡ true → v.number ≡ number_taken n
    → MayStep z (LearnsTerm n) me v (place_at z (term n)) (λ x. x)
unfolding part entries noted
learn_term_steps z me v n l in_hand = record {
  may = λ ws vs r at.
      let y = learning z me v l ws vs r at n in_hand (place_at z (term n)) refl in
      (y.0, y.1, record { gives = y.2; learns = term_few z me v l ws vs r at n in_hand });
}

pub raise_term_steps : (z : Shape) (me : ℕ) (v : View) (c : Caller) → v.live ≡ true → v.number ≡ number_joined c
    → MayStore z (RaisesTerm c.number) me v (place_at z (term c.number)) (c.term + 1)
unfolding part entries noted
raise_term_steps z me v c l in_hand = record {
  may = λ ws vs r at. let y = raising z me v l ws vs r at c in_hand in (y.0, y.1, record { gives = y.2; learns = tt });
}

pub give_number_steps : (z : Shape) (me : ℕ) (v : View) (n g bit : ℕ) → v.live ≡ true → n ≡ number_at g bit → g < groups z → bit < 64
    → v.number ≡ number_left (number_at g bit)
    → MayStep z (GivesNumber n) me v (place_at z (number_bits g)) (λ x. bit_or x (2 ^ bit))
unfolding part entries noted
give_number_steps z me v n g bit l is low few in_hand = record {
  may = λ ws vs r at.
      let y = giving z me v l ws vs r at g bit low few in_hand in
      (y.0, y.1, record { gives = y.2; learns = tt });
}
