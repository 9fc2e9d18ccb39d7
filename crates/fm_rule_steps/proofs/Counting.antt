-- The rule over a draw: a caller was drawn.
use Rattle.std.proofs.Common.{◌≡◌, ◌≢◌, ◌⊎◌, ℕ, ◌+◌, ◌<◌, ◌≤◌, true, false, List, [], ◌++◌, length, set, sym, refl, ap, ◌∙◌, subst, arith, inl, inr, ⊎_elim}
use mathlib.Core.Option.{some}
use mathlib.Core.Logic.{dite}
use native.Mathlib.Decide.{ℕ_discrete}
use lib.ListN.{get_elem?}
use Rattle.fm_words.specs.{declared.shape.Shape.{Shape}, Places.{at as place_at, draw as draw_place}}
use Rattle.fm_base.specs.{Calls.{Entry}, Finds.{Find, Gathered, is_number}, declared.caller.Caller.{Caller}}
use Rattle.fm_base_machine.{specs.Functions.{put, put_by}, proofs.Putting.{put_here, put_else, by_here, by_else, one_caller}}
use Rattle.fm_rule_facts.specs.{Views.{View, In, all_gathered, caller_of}, Holds.{holds_of}}
use Rattle.fm_rule_facts.specs.Facts.{PoolWords, Owners, HasDraw, HasClose, HasSweep, KeepsSlot, DrewIn, IsDrawn, Somewhere, Owns, Knows, Rule, HasPage, WantsNumber, IsUsed, used, wanted, IsLooked, WasDrawn, bit_of, next_of, IsUndrawn, IsSpent, IsCounted, HasNumberInHand, KeepsCaller, KeepsNumber}
use Rattle.fm_rule_facts.{specs.Hands.{number_learnt, number_drawn, HasNumberIn, most_draws}, proofs.Looking.{looked_on, looked_told, none_looked, wants_in}}
use Rattle.fm_rule_facts.{specs.{Moves.{told}, Gone.{IsFounded}}, proofs.{Ruling.{page_like}, Gone.{NoSlots, none_founded, founded_same, founded_told}}}
use Rattle.fm_rule_facts.proofs.Founds.{AreWithin, counted_later, counted_told, counted_set}
use Rattle.fm_rule_facts.proofs.{Keeping.{set_there, in_left, in_right, stays_somewhere, gathered_all}, Summing.{total-set}, Shown.{shows_draw}}
use Rattle.atomic_table.proofs.Lists.{set_else}
use mathlib.Core.Option.{some-injective}
use Rattle.fm_rule_steps.proofs.{Knowing.{own}, Drawn.{knows, other_knows}, Splitting.{views_set}}

module _ (z : Shape) (me : ℕ) (v : View) (l : v.live ≡ true) (lone : v.met ≡ []) (ws : List ℕ) (vs : List View) (r : Rule z ws vs)
    (at : get_elem? vs me ≡ some v) where
  abbrev mine : Owns z r.history r.memory r.machine r.owners me v
  mine = own z ws vs r me v at l

  abbrev zs : List Entry
  zs = (r.each me v at).begins.0

  abbrev Was : Caller → Type 0
  Was c = WasDrawn r.memory.draw r.owners.who r.owners.rank c

  -- the rule where the step drew the next caller of the number n in the hand
  module _ (n k : ℕ) (learnt : v.number ≡ number_learnt n k) (room : r.memory.draw ≢ most_draws) (fs : ℕ → List Find)
      (noted : (i : ℕ) → DrewIn (record { number = n; term = k }) (fs i)) (slots : NoSlots fs)
      (idle : (k : ℕ) (f : Find) → In f (fs k) → is_number f.step ≡ false) where
    abbrev pub c : Caller
    c = record { number = n; term = k }

    abbrev d : ℕ
    d = r.memory.draw

    abbrev pub who' : ℕ → Caller
    who' = put r.owners.who d c

    abbrev pub rank' : Caller → ℕ
    rank' = put_by r.owners.rank c d

    abbrev seat' : Caller → ℕ
    seat' = put_by r.owners.seat c me

    its : IsUndrawn z r.memory r.owners me n × (k ≡ r.memory.terms n)
    its = subst (HasNumberInHand z r.history r.memory r.machine r.owners me v) learnt mine.number

    not_own : n ≢ v.caller.number
    not_own = mine.not_own n (subst (HasNumberIn n) (sym learnt) refl)

    new : ¬ (Was c)
    new q = its.0.fresh (subst (λ (t : ℕ). Was (record { number = n; term = t })) its.1 q)

    was_else : (x : Caller) → Was x → x ≢ c
    was_else x q e = new (subst Was e q)

    on : (x : Caller) → Was x → WasDrawn (d + 1) who' rank' x
    on x q =
        let same : rank' x ≡ r.owners.rank x = by_else r.owners.rank c d x (was_else x q) in
        let low = q.0 in (
          omega arith,
          ap who' same ∙ (put_else r.owners.who d c (r.owners.rank x) (λ e. omega arith) ∙ q.1),
        )

    pub now : WasDrawn (d + 1) who' rank' c
    now = let e : rank' c ≡ d = by_here r.owners.rank c d in (omega arith, ap who' e ∙ put_here r.owners.who d c)

    back : (x : Caller) → x ≢ c → WasDrawn (d + 1) who' rank' x → Was x
    back x ne q =
        let same : rank' x ≡ r.owners.rank x = by_else r.owners.rank c d x ne in
        let far : r.owners.rank x ≢ d = (λ e. ne (sym q.1 ∙ (ap who' (same ∙ e) ∙ put_here r.owners.who d c))) in
        let low = q.0 in (
          omega arith,
          sym (put_else r.owners.who d c (r.owners.rank x) far) ∙ (ap who' (sym same) ∙ q.1),
        )

    seat_on : (x : Caller) → Was x → seat' x ≡ r.owners.seat x
    seat_on x q = by_else r.owners.seat c me x (was_else x q)

    mine_only : (x : Caller) → WasDrawn (d + 1) who' rank' x → Was x ⊎ (r.owners.number x.number ≡ me)
    mine_only x q = elim (one_caller x c) [
      | yes e ↦ inr (ap (λ (y : Caller). r.owners.number y.number) e ∙ its.0.loose.owner)
      | no ne ↦ inl (back x ne q)
    ]

    abbrev m1 : PoolWords
    m1 = record r.memory { draw = d + 1 }

    abbrev o1 : Owners
    o1 = record r.owners { who = who'; rank = rank'; seat = seat' }

    drawn_now : IsDrawn z r.history m1 r.machine o1 me v c
    drawn_now = record {
      loose = record { low = its.0.loose.low; owner = its.0.loose.owner; bit = its.0.loose.bit; mark = its.0.loose.mark };
      term = its.1;
      drawn = now;
      later = λ e. new (subst Was (r.first ∙ sym e) (
        (let a = r.ranks 0 r.begun in let b = r.begun in omega arith),
        ap r.owners.who (r.ranks 0 r.begun),
      ));
      seated = by_here r.owners.seat c me;
      apart = λ e. not_own (ap (λ (x : Caller). x.number) e);
      ungathered = λ g j e. new (subst Was e (gathered_all z r.history r.memory r.machine r.owners me v mine g j).1.drawn);
      silent = let y = r.later c new in record { calls = y.calls; outside = y.outside };
    }

    abbrev drawing : View
    drawing = record v { number = number_drawn c; whole = false }

    abbrev pub drawer : View
    drawer = told drawing zs [] fs

    caller_on : (x : Caller) → KeepsCaller x v → KeepsCaller x drawer
    caller_on x (inl h) = inl h
    caller_on x (inr (inl h)) = absurd (let e : number_learnt n k ≡ number_drawn x = sym learnt ∙ h in cc)
    caller_on x (inr (inr h)) = inr (inr (h.0, in_left h.0 (all_gathered v) [] h.1, h.2))

    draw_on : (x y : Caller) → HasDraw x y v → HasDraw x y drawer
    draw_on x y (inl h) = let q = h.2 in inl (h.0, h.1, (q.0, in_left q.0 v.finds (fs (length (v.seen ++ zs))) q.1, q.2))
    draw_on x y (inr h) = inr (h.0, in_left h.0 (all_gathered v) [] h.1, h.2, h.3)

    number_on : (x : ℕ) → KeepsNumber x v → KeepsNumber x drawer
    number_on x h = (h.0, ⊎_elim inl (λ (i : HasNumberIn x v.number). inr (subst (HasNumberIn x) learnt i)) h.1)

    here : (x : Caller) (P : View → Type 0) → Was x → (P v → P drawer) → Somewhere vs (r.owners.seat x) P → Somewhere (set vs me drawer) (seat' x) P
    here x P b g y = subst (λ (j : ℕ). Somewhere (set vs me drawer) j P) (sym (seat_on x b)) (stays_somewhere vs me v drawer (r.owners.seat x) P at g y)

    was_who : (j : ℕ) → j < d → Was (r.owners.who j)
    was_who j l = (let a = r.ranks j l in omega arith, ap r.owners.who (r.ranks j l))

    who_on : (j : ℕ) → j < d → who' j ≡ r.owners.who j
    who_on j l = put_else r.owners.who d c j (λ e. omega arith)

    founds : AreWithin (d + 1) who' rank' fs → IsCounted (d + 1) who' rank' drawer
    founds few = counted_told (d + 1) who' rank' v drawing zs [] fs refl refl few
        (counted_later d r.owners.who r.owners.rank (d + 1) who' rank' (omega arith) on v (r.counted me v at))

    pub drew : AreWithin (d + 1) who' rank' fs → Rule z (set ws (place_at z draw_place) (d + 1)) (set vs me drawer)
    drew few = record {
      history = r.history;
      memory = m1;
      machine = r.machine;
      owners = o1;
      valid = r.valid;
      legal = r.legal;
      rightly = r.rightly;
      within = r.within;
      pages = r.pages;
      depicts = r.depicts;
      shows = shows_draw z r.valid ws r.memory r.shows (d + 1);
      world = record {
        marked = r.world.marked;
        sessions = r.world.sessions;
        slots = r.world.slots;
        counts = r.world.counts;
        givens = r.world.givens;
      };
      few = (let a = r.few in let b : ℕ = most_draws in let ne : d ≢ b = room in omega arith);
      begun = omega arith;
      first = who_on 0 r.begun ∙ r.first;
      ranks = λ j l. dite (ℕ_discrete j d)
          (λ e. ap (λ (x : ℕ). rank' (who' x)) e ∙ (ap rank' (put_here r.owners.who d c) ∙ (by_here r.owners.rank c d ∙ sym e)))
          (λ ne.
          let low : j < d = omega arith in
          ap rank' (who_on j low) ∙ (by_else r.owners.rank c d (r.owners.who j) (was_else (r.owners.who j) (was_who j low)) ∙ r.ranks j low));
      later = λ x n. r.later x (λ y. n (on x y));
      terms = λ x q. elim (one_caller x c) [
        | yes e ↦ subst (λ (y : Caller). (y.number < z.passes) × (y.term ≤ r.memory.terms y.number)) (sym e)
            (its.0.loose.low, (let a = its.1 in omega arith))
        | no ne ↦ r.terms x (back x ne q)
      ];
      last = r.last;
      used = λ x t h. on (caller_of x t) (r.used x t h);
      callers = λ x q. elim (one_caller x c) [
        | yes e ↦ record {
          view = drawer;
          there = ap (get_elem? (set vs me drawer)) (ap seat' e ∙ by_here r.owners.seat c me) ∙ set_there vs me v drawer at;
          holds = inr (inl (ap number_drawn (sym e)));
        }
        | no ne ↦ (let was = back x ne q in here x (KeepsCaller x) was (caller_on x) (r.callers x was))
      ];
      drawers = λ j a b. dite (ℕ_discrete j d)
          (λ e. (
            r.owners.rank v.caller,
            (let x = mine.drawn.0 in omega arith),
            subst (λ (x : Caller × Caller). Somewhere (set vs me drawer) (seat' x.0) (HasDraw x.0 x.1))
                (λ q. (sym (who_on (r.owners.rank v.caller) mine.drawn.0 ∙ mine.drawn.1) q, sym (ap who' e ∙ put_here r.owners.who d c) q))
                (record {
                  view = drawer;
                  there = ap (get_elem? (set vs me drawer)) (seat_on v.caller mine.drawn ∙ mine.seated) ∙ set_there vs me v drawer at;
                  holds = inl (
                    l,
                    refl,
                    (let y = noted (length (v.seen ++ zs)) in (y.0, in_right y.0 v.finds (fs (length (v.seen ++ zs))) y.1, y.2)),
                  );
                }),
          ))
          (λ ne.
          let low : j < d = omega arith in
          let y = r.drawers j a low in
          let lt : y.0 < d = (let x = y.1 in omega arith) in
          let p : Caller = r.owners.who y.0 in
          let q : Caller = r.owners.who j in (
            y.0,
            y.1,
            subst (λ (x : Caller × Caller). Somewhere (set vs me drawer) (seat' x.0) (HasDraw x.0 x.1)) (λ e. (sym (who_on y.0 lt) e, sym (who_on j low) e))
                (here p (HasDraw p q) (was_who y.0 lt) (draw_on p q) y.2),
          ));
      free_numbers = λ x b.
          let y = r.free_numbers x b in
          record {
            mark = y.mark;
            fresh = λ q. elim (one_caller (next_of r.memory.terms x) c) [
              | yes e ↦ absurd (let e' : x ≡ n = ap (λ (y : Caller). y.number) e in
                  let zero : bit_of r.memory.numbers x ≡ 0 = ap (bit_of r.memory.numbers) e' ∙ its.0.loose.bit in omega arith)
              | no ne ↦ y.fresh (back (next_of r.memory.terms x) ne q)
            ];
          };
      numbers = λ x low b. ⊎_elim
          (λ (y : Somewhere vs (r.owners.number x) (KeepsNumber x)). inl
          (stays_somewhere vs me v drawer (r.owners.number x) (KeepsNumber x) at (number_on x) y))
          (λ (y : IsSpent r.memory r.owners x). inr (record { mark = y.mark; last = y.last; drawn = on (next_of r.memory.terms x) y.drawn }))
          (r.numbers x low b);
      closed = λ a h. stays_somewhere vs me v drawer (r.owners.closer a) (HasClose a) at (λ q. q) (r.closed a h);
      swept = λ a q o. stays_somewhere vs me v drawer (r.owners.closer a) (HasSweep a) at (λ p. p) (r.swept a q o);
      slots = λ s g h q left b. stays_somewhere vs me v drawer (r.owners.holder s) (KeepsSlot s) at (λ p. p) (r.slots s g h q left b);
      berths = λ q j b. stays_somewhere vs me v drawer j (HasPage q (r.owners.berth q)) at (page_like q (r.owners.berth q) v drawer refl refl refl)
          (r.berths q j b);
      held = λ a.
          let x = total-set (holds_of a) vs me v drawer at in
          let y = r.held a in
          let s : holds_of a drawer ≡ holds_of a v = refl in
          omega arith;
      each = views_set vs me drawer (Knows z r.history m1 r.machine o1)
          (knows z me v l lone ws vs r at (d + 1) who' rank' seat' on seat_on (number_drawn c) false fs drawn_now (λ n e. not_own_is n e) (λ e. absurd (cc)))
          (λ j y ne e. other_knows z me v l lone ws vs r at (d + 1) who' rank' seat' on seat_on mine_only (λ e. absurd (room e)) j y ne (r.each j y e));
      counted = counted_set d r.owners.who r.owners.rank (d + 1) who' rank' (omega arith) on vs me drawer (founds few) r.counted;
      founds = views_set vs me drawer (λ j u. IsFounded z r.history m1 r.owners.taker r.machine.life u)
          (founded_told z r.history m1 r.owners.taker r.machine.life v drawing zs [] fs refl refl refl
          (none_founded z r.history m1 r.owners.taker r.machine.life v.caller fs slots (length (v.seen ++ zs)))
          (founded_same z r.history r.memory m1 r.owners.taker r.machine.life (λ s k x. x) v (r.founds me v at)))
          (λ j y ne e. founded_same z r.history r.memory m1 r.owners.taker r.machine.life (λ s k x. x) y (r.founds j y e));
      looked = views_set vs me drawer (λ j u. IsLooked z m1 o1 (set vs me drawer) u)
          (looked_now drawer (looked_told z r.memory r.owners vs v drawing zs [] fs refl refl refl
          (λ f i. (
            (λ q. absurd (let u : true ≡ false = sym q ∙ idle (length (v.seen ++ zs)) f i in cc)),
            none_looked z r.memory r.owners vs v.gathered f (idle (length (v.seen ++ zs)) f i),
          )) (r.looked me v at)))
          (λ j y ne e. looked_now y (r.looked j y e));
    }
      where
        -- who wants the number draws its next caller
        wants : (before : List Gathered) → ((x : Gathered) → In x before → Was x.caller) → (x : ℕ) → Somewhere vs (r.owners.number x) (WantsNumber x)
            → IsUsed m1 o1 (set vs me drawer) before x
        wants before b x y = dite (ℕ_discrete (r.owners.number x) me)
            (λ e.
            let same : y.view ≡ v = some-injective y.view v (sym y.there ∙ (ap (get_elem? vs) e ∙ at)) in
            let q : x ≡ n = subst (HasNumberIn x) learnt (wants_in x v (subst (WantsNumber x) same y.holds)) in
            used c (sym q) now (inr (λ g i. was_else g.caller (b g i))))
            (λ ne. wanted (record { view = y.view; there = set_else vs me (r.owners.number x) drawer ne ∙ y.there; holds = y.holds }))

        looked_now : (u : View) → IsLooked z r.memory r.owners vs u → IsLooked z m1 o1 (set vs me drawer) u
        looked_now = looked_on z r.memory r.owners vs m1 o1 (set vs me drawer) on (λ e. absurd (room e)) wants

        not_own_is : (x : ℕ) → x ≡ n → x ≢ v.caller.number
        not_own_is x e q = not_own (sym e ∙ q)

    pub drew_history : (few : AreWithin (d + 1) who' rank' fs) → (drew few).history ≡ r.history
    unfolding drew
    drew_history few = refl
