-- The rule after a step.
use Rattle.std.proofs.Common.{◌≡◌, ◌≢◌, ℕ, ◌≤◌, true, false, List, [], ◌++◌, length, set, sym, refl, ap, ◌∙◌, subst, arith, inl, inr, ⊎_elim}
use Rattle.std.specs.Int.{bit_at}
use mathlib.Core.Option.{some}
use lib.ListN.{get_elem?}
use Rattle.atomic_table.proofs.Lists.{at_set, set_else}
use Rattle.fm_words.specs.declared.shape.Shape.{Shape}
use Rattle.fm_base.specs.{declared.caller.Caller.{Caller}, Calls.{Entry}, Finds.{Find, Gathered, is_number}}
use Rattle.fm_base_machine.specs.{Functions.{Closes, Over, Machine}, Steps.{moved_by}}
use Rattle.fm_rule_facts.specs.Views.{all_gathered, brought, caller_of, View, In, limit_of}
use Rattle.fm_rule_facts.specs.Facts.{PoolWords, Work, free, shut, Berth, loose, claimed, mapped, unmapped, IsAt, Pages, HasPage, Owners, Shows, World, HasDraw, HasClose, HasSweep, KeepsSlot, Somewhere, Knows, Rule, KeepsCaller, WantsNumber, IsUsed, wanted, IsLooked, LookedBy, KeepsNumber, WasDrawn, bit_of, IsSpent}
use Rattle.fm_rule_facts.specs.Moves.{Moved, Same, KeepsHand, KeepsCloses, KeepsSweeps, KeepsSlots, KeepsPages, KeepsHolds, told, Gives, MayLend, NumbersOn}
use Rattle.fm_rule_facts.specs.{Hands.{number_drawn}, Holds.{holds_of}, Loans.{Loan, loans_of, loans_after}}
use Rattle.fm_rule_facts.{proofs.Lending.{loans_after-append, lent-append, lent_on, within_on}, specs.Gone.{FoundBy, IsFounded}}
use Rattle.fm_rule_facts.proofs.{Looking.{wants_loose, looked_on, looked_told, none_looked}, Gone.{none_founded, found_on, founded_on, founded_told}}
use Rattle.fm_rule_facts.proofs.{Frame.{legal_on}, Summing.{total-set}, Handles.{handles_told}}
use Rattle.fm_rule_facts.proofs.Founds.{NoneDrawn, NoDraw, none_within, counted_later, counted_told, counted_set}
use Rattle.fm_rule_facts.proofs.{Keeping.{set_there, in_append, in_left, stays_somewhere, silent_on, drawn_still, drawn_before, others_know}, Owning.{own_view, gives_by}}
use Rattle.fm_rule_facts.proofs.Sounding.{sound_of}
use mathlib.Core.Option.{some-injective}
use mathlib.Core.Logic.{dite}
use native.Mathlib.Decide.{ℕ_discrete}

-- ---- the rule

still_gathered : (v p : View) (zs es : List Entry) (fs : ℕ → List Find) (s : Same v p) (g : Gathered) → In g (all_gathered v)
    → In g (all_gathered (told p zs es fs))
still_gathered v p zs es fs s g i = in_left g (all_gathered p) [] (subst (In g) (λ j. sym s.gathered j ++ brought (sym s.met j)) i)

-- what one view has by its number, it has after a step
caller_still : (v p : View) (zs es : List Entry) (fs : ℕ → List Find) (s : Same v p) (c : Caller) → (v.number ≡ number_drawn c → p.number ≡ number_drawn c)
    → KeepsCaller c v → KeepsCaller c (told p zs es fs)
caller_still v p zs es fs s c stays (inl h) = inl (s.live ∙ h.0, s.caller ∙ h.1)
caller_still v p zs es fs s c stays (inr (inl d)) = inr (inl (stays d))
caller_still v p zs es fs s c stays (inr (inr g)) = inr (inr (g.0, still_gathered v p zs es fs s g.0 g.1, g.2))

draw_still : (v p : View) (zs es : List Entry) (fs : ℕ → List Find) (s : Same v p) (d n : Caller) → HasDraw d n v → HasDraw d n (told p zs es fs)
draw_still v p zs es fs s d n (inl h) =
    let f = h.2 in
    inl (
      s.live ∙ h.0,
      s.caller ∙ h.1,
      (f.0, in_left f.0 p.finds (fs (length (p.seen ++ zs))) (subst (In f.0) (sym s.finds) f.1), f.2),
    )
draw_still v p zs es fs s d n (inr g) = inr (g.0, still_gathered v p zs es fs s g.0 g.1, g.2, g.3)

-- a page that a view has, it has whatever it is told
page_told : (i : ℕ) (b : Berth) (p : View) (zs es : List Entry) (fs : ℕ → List Find) → HasPage i b p → HasPage i b (told p zs es fs)
page_told i loose p zs es fs h = h
page_told i (claimed j) p zs es fs h = h
page_told i (mapped k c) p zs es fs h = h
page_told i (unmapped j a c) p zs es fs h = h

-- where another view has the pages that one had, and the same in its sweep
pub page_by : (i : ℕ) (b : Berth) (v w : View) → w.live ≡ v.live → (In i v.pages → In i w.pages) → w.swept ≡ v.swept → HasPage i b v → HasPage i b w
page_by i loose v w l p s h = h
page_by i (claimed j) v w l p s h = (l ∙ h.0, p h.1)
page_by i (mapped k c) v w l p s h = h
page_by i (unmapped j a c) v w l p s h = (l ∙ h.0, (h.1.0, s ∙ h.1.1))

pub page_like : (i : ℕ) (b : Berth) (v w : View) → w.live ≡ v.live → w.pages ≡ v.pages → w.swept ≡ v.swept → HasPage i b v → HasPage i b w
page_like i loose v w l p s h = h
page_like i (claimed j) v w l p s h = (l ∙ h.0, subst (In i) (sym p) h.1)
page_like i (mapped k c) v w l p s h = h
page_like i (unmapped j a c) v w l p s h = (l ∙ h.0, (h.1.0, s ∙ h.1.1))

-- the facts of pages after entries
abbrev pub PagesAfter : Shape → List Entry → PoolWords → Machine → Owners → List Entry → Type 0
PagesAfter z h m t o es =
    Pages z (loans_after (loans_of h) es) m.page_bits m.maps m.cells o.berth m.sessions (moved_by t es).life (moved_by t es).word (moved_by t es).given

-- what a step by v notes of numbers: each find says how many were gathered, and of each number of its group who has it
abbrev pub AreLooked : {z : Shape} {ws : List ℕ} {vs : List View} → Rule z ws vs → View → (ℕ → List Find) → Type 0
AreLooked {z} {ws} {vs} r v fs = (f : Find) → In f (fs (length r.history))
    → (is_number f.step ≡ true → f.gathered ≡ length v.gathered) × LookedBy z r.memory r.owners vs v.gathered f

-- it may note none
abbrev pub NoNumbers : (ℕ → List Find) → Type 0
NoNumbers fs = (n : ℕ) (f : Find) → In f (fs n) → is_number f.step ≡ false

pub unlooked : {z : Shape} {ws : List ℕ} {vs : List View} (r : Rule z ws vs) (v : View) (fs : ℕ → List Find) → NoNumbers fs → AreLooked r v fs
unlooked {z} {ws} {vs} r v fs none f i =
    let no : is_number f.step ≡ false = none (length r.history) f i in
    ((λ q. absurd (let e : true ≡ false = sym q ∙ no in cc)), none_looked z r.memory r.owners vs v.gathered f no)

-- the rule and what is told after a step of the seat me: what the words, what is decoded from them and the caller's part are is the step's own business
module _ (z : Shape) (ws ws' : List ℕ) (vs : List View) (r : Rule z ws vs) (me : ℕ) (v p : View) (es : List Entry) (fs : ℕ → List Find) (m' : PoolWords)
    (o' : Owners) (at : get_elem? vs me ≡ some v) (l : v.live ≡ true) (d : Moved me z v.caller r.memory r.machine r.owners es m' o') (s : Same v p) where
  abbrev After : Type 0
  After = MayLend z r.machine (loans_of r.history) es → PagesAfter z r.history m' r.machine o' es
      → KeepsCloses me v p r.machine r.owners (moved_by r.machine es) o'
      → KeepsSweeps me v p r.memory r.machine r.owners m' (moved_by r.machine es) o' → KeepsSlots z me v p r.memory r.owners m' o'
      → KeepsPages me v p r.owners o'
      → KeepsHolds v p r.machine (moved_by r.machine es) → NumbersOn z me v p r.memory r.owners m' o'
      → Shows z ws' m' → World z m' (moved_by r.machine es)
      → Work z m' (moved_by r.machine es) o' me p → KeepsHand z (r.history ++ es) v m' (moved_by r.machine es) o' me p
      → (w : View) × (rule : Rule z ws' (set vs me w)) × Gives v p es fs w × (w.seen ≡ rule.history)

  pub keeps_with : NoneDrawn fs → ((f : Find) → In f (fs (length r.history)) → FoundBy z r.history r.memory r.owners.taker r.machine.life v.caller f)
      → AreLooked r v fs → After
  keeps_with nd new looks lends pages kc kw ks kp kh kn shows world work q =
      let k = r.each me v at in
      let u = k.owns l in
      let zs : List Entry = k.begins.0 in
      let is : r.history ≡ v.seen ++ zs = k.begins.1 in
      let w : View = told p zs es fs in
      let t' : Machine = moved_by r.machine es in
      let on = legal_on (limit_of z) v.caller r.history es r.machine r.legal r.depicts d.allowed in
      let here : (c : Caller) (P : View → Type 0) → (P v → P w) → Somewhere vs (r.owners.seat c) P → Somewhere (set vs me w) (o'.seat c) P =
      (λ c P f y. subst (λ (i : ℕ). Somewhere (set vs me w) i P) (sym (d.callers.seat c)) (stays_somewhere vs me v w (r.owners.seat c) P at f y)) in
      let after : (c : Caller) → WasDrawn r.memory.draw r.owners.who r.owners.rank c → WasDrawn m'.draw o'.who o'.rank c =
      drawn_still d in
      let before : (c : Caller) → WasDrawn m'.draw o'.who o'.rank c → WasDrawn r.memory.draw r.owners.who r.owners.rank c =
      drawn_before d in
      let more : r.memory.draw ≤ m'.draw = (let b = d.callers.draw in omega arith) in
      let wants_on : (before : List Gathered) → ((g : Gathered) → In g before → WasDrawn r.memory.draw r.owners.who r.owners.rank g.caller) → (n : ℕ)
      → Somewhere vs (r.owners.number n) (WantsNumber n) → IsUsed m' o' (set vs me w) before n = (λ before b n y. dite (ℕ_discrete (r.owners.number n) me)
      (λ e.
      let same : y.view ≡ v = some-injective y.view v (sym y.there ∙ (ap (get_elem? vs) e ∙ at)) in
      let q = kn.wants n (subst (WantsNumber n) same y.holds) in
      wanted (record { view = w; there = ap (get_elem? (set vs me w)) (q.1 ∙ e) ∙ set_there vs me v w at; holds = q.0 }))
      (λ ne.
      let loose = wants_loose z ws vs r (r.owners.number n) n y.view y.there y.holds in
      let q = (d.numbers.others n loose.bit ne).0 in
      wanted (subst (λ (j : ℕ). Somewhere (set vs me w) j (WantsNumber n)) (sym q)
      (record { view = y.view; there = set_else vs me (r.owners.number n) w ne ∙ y.there; holds = y.holds })))) in
      let rule : Rule z ws' (set vs me w) = record {
        history = r.history ++ es;
        memory = m';
        machine = t';
        owners = o';
        valid = r.valid;
        legal = on.0;
        rightly =
            lent-append z.page_words (limit_of z) [] [] r.history es r.rightly
            (lent_on z (limit_of z) v.caller r.history (loans_of r.history) es r.machine r.legal r.depicts d.allowed lends);
        within = λ e i. ⊎_elim (r.within e) (within_on z r.machine (loans_of r.history) es lends e) (in_append e r.history es i);
        pages = subst (λ (ls : List Loan). Pages z ls m'.page_bits m'.maps m'.cells o'.berth m'.sessions t'.life t'.word t'.given)
            (sym (loans_after-append [] r.history es)) pages;
        depicts = on.1;
        shows = shows;
        world = world;
        few = (let a = r.few in let b = d.callers.draw in omega arith);
        begun = (let a = r.begun in let b = d.callers.draw in omega arith);
        first = d.callers.who 0 ∙ r.first;
        ranks = λ k h. ap o'.rank (d.callers.who k) ∙ (d.callers.rank (r.owners.who k) ∙ r.ranks k (let b = d.callers.draw in omega arith));
        later = λ c n.
            let far : c ≢ v.caller = (λ x. n (subst (WasDrawn m'.draw o'.who o'.rank) (sym x) (after v.caller u.drawn))) in
            silent_on (limit_of z) r.history v.caller r.machine es d.allowed c far (r.later c (λ y. n (after c y)));
        terms = λ c y. let x = r.terms c (before c y) in (x.0, (let a = x.1 in let b = kn.terms.terms c.number in omega arith));
        last = kn.terms.last;
        used = λ n t h. ⊎_elim (λ x. after (caller_of n t) (r.used n t x)) (after (caller_of n t)) (kn.terms.used n t h);
        callers = λ c y. here c (KeepsCaller c) (caller_still v p zs es fs s c (q.stays c)) (r.callers c (before c y));
        drawers = λ k i h.
            let y = r.drawers k i (let b = d.callers.draw in omega arith) in
            let a : Caller = r.owners.who y.0 in
            let b : Caller = r.owners.who k in (
              y.0,
              y.1,
              subst (λ (x : Caller × Caller). Somewhere (set vs me w) (o'.seat x.0) (HasDraw x.0 x.1)) (λ j. (sym (d.callers.who y.0) j, sym (d.callers.who k) j))
                  (here a (HasDraw a b) (draw_still v p zs es fs s a b) y.2),
            );
        free_numbers = kn.freed;
        numbers = λ n low b. ⊎_elim
            (λ (x : (o'.number n ≡ me) × KeepsNumber n p). inl (record {
              view = w;
              there = ap (get_elem? (set vs me w)) x.0 ∙ set_there vs me v w at;
              holds = x.1;
            }))
            (⊎_elim
            (λ (x : (bit_of r.memory.numbers n ≡ 0) × (o'.number n ≡ r.owners.number n) × (m'.terms n ≡ r.memory.terms n) × (m'.marks n ≡ r.memory.marks n)
            × (KeepsNumber n v → KeepsNumber n p)). ⊎_elim
            (λ (y : Somewhere vs (r.owners.number n) (KeepsNumber n)). inl (subst (λ (j : ℕ). Somewhere (set vs me w) j (KeepsNumber n)) (sym x.1)
            (stays_somewhere vs me v w (r.owners.number n) (KeepsNumber n) at x.4 y)))
            (λ (y : IsSpent r.memory r.owners n). inr (record {
              mark = x.3 ∙ y.mark;
              last = x.2 ∙ y.last;
              drawn = subst (λ (k : ℕ). WasDrawn m'.draw o'.who o'.rank (record { number = n; term = k })) (sym x.2)
                  (after (record { number = n; term = r.memory.terms n }) y.drawn);
            }))
            (r.numbers n low x.0))
            (λ (y : IsSpent m' o' n). inr y))
            (kn.kept n low b);
        closed = λ a h. ⊎_elim
            (λ (x : (o'.closer a ≡ me) × HasClose a p). record { view = w; there = ap (get_elem? (set vs me w)) x.0 ∙ set_there vs me v w at; holds = x.1 })
            (λ (x : (r.machine.life a ≡ Closes) × (o'.closer a ≡ r.owners.closer a) × (HasClose a v → HasClose a p)).
            subst (λ (i : ℕ). Somewhere (set vs me w) i (HasClose a)) (sym x.1)
            (stays_somewhere vs me v w (r.owners.closer a) (HasClose a) at x.2 (r.closed a x.0)))
            (kc a h);
        swept = λ a f h. ⊎_elim
            (λ (x : (o'.closer a ≡ me) × HasSweep a p). record { view = w; there = ap (get_elem? (set vs me w)) x.0 ∙ set_there vs me v w at; holds = x.1 })
            (λ (x : (r.memory.sessions a.slot ≡ shut a) × (r.machine.life a ≡ Over) × (o'.closer a ≡ r.owners.closer a) × (HasSweep a v → HasSweep a p)).
            subst (λ (i : ℕ). Somewhere (set vs me w) i (HasSweep a)) (sym x.2)
            (stays_somewhere vs me v w (r.owners.closer a) (HasSweep a) at x.3 (r.swept a x.0 x.1)))
            (kw a f h);
        slots = λ i g low f left b. ⊎_elim
            (λ (x : (o'.holder i ≡ me) × KeepsSlot i p). record { view = w; there = ap (get_elem? (set vs me w)) x.0 ∙ set_there vs me v w at; holds = x.1 })
            (λ (x : (r.memory.sessions i ≡ free g) × (bit_at r.memory.bits i ≡ 0) × (o'.holder i ≡ r.owners.holder i) × (KeepsSlot i v → KeepsSlot i p)).
            subst (λ (j : ℕ). Somewhere (set vs me w) j (KeepsSlot i)) (sym x.2)
            (stays_somewhere vs me v w (r.owners.holder i) (KeepsSlot i) at x.3 (r.slots i g low x.0 left x.1)))
            (ks i g low f left b);
        berths = λ i j b. ⊎_elim
            (λ (x : (j ≡ me) × HasPage i (o'.berth i) p). record {
              view = w;
              there = ap (get_elem? (set vs me w)) x.0 ∙ set_there vs me v w at;
              holds = page_told i (o'.berth i) p zs es fs x.1;
            })
            (λ (x : (o'.berth i ≡ r.owners.berth i) × (HasPage i (r.owners.berth i) v → HasPage i (r.owners.berth i) p)).
            stays_somewhere vs me v w j (HasPage i (o'.berth i)) at
            (λ y. page_told i (o'.berth i) p zs es fs (subst (λ (c : Berth). HasPage i c p) (sym x.0) (x.1 (subst (λ (c : Berth). HasPage i c v) x.0 y))))
            (subst (λ (c : Berth). Somewhere vs j (HasPage i c)) (sym x.0) (r.berths i j (subst (IsAt j) x.0 b))))
            (kp i j b);
        held = λ a.
            let x = total-set (holds_of a) vs me v w at in
            let y = r.held a in
            let h = kh a in
            let same : holds_of a w ≡ holds_of a p = refl in
            omega arith;
        each = λ j y at'. ⊎_elim
            (λ (e : (j ≡ me) × (w ≡ y)). subst (λ (x : ℕ × View). Knows z (r.history ++ es) m' t' o' x.0 x.1) (λ i. (sym e.0 i, e.1 i))
            (own_view z r.history zs me r.memory m' r.machine r.owners o' es fs v p k l d is s work q
            (handles_told (limit_of z) r.machine v p r.history zs es fs l d.allowed is u.mine s kh u.handles)))
            (λ (e : (j ≢ me) × (get_elem? vs j ≡ some y)). others_know z r.history me v.caller r.memory r.machine r.owners es m' o' d u.seated u.owner u.drawn
            (λ c a x. (r.world.marked c a x).stands) j y e.0
            (r.each j y e.1))
            (at_set vs me j w y at');
        counted = counted_set r.memory.draw r.owners.who r.owners.rank m'.draw o'.who o'.rank more after vs me w
            (counted_told m'.draw o'.who o'.rank v p zs es fs s.finds (λ j. s.gathered j ++ brought (s.met j)) (none_within m'.draw o'.who o'.rank fs nd)
            (counted_later r.memory.draw r.owners.who r.owners.rank m'.draw o'.who o'.rank more after v (r.counted me v at))) r.counted;
        founds = λ j y at'. ⊎_elim
            (λ (e : (j ≡ me) × (w ≡ y)). subst (IsFounded z (r.history ++ es) m' o'.taker t'.life) e.1
            (founded_told z (r.history ++ es) m' o'.taker t'.life v p zs es fs s.caller s.finds (λ j. s.gathered j ++ brought (s.met j))
            (λ f i. found_on z r.history r.memory r.machine r.owners.taker es m' o'.taker d.taken v.caller f
            (new f (subst (λ (xs : List Entry). In f (fs (length xs))) (ap (λ (xs : List Entry). xs ++ zs) s.seen ∙ sym is) i)))
            (founded_on z r.history r.memory r.machine r.owners.taker es m' o'.taker d.taken v (r.founds me v at))))
            (λ (e : (j ≢ me) × (get_elem? vs j ≡ some y)).
            founded_on z r.history r.memory r.machine r.owners.taker es m' o'.taker d.taken y (r.founds j y e.1))
            (at_set vs me j w y at');
        looked = λ j y at'. ⊎_elim
            (λ (e : (j ≡ me) × (w ≡ y)). subst (IsLooked z m' o' (set vs me w)) e.1
            (looked_on z r.memory r.owners vs m' o' (set vs me w) after (λ q. (let b = d.callers.draw in omega arith)) wants_on w
            (looked_told z r.memory r.owners vs v p zs es fs s.finds s.gathered s.met
            (λ f i. looks f (subst (λ (xs : List Entry). In f (fs (length xs))) (ap (λ (xs : List Entry). xs ++ zs) s.seen ∙ sym is) i))
            (r.looked me v at))))
            (λ (e : (j ≢ me) × (get_elem? vs j ≡ some y)).
            looked_on z r.memory r.owners vs m' o' (set vs me w) after (λ q. (let b = d.callers.draw in omega arith)) wants_on y (r.looked j y e.1))
            (at_set vs me j w y at');
      } in
      let seen : w.seen ≡ r.history ++ es = ap (λ (xs : List Entry). (xs ++ zs) ++ es) s.seen ∙ ap (λ (xs : List Entry). xs ++ es) (sym is) in
      let sound = sound_of z ws' (set vs me w) rule me w (set_there vs me v w at) (s.live ∙ l) refl seen in
      (w, rule, gives_by z r.history zs me r.memory m' r.machine r.owners o' es fs v p k l d is s sound, seen)

  -- where no slot was looked for
  pub keeps : NoDraw fs → After
  keeps nd =
      keeps_with (λ n f i. let y = nd n f i in (y.0, y.1))
      (none_founded z r.history r.memory r.owners.taker r.machine.life v.caller fs (λ n f i. let y = nd n f i in (y.2, y.3)) (length r.history))
      (unlooked r v fs (λ n f i. (nd n f i).4))
