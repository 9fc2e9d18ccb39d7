-- A view that has seen the whole history is sound.
use Rattle.std.proofs.Common.{◌≡◌, ◌≢◌, ℕ, ◌*◌, ◌/◌, ◌^◌, ◌<◌, ◌≤◌, Bool, true, false, List, [], ◌∷◌, sym, refl, ap, ◌∙◌, subst, arith, inl, inr, ⊎_elim, mul-le-mul_right, Some, None}
use Rattle.std.{proofs.lemmas.Bool.{cases_lt}, specs.Prelude.{Contains}}
use mathlib.Core.Option.{some, some-injective}
use lib.ListN.{get_elem?}
use Rattle.fm_words.specs.{declared.shape.Shape.{Shape}, Shapes.{IsValid}}
use Rattle.fm_base.specs.declared.{caller.Caller.{Caller}, arena_id.ArenaId.{ArenaId}}
use Rattle.fm_base.specs.{Arenas.{only_caller, Life, Alive, Closing, Ended, State, IsUnderWay, has_arena, arena_of}, Calls.{Entry}}
use Rattle.fm_base.specs.{Histories.{IsLegal, state_after, made_by}, Finds.{Gathered, Sweep}}
use Rattle.fm_rule_facts.specs.{Berths.{LentAt}, Parts.{wiping}, Views.{FewLeft, brought, View, Fits, In, IsSound, IsKnown, caller_of, limit_of, state_in}}
use Rattle.fm_rule_facts.specs.Facts.{Berth, loose, claimed, mapped, unmapped, IsAt, IsSweeping, IsWiped, HasSwept, HasPage, Owns, Rule, IsOnce, WasDrawn, IsDrawn, HasNumberInHand}
use Rattle.fm_rule_facts.{proofs.Handing.{slot_below}, specs.{Holds.{grips, holds_of}, Loans.{Loan, loans_of, IsRightlyLent, LendsWithin, loan_of, HasPart}}}
use Rattle.fm_rule_facts.{proofs.{Lending.{over_now}, Alone.{none_now, numbers_gone}, Given.{given_lent, mapped_part}}, specs.Gone.{FoundBy}}
use Rattle.fm_rule_facts.proofs.{Callers.{all_now, few_gathered, whole_has, knows_callers}, Sessions.{unstanding}, Summing.{total-has, some_hold}}
use Rattle.fm_rule_facts.proofs.{Gripping.{held_now, held_lives}, Founds.{find_within}, Keeping.{in_left}}
use Rattle.fm_base_machine.{specs.Functions.{Fresh, Lives, Closes, Over, stage_of}, proofs.{Putting.{contains_first}, Allowing.{not_fresh}}}

-- an arena of the list was opened
pub opened_life : (b : Bool) (l : Life) → b ≡ true → stage_of b l ≢ Fresh
opened_life true Alive h e = absurd (cc)
opened_life true Closing h e = absurd (cc)
opened_life true Ended h e = absurd (cc)
opened_life false l h e = absurd (cc)

-- an arena gives at most 2^40 bytes
limit_below : (z : Shape) → IsValid z → limit_of z ≤ 2 ^ 40
limit_below z v =
    let a : z.reach * z.page_words ≤ z.pages * z.page_words = mul-le-mul_right z.page_words v.reach.1 in
    let x : ℕ = z.reach * z.page_words in
    let y : ℕ = z.pages * z.page_words in
    let b : x ≤ y = a in
    let c : y ≤ 16777216 = v.words in
    let d : x * 8 ≤ 2 ^ 40 = omega arith in
    d

-- an arena that is alive
alive_now : (b : Bool) (l : Life) → stage_of b l ≡ Lives → (b ≡ true) × (l ≡ Alive)
alive_now true Alive e = (refl, refl)
alive_now true Closing e = absurd (cc)
alive_now true Ended e = absurd (cc)
alive_now false l e = absurd (cc)

-- an arena that was shut
closing_now : (b : Bool) (l : Life) → stage_of b l ≡ Closes → (b ≡ true) × (l ≡ Closing)
closing_now true Alive e = absurd (cc)
closing_now true Closing e = (refl, refl)
closing_now true Ended e = absurd (cc)
closing_now false l e = absurd (cc)

-- an arena of which a live view has a hold is alive
lives_held : (z : Shape) (ws : List ℕ) (vs : List View) (r : Rule z ws vs) (me : ℕ) (v : View) → get_elem? vs me ≡ some v → v.live ≡ true
    → (a : ArenaId) → In a (grips a v) → r.machine.life a ≡ Lives
lives_held z ws vs r me v at l a i =
    let here = some_hold a (grips a v) i in
    let mine = held_now a v l in
    let most = total-has (holds_of a) vs me v at in
    let all = r.held a in
    held_lives a r.machine (r.world.counts.only a) (omega arith)

nobody : (ks : List Caller) → ((k : Caller) → ¬ (Contains ks k)) → ks ≡ []
nobody [] n = refl
nobody (k ∷ ks) n = absurd (n k (contains_first ks k))

-- ---- loans

-- sweeps of one arena are one
one_sweep : (cs : List Sweep) → IsOnce (λ (c : Sweep). c.arena) cs → (c d : Sweep) → In c cs → In d cs → c.arena ≡ d.arena → c ≡ d
one_sweep [] o c d i j e = absurd i
one_sweep (x ∷ xs) o c d (inl i) (inl j) e = i ∙ sym j
one_sweep (x ∷ xs) o c d (inl i) (inr j) e = absurd (o.0 d j (sym e ∙ ap (λ (y : Sweep). y.arena) i))
one_sweep (x ∷ xs) o c d (inr i) (inl j) e = absurd (o.0 c i (e ∙ ap (λ (y : Sweep). y.arena) j))
one_sweep (x ∷ xs) o c d (inr i) (inr j) e = one_sweep xs o.1 c d i j e

module _ (z : Shape) (ws : List ℕ) (vs : List View) (r : Rule z ws vs) where
  -- a loan is of a page of the pool, as a part that arenas have
  loan_fits : (l : Loan) → Contains (loans_of r.history) l → (l.block < z.pages) × (l.part < z.reach)
  loan_fits l h = go (r.owners.berth l.block) refl (r.pages.lent_is l h)
    where
      go : (b : Berth) → r.owners.berth l.block ≡ b → LentAt b l → (l.block < z.pages) × (l.part < z.reach)
      go loose e q = absurd q
      go (claimed j) e q = absurd q
      go (mapped k i) e q = let y = r.pages.mapped_is l.block k i e in (y.page, subst (λ (x : ℕ). x < z.reach) (sym q.1) y.part)
      go (unmapped j a i) e q = let y = r.pages.unmapped_is l.block j i a e in (y.page, subst (λ (x : ℕ). x < z.reach) (sym q.1) y.part)

  -- of an arena that is swept at the seat, parts that have no page any more aren't lent
  loan_left : (me : ℕ) (v : View) → get_elem? vs me ≡ some v → v.live ≡ true → (c : Sweep) → In c v.sweeps → (l : Loan) → Contains (loans_of r.history) l
      → l.id ≡ c.arena → c.passed ≤ l.part
  loan_left me v at live c i l h same = go (r.owners.berth l.block) refl (r.pages.lent_is l h)
    where
      mine : Owns z r.history r.memory r.machine r.owners me v
      mine = (r.each me v at).owns live

      its : IsSweeping z r.memory r.machine r.owners me c
      its = mine.work.sweeps c i

      go : (b : Berth) → r.owners.berth l.block ≡ b → LentAt b l → c.passed ≤ l.part
      go loose e q = absurd q
      go (claimed j) e q = absurd q
      go (mapped k p) e q = ⊎_elim
          (λ (low : l.part < c.passed).
          let none : r.memory.maps c.arena.slot l.part ≡ None = its.parts l.part low in
          let here : r.memory.maps c.arena.slot l.part ≡ Some l.block =
          (λ n. r.memory.maps (ap (λ (x : ArenaId). x.slot) (sym same) n) l.part)
          ∙ ((λ n. r.memory.maps (q.0 n) (q.1 n)) ∙ (r.pages.mapped_is l.block k p e).named) in
          absurd (let f : None ≡ Some l.block = sym none ∙ here in cc))
          (λ (high : c.passed ≤ l.part). high)
          (cases_lt l.part c.passed)
      go (unmapped j a p) e q =
          let y = r.berths l.block j (subst (IsAt j) (sym e) refl) in
          let has : (y.view.live ≡ true) × ((w : ℕ) × (y.view.swept ≡ wiping a p l.block w)) = subst (λ (b : Berth). HasPage l.block b y.view) e y.holds in
          let its' = (r.each j y.view y.there).owns has.0 in
          let s : IsWiped z r.memory.maps r.memory.cells r.owners.berth j y.view.sweeps a p l.block has.1.0 =
          subst (HasSwept z r.memory.maps r.memory.cells r.owners.berth j y.view.sweeps) has.1.1 its'.work.pages.sweep in
          let arenas : s.next.sweep.arena ≡ c.arena = s.next.arena ∙ (sym q.0 ∙ same) in
          let seats : j ≡ me = sym (its'.work.sweeps s.next.sweep s.next.there).owner ∙ (ap r.owners.closer arenas ∙ its.owner) in
          let views : y.view ≡ v = some-injective y.view v (sym y.there ∙ (ap (get_elem? vs) seats ∙ at)) in
          let there : In s.next.sweep v.sweeps = subst (λ (u : View). In s.next.sweep u.sweeps) views s.next.there in
          let one : c ≡ s.next.sweep = one_sweep v.sweeps mine.work.swept_once c s.next.sweep i there (sym arenas) in
          let n : c.passed ≡ l.part = ap (λ (x : Sweep). x.passed) one ∙ (s.next.passed ∙ sym q.1) in omega arith

-- ---- a pass

-- a pass that has seen the whole history is sound
pub sound_of : (z : Shape) (ws : List ℕ) (vs : List View) (r : Rule z ws vs) (me : ℕ) (v : View) → get_elem? vs me ≡ some v → v.live ≡ true
    → v.met ≡ [] → v.seen ≡ r.history → IsSound v
sound_of z ws vs r me v at l lone q =
    let k = r.each me v at in
    let u = k.owns l in
    let e : v.shape ≡ z = k.shape l in
    let s : State = state_after (limit_of z) [] r.history in
    let st : state_in v ≡ s = λ i. state_after (limit_of (e i)) [] (q i) in
    let valid = subst IsValid (sym e) r.valid in
    let known : (a : ArenaId) → IsKnown v a → r.machine.life a ≢ Fresh = λ a h f.
    opened_life (has_arena s a) (arena_of s a).life (ap (λ (x : State). has_arena x a) (sym st) ∙ h) (sym (r.depicts.life a) ∙ f) in
    record {
      valid = valid;
      limit = limit_below v.shape valid;
      legal = subst (λ (x : Shape × List Entry). IsLegal (limit_of x.0) [] x.1) (λ i. (sym e i, sym q i)) r.legal;
      lent = subst (λ (x : Shape × List Entry). IsRightlyLent x.0.page_words (limit_of x.0) x.1) (λ i. (sym e i, sym q i)) r.rightly;
      within = λ x i. subst (λ (y : Shape). LendsWithin y x.call) (sym e) (r.within x (subst (In x) q i));
      number = (let a = (r.terms v.caller u.drawn).0 in let c : v.shape.passes ≡ z.passes = ap (λ (x : Shape). x.passes) e in omega arith);
      inside = λ a i. subst (λ (x : State). IsUnderWay x v.caller a) (sym st) (r.depicts.listed v.caller a (u.work.inside ∙ i));
      outside = λ a w. sym u.work.inside ∙ r.depicts.under v.caller a (subst (λ (x : State). IsUnderWay x v.caller a) st w);
      fits = λ a h. subst (λ (x : Shape). Fits x a) (sym e) (r.world.sessions.fits a (known a h));
      older = λ a g h less.
          let y = r.world.sessions.older a g (known a h) less in (
            y.0,
            y.1,
            y.2,
            ap (λ (x : State). has_arena x y.0) st ∙ not_fresh (has_arena s y.0) (arena_of s y.0).life (λ f. y.3 (r.depicts.life y.0 ∙ f)),
          );
      hand = λ s i. subst (λ (y : Shape). s < y.slots) (sym e) (slot_below z r.memory.bits r.memory.sessions r.owners.holder me s v.hand u.work.hand i);
      closing = λ c i.
          let y = closing_now (has_arena s c.arena) (arena_of s c.arena).life (sym (r.depicts.life c.arena) ∙ (u.work.closes c i).life) in
          (ap (λ (x : State). has_arena x c.arena) st ∙ y.0, ap (λ (x : State). (arena_of x c.arena).life) st ∙ y.1);
      closes_once = u.work.once;
      swept = λ c i.
          let y = u.work.sweeps c i in
          record {
            known = ap (λ (x : State). has_arena x c.arena) st ∙ not_fresh (has_arena s c.arena) (arena_of s c.arena).life (λ f.
                let g : Over ≡ Fresh = sym y.life ∙ (r.depicts.life c.arena ∙ f) in absurd (cc));
            life = ap (λ (x : State). (arena_of x c.arena).life) st
                ∙ over_now (has_arena s c.arena) (arena_of s c.arena).life (sym (r.depicts.life c.arena) ∙ y.life);
            empty = ap (λ (x : State). (arena_of x c.arena).under_way) st
                ∙ nobody (arena_of s c.arena).under_way (λ k w. unstanding (r.machine.life c.arena) y.life
                (r.world.marked k c.arena (r.depicts.under k c.arena w)).stands);
          };
      loans = λ x i. let y = loan_fits z ws vs r x (subst (λ (es : List Entry). Contains (loans_of es) x) q i) in
          subst (λ (s : Shape). (x.block < s.pages) × (x.part < s.reach)) (sym e) y;
      unlent = λ c i x h. loan_left z ws vs r me v at l c i x (subst (λ (es : List Entry). Contains (loans_of es) x) q h);
      covered = λ a w n g.
          let y = given_lent z ws vs r a w (λ o. n (ap (λ (x : State). (arena_of x a).life) st ∙ o))
          (subst (λ (x : State). 8 * w < (arena_of x a).given) st g) in
          subst (λ (x : Shape × List Entry). HasPart (loans_of x.1) a (w / x.0.page_words)) (λ i. (sym e i, sym q i)) y;
      reads = λ a m i j. subst (λ (es : List Entry). Contains (loans_of es) (loan_of m.page a m.part)) (sym q)
          (mapped_part z ws vs r v.caller a m.part m.page (u.work.inside ∙ i) (u.work.pages.read a i m j));
      own_pages = λ p i. subst (λ (s : Shape). p < s.pages) (sym e) (r.pages.claimed_is p me (u.work.pages.claims p i)).0;
      swept_page = λ a i p w h. subst (λ (s : Shape). p < s.pages) (sym e)
          (let y : IsWiped z r.memory.maps r.memory.cells r.owners.berth me v.sweeps a i p w =
          subst (HasSwept z r.memory.maps r.memory.cells r.owners.berth me v.sweeps) h u.work.pages.sweep in
          (r.pages.unmapped_is p me i a y.owner).page);
      few_left = λ f i p h.
          let y : FewLeft z r.history f = ⊎_elim
          (λ (x : In f v.finds). ((r.founds me v at).finds f x).page p h)
          (λ (x : (g : Gathered) × In g v.gathered × In f g.finds).
          ((r.founds me v at).theirs x.0 (in_left x.0 v.gathered (brought v.met) x.1) f x.2).page p h) i in
          subst (λ (x : Shape × List Entry). FewLeft x.0 x.1 f) (λ n. (sym e n, sym q n)) y;
      held = λ a i.
          let y = alive_now (has_arena s a) (arena_of s a).life (sym (r.depicts.life a) ∙ lives_held z ws vs r me v at l a i) in
          (ap (λ (x : State). has_arena x a) st ∙ y.0, ap (λ (x : State). (arena_of x a).life) st ∙ y.1);
      own_handles = u.handles;
      none_left = λ w n c f h.
          none_now z me v l ws vs r at w n q c f (⊎_elim
          (λ (x : (c ≡ v.caller) × In f v.finds). subst (λ (k : Caller). FoundBy z r.history r.memory r.owners.taker r.machine.life k f) (sym x.0)
          ((r.founds me v at).finds f x.1))
          (λ (x : (g : Gathered) × In g v.gathered × (c ≡ g.caller) × In f g.finds).
          subst (λ (k : Caller). FoundBy z r.history r.memory r.owners.taker r.machine.life k f) (sym x.2)
          ((r.founds me v at).theirs x.0 (in_left x.0 v.gathered (brought v.met) x.1) f x.3))
          h);
      drawn = λ c i.
          let y : IsDrawn z r.history r.memory r.machine r.owners me v c =
          subst (HasNumberInHand z r.history r.memory r.machine r.owners me v) i u.number in
          record {
            later = y.later;
            number = (let a = y.loose.low in let b : v.shape.passes ≡ z.passes = ap (λ (x : Shape). x.passes) e in omega arith);
            term = (let a = (r.terms c y.drawn).1 in let b = r.last c.number in omega arith);
            other = ⊎_elim y.apart (λ (g : (g : Gathered) × In g v.gathered × (g.caller ≡ c)).
                y.ungathered g.0 (in_left g.0 v.gathered (brought v.met) g.1) g.2);
            silent = ap (made_by c) q ∙ y.silent.calls;
            outside = λ a w.
                let none : None ≡ Some a = sym y.silent.outside
                ∙ r.depicts.under c a (subst (λ (x : State). IsUnderWay x c a) st w) in absurd (cc);
          };
      few =
          let a = few_gathered z r.history r.memory r.machine r.owners me v lone u in
          let b = r.few in omega arith;
      knows = knows_callers z r.history r.memory r.machine r.owners me v lone u r.later q;
      all_drawn = λ w.
          let has = whole_has z r.history r.memory r.machine r.owners me v lone u w in
          record {
            first = has only_caller (subst (WasDrawn r.memory.draw r.owners.who r.owners.rank) r.first (
              (let a = r.ranks 0 r.begun in let b = r.begun in omega arith),
              ap r.owners.who (r.ranks 0 r.begun),
            ));
            others = λ f c h d e. has c ((find_within r.memory.draw r.owners.who r.owners.rank v (r.counted me v at) f h).drew c e).1;
          };
      numbers_gone = λ w none f i s h n of below.
          numbers_gone z me v l ws vs r at lone w none f i s h n of (subst (λ (x : Shape). n < x.passes) e below);
      one_each = subst (IsOnce (λ (g : Gathered). g.caller)) (all_now z r.history r.memory r.machine r.owners me v lone u) u.one_each;
      others = λ g i. (u.gathered g i).apart;
      term = (let a = (r.terms v.caller u.drawn).1 in let b = r.last v.caller.number in omega arith);
      earlier = λ w c t h less.
          let drawn : WasDrawn r.memory.draw r.owners.who r.owners.rank c = ⊎_elim
          (λ (x : c ≡ v.caller). subst (WasDrawn r.memory.draw r.owners.who r.owners.rank) (sym x) u.drawn)
          (λ (g : (g : Gathered) × In g v.gathered × (g.caller ≡ c)). subst (WasDrawn r.memory.draw r.owners.who r.owners.rank) g.2 (u.gathered g.0 g.1).drawn)
          h in
          whole_has z r.history r.memory r.machine r.owners me v lone u w (caller_of c.number t)
          (r.used c.number t (let a = (r.terms c drawn).1 in omega arith));
    }
