-- A pass looks for a number and asks how many draws were made: one step after another.
use Rattle.std.proofs.Common.{◌≡◌, ◌⊎◌, ℕ, ◌+◌, ◌<◌, ◌≤◌, ◌==◌, ◌&&◌, Bool, true, false, if◌then◌else◌, List, [], ◌++◌, length, All, get_or, sym, refl, ap, ◌∙◌, subst, arith, inl, inr, ⊎_elim, append_assoc, Option, Some, None, eq-eqb, ne_eqb}
use Rattle.std.proofs.lemmas.List.{append-nil, length-append, Elements.{filter-append}}
use Rattle.fm_base.specs.{declared.caller.Caller.{Caller}, Calls.{Entry}, Histories.{made_by}, Finds.{Find, Gathered, Draws as Drawing, is_draw, is_number}}
use Rattle.fm_rule_facts.specs.{Views.{View, In, HasFind}, Steps.{Stepped, draws, note_draw, is_clear}, Hands.{Number, no_number, drawn_by, number_after}}
use Rattle.fm_rule_facts.{specs.Moves.{LearnsCount}, proofs.{Founds.{draw_found, draw_is}, Keeping.{in_append, in_left}}}
use Rattle.fm_rule_steps.proofs.Reading.{eqb_true, eqb_false}
use Rattle.fm_rule.specs.{Passes.{IsOf}, Draws.{IsKept, Asked, Asks, Looked}, declared.pool.Pool.{Pool}}

-- a find that a step of this pass noted, which had seen so many entries
pub record IsNoted (v : View) (n : ℕ) (f : Find) : Type 0 where
  pub seen : f.seen ≡ n
  pub clear : f.clear ≡ is_clear v
  pub gathered : f.gathered ≡ length v.gathered

-- no step
asked_none : (p : View) (k : Number) → p.number ≡ k → Asked p p [] k
asked_none p k e = record {
  more = [];
  seen = sym (append-nil p.seen);
  quiet = refl;
  apart = λ i g l. refl;
  alone = λ w. refl;
  found = sym (append-nil p.finds);
  only = λ f i. absurd i;
  kept = λ f i. absurd i;
  later = λ f g h d i. absurd i;
  is = λ i. record p { number = e i };
}

-- a pass that has the number in its hand, and is known to be whole or not
abbrev with_number : View → Number → Bool → View
with_number v d w = record v { number = d; whole = w }

module _ (old now new : View) (ds : List Find) (k : Number) (a : Asked old now ds k) where
  same_caller : now.caller ≡ old.caller
  same_caller = ap (λ (x : View). x.caller) a.is

  same_gathered : now.gathered ≡ old.gathered
  same_gathered = ap (λ (x : View). x.gathered) a.is

  same_clear : now.whole ≡ old.whole → is_clear now ≡ is_clear old
  same_clear kept = ap is_clear a.is ∙ (λ j. is_clear (record old { whole = kept j }))

  -- what was kept of the finds is kept of them where the pass has seen more
  kept_on : {new : View} → length now.seen ≤ length new.seen → (f : Find) → In f ds → IsKept old new f
  kept_on more f i = let y = a.kept f i in record { since = y.since; until = (let u = y.until in omega arith); clear = y.clear; gathered = y.gathered }

  -- what was found before was found before the last step too
  pub found_still : (f : Find) → HasFind old f → HasFind now f
  found_still f (inl i) = inl (subst (In f) (sym a.found) (in_left f old.finds ds i))
  found_still f (inr h) = inr (h.0, subst (In h.0) (sym same_gathered) h.1, h.2)

  -- one more step, which found x
  pub asked_then : (kept : now.whole ≡ old.whole) (d : Number) (w : Bool) (x : ℕ) (nd : ℕ → List Find)
      → ((n : ℕ) (f : Find) → In f (nd n) → (is_draw f.step ≡ true) ⊎ (is_number f.step ≡ true))
      → ((n : ℕ) (f : Find) → In f (nd n) → IsNoted now n f)
      → ((n : ℕ) (f : Find) → In f (nd n) → is_draw f.step ≡ true → (f.found ≡ x) × LearnsCount now x)
      → (s : Stepped now new (with_number now d w) [] nd)
      → Asked old new (ds ++ nd (length (now.seen ++ s.others))) d
  asked_then kept d w x nd only counts founds s =
      let es : List Entry = s.others in
      let fs : List Find = nd (length (now.seen ++ es)) in
      let whole : new.whole ≡ w = ap (λ (x : View). x.whole) s.is_part in
      let finds : new.finds ≡ now.finds ++ fs = ap (λ (x : View). x.finds) s.is_part in
      let seen_all : length new.seen ≡ length (now.seen ++ es) = ap (λ (xs : List Entry). length xs) (s.seen ∙ append-nil (now.seen ++ es)) in
      let seen_more : length new.seen ≡ length now.seen + length es = seen_all ∙ length-append now.seen es in
      let before_more : length now.seen ≡ length old.seen + length a.more = ap (λ (xs : List Entry). length xs) a.seen ∙ length-append old.seen a.more in
      let next = subst (λ (gs : List Gathered). All (λ g. made_by g.caller (es ++ []) ≡ []) gs) same_gathered s.apart in
      record {
        more = a.more ++ es;
        seen = s.seen ∙ (append-nil (now.seen ++ es) ∙ (ap (λ (xs : List Entry). xs ++ es) a.seen ∙ append_assoc old.seen a.more es));
        quiet = filter-append _ a.more es ∙ (ap (λ (xs : List Entry). xs ++ made_by old.caller es) a.quiet
            ∙ (ap (λ (c : Caller). made_by c es) (sym same_caller) ∙ s.quiet));
        apart = λ i g l. filter-append _ a.more es ∙ (ap (λ (xs : List Entry). xs ++ made_by (get_or old.gathered i g).caller es) (a.apart i g l)
            ∙ (ap (made_by (get_or old.gathered i g).caller) (sym (append-nil es)) ∙ next i g l));
        alone = λ o. ap (λ (xs : List Entry). xs ++ es) (a.alone o) ∙ s.alone (kept ∙ o);
        found = finds ∙ (ap (λ (xs : List Find). xs ++ fs) a.found ∙ append_assoc old.finds ds fs);
        only = λ f i. ⊎_elim (a.only f) (only (length (now.seen ++ es)) f) (in_append f ds fs i);
        kept = λ f i. ⊎_elim (kept_on {new = new} (let n = seen_more in omega arith) f) (λ (j : In f fs).
            let y = counts (length (now.seen ++ es)) f j in
            record {
              since = (let at = y.seen in let n = seen_more in let m = before_more in omega arith);
              until = (let at = y.seen in let n = seen_all in omega arith);
              clear = y.clear ∙ same_clear kept;
              gathered = y.gathered ∙ ap (λ (gs : List Gathered). length gs) same_gathered;
            })
            (in_append f ds fs i);
        later = λ f g h e i u. ⊎_elim
            (λ (j : In g ds). a.later f g h e j u)
            (λ (j : In g fs). let q = founds (length (now.seen ++ es)) g j u in let y = q.1.later f (found_still f h) e in let z = q.0 in omega arith)
            (in_append g ds fs i);
        is = s.is_part ∙ ((λ i. record (with_number now d w) { seen = new.seen; finds = sym finds i })
            ∙ (λ i. record (a.is i) { number = d; whole = sym whole i; seen = new.seen; finds = new.finds }));
      }

-- ---- draws

abbrev pub Draw : View → View → ℕ → ℕ → Type 0
Draw p q e x = Stepped p q (draws (drawn_by p.number e x) (number_after p.number e x) e x p) [] (note_draw e x p)

abbrev pub whole_after : View → ℕ → ℕ → Bool
whole_after p e x = if p.whole then true else (e == 0 && (length p.gathered + 1 == x))

-- a draw that expects some makes no pass whole
pub not_made : (p : View) (e x : ℕ) → 0 < e → whole_after p e x ≡ p.whole
not_made p e x some =
    (λ j. if p.whole then true else (ne_eqb e 0 (λ z. omega arith) j && (length p.gathered + 1 == x))) ∙ go p.whole
  where
    go : (b : Bool) → (if b then true else false) ≡ b
    go true = refl
    go false = refl

pub draw_counts : (expected x : ℕ) (v : View) (n : ℕ) (f : Find) → In f (note_draw expected x v n) → IsNoted v n f
draw_counts expected x v n f (inl q) =
    record { seen = ap (λ (g : Find). g.seen) q; clear = ap (λ (g : Find). g.clear) q; gathered = ap (λ (g : Find). g.gathered) q }
draw_counts expected x v n f (inr i) = absurd i

-- ---- the look for every caller

-- a draw gathers nobody
gathers_none : (o : Option Caller) (k : Number) (e x : ℕ) (v : View) → (draws o k e x v).gathered ≡ v.gathered
gathers_none None k e x v = refl
gathers_none (Some n) k e x v = refl

pub still_gathered : (p q : View) (e x : ℕ) → Draw p q e x → length q.gathered ≡ length p.gathered
still_gathered p q e x s = ap (λ (v : View). length v.gathered) s.is_part
    ∙ ap (λ (gs : List Gathered). length gs) (gathers_none (drawn_by p.number e x) (number_after p.number e x) e x p)

pub looked : (old new : View) (x : ℕ) → old.number ≡ no_number → Draw old new 0 x → LearnsCount old x → (b : Bool) → b ≡ (x == length old.gathered + 1)
    → Looked old new b
looked old new x none s l b is =
    let nobody : drawn_by old.number 0 x ≡ None = ap (λ (k : Number). drawn_by k 0 x) none in
    let after : number_after old.number 0 x ≡ no_number = ap (λ (k : Number). number_after k 0 x) none in
    let step = subst (λ (p : Option Caller × Number). Stepped old new (draws p.0 p.1 0 x old) [] (note_draw 0 x old)) (λ j. (nobody j, after j)) s in
    let n : ℕ = length (old.seen ++ step.others) in
    let c : ℕ = length old.gathered + 1 in
    let turned : b ≡ (c == x) = is ∙ swap_sides x c in
    let whole : new.whole ≡ b = ap (λ (v : View). v.whole) step.is_part ∙ (go old.whole refl ∙ sym turned) in
    record {
      find = record {
        step = Drawing 0;
        found = x;
        seen = n;
        clear = is_clear old;
        gathered = length old.gathered;
        drew = drawn_by old.number 0 x;
      };
      asked = asked_then old old new [] no_number (asked_none old no_number none) refl no_number (whole_after old 0 x) x (note_draw 0 x old)
          (λ k f i. inl (draw_is 0 x old k f i)) (draw_counts 0 x old) (λ k f i u. (draw_found 0 x old k f i, l)) step;
      step = refl;
      none = nobody;
      is = turned;
      whole = whole;
      all = λ w. step.sound.all_drawn (whole ∙ w);
      knows = λ w. step.sound.knows (whole ∙ w);
      still = λ w. turned ∙ eq-eqb c x (sym (l.whole w));
      complete = λ h. turned ∙ eq-eqb c x (sym (l.complete h));
      sound = step.sound;
    }
  where
    swap_sides : (a c : ℕ) → (a == c) ≡ (c == a)
    swap_sides a c = go (a == c) refl
      where
        go : (q : Bool) → (a == c) ≡ q → (a == c) ≡ (c == a)
        go true e = e ∙ sym (eq-eqb c a (sym (eqb_true a c e)))
        go false e = e ∙ sym (ne_eqb c a (λ p. eqb_false a c e (sym p)))

    go : (w : Bool) → old.whole ≡ w → (if w then true else (length old.gathered + 1 == x)) ≡ (length old.gathered + 1 == x)
    go true e = sym (eq-eqb (length old.gathered + 1) x (sym (l.whole e)))
    go false e = refl

-- ---- one thing after another

pub asked_both : (old mid new : View) (fs gs : List Find) (k l : Number) → Asked old mid fs k → Asked mid new gs l → mid.whole ≡ old.whole
    → Asked old new (fs ++ gs) l
asked_both old mid new fs gs k l a b kept =
    let next = subst (λ (xs : List Gathered). All (λ g. made_by g.caller b.more ≡ []) xs) (same_gathered old mid new fs k a) b.apart in
    let seen_more : length new.seen ≡ length mid.seen + length b.more = ap (λ (xs : List Entry). length xs) b.seen ∙ length-append mid.seen b.more in
    let before_more : length mid.seen ≡ length old.seen + length a.more = ap (λ (xs : List Entry). length xs) a.seen ∙ length-append old.seen a.more in
    record {
      more = a.more ++ b.more;
      seen = b.seen ∙ (ap (λ (xs : List Entry). xs ++ b.more) a.seen ∙ append_assoc old.seen a.more b.more);
      quiet = filter-append _ a.more b.more ∙ (λ j. a.quiet j ++ (ap (λ (c : Caller). made_by c b.more) (sym (same_caller old mid new fs k a)) ∙ b.quiet) j);
      apart = λ i g lt. filter-append _ a.more b.more ∙ (λ j. a.apart i g lt j ++ next i g lt j);
      alone = λ w. (λ j. a.alone w j ++ b.alone (kept ∙ w) j);
      found = b.found ∙ (ap (λ (xs : List Find). xs ++ gs) a.found ∙ append_assoc old.finds fs gs);
      only = λ f i. ⊎_elim (a.only f) (b.only f) (in_append f fs gs i);
      kept = λ f i. ⊎_elim (kept_on old mid new fs k a {new = new} (let n = seen_more in omega arith) f) (λ (j : In f gs).
          let y = b.kept f j in
          record {
            since = (let s = y.since in let n = before_more in omega arith);
            until = y.until;
            clear = y.clear ∙ same_clear old mid new fs k a kept;
            gathered = y.gathered ∙ ap (λ (xs : List Gathered). length xs) (same_gathered old mid new fs k a);
          })
          (in_append f fs gs i);
      later = λ f g h e i u. ⊎_elim (λ (j : In g fs). a.later f g h e j u)
          (λ (j : In g gs). b.later f g (found_still old mid new fs k a f h) e j u) (in_append g fs gs i);
      is = b.is ∙ (λ i. record (a.is i) { seen = new.seen; finds = new.finds; whole = new.whole; number = l });
    }

pub asks_none : (pool : Pool) (p : View) (k : Number) → p.number ≡ k → IsOf pool p → Asks pool p p [] k
asks_none pool p k e of = record { asked = asked_none p k e; none = λ f i. absurd i; same = refl; of = of; sound = λ s. s }

pub asks_both : (pool : Pool) (old mid new : View) (fs gs : List Find) (k l : Number) → Asks pool old mid fs k → Asks pool mid new gs l
    → Asks pool old new (fs ++ gs) l
asks_both pool old mid new fs gs k l a b = record {
  asked = asked_both old mid new fs gs k l a.asked b.asked a.same;
  none = λ f i. ⊎_elim (a.none f) (b.none f) (in_append f fs gs i);
  same = b.same ∙ a.same;
  of = b.of;
  sound = λ s. b.sound (a.sound s);
}

-- one step that draws nobody and changes the number alone
pub asks_step : (pool : Pool) (p q : View) (d : Number) (nd : ℕ → List Find) → IsOf pool p
    → ((n : ℕ) (f : Find) → In f (nd n) → (is_draw f.step ≡ false) × (is_number f.step ≡ true) × (f.drew ≡ None) × IsNoted p n f)
    → Stepped p q (record p { number = d }) [] nd → (finds : List Find) × (n : ℕ) × (finds ≡ nd n) × Asks pool p q finds d
asks_step pool p q d nd of only s =
    let n : ℕ = length (p.seen ++ s.others) in (
      nd n,
      n,
      refl,
      record {
        asked = asked_then p p q [] p.number (asked_none p p.number refl) refl d p.whole 0 nd (λ k f i. inr (only k f i).1) (λ k f i. (only k f i).3)
            (λ k f i u. absurd (let e : true ≡ false = sym u ∙ (only k f i).0 in cc)) s;
        none = λ f i. (only n f i).2;
        same = ap (λ (v : View). v.whole) s.is_part;
        of = (ap (λ (v : View). v.home) s.is_part ∙ of.0, ap (λ (v : View). v.shape) s.is_part ∙ of.1);
        sound = λ x. s.sound;
      },
    )
