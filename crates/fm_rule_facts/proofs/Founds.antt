-- What views know of numbers: what draws found, and the terms of callers.
use Rattle.std.proofs.Common.{◌≡◌, ℕ, ◌≤◌, true, false, List, [], ◌++◌, length, set, sym, ap, ◌∙◌, subst, arith, inl, inr, ⊎_elim, Option, Some, None}
use Rattle.std.proofs.lemmas.List.{append-nil}
use mathlib.Core.Option.{some}
use lib.ListN.{get_elem?}
use Rattle.atomic_table.proofs.Lists.{at_set}
use Rattle.fm_base.specs.{declared.caller.Caller.{Caller}, Calls.{Entry}, Finds.{Find, FindStep, Gathered, is_draw, is_slot, is_page, is_number}}
use Rattle.fm_rule_facts.specs.{Views.{View, In, HasFind, all_gathered, brought}, Splits.{gather}, Steps.{none_noted, note_of, note_draw}, Hands.{drawn_by}}
use Rattle.fm_rule_facts.{specs.{Facts.{WasDrawn, IsWithin, IsCounted}, Moves.{told}}, proofs.Keeping.{in_left, in_append, all_gather}}

-- ---- what a step notes

-- no draw is among what a step notes
abbrev pub NoneDrawn : (ℕ → List Find) → Type 0
NoneDrawn fs = (n : ℕ) (f : Find) → In f (fs n) → (is_draw f.step ≡ false) × (f.drew ≡ None)

-- nor a find of slots, pages or numbers
abbrev pub NoDraw : (ℕ → List Find) → Type 0
NoDraw fs = (n : ℕ) (f : Find) → In f (fs n)
    → (is_draw f.step ≡ false) × (f.drew ≡ None) × (is_slot f.step ≡ false) × (is_page f.step ≡ false) × (is_number f.step ≡ false)

pub no_draw : NoDraw none_noted
no_draw n f i = absurd i

pub note_none_drawn : (step : FindStep) (x : ℕ) (v : View) → is_draw step ≡ false → NoneDrawn (note_of step x v)
note_none_drawn step x v e n f (inl q) = (ap (λ (g : Find). is_draw g.step) q ∙ e, ap (λ (g : Find). g.drew) q)
note_none_drawn step x v e n f (inr i) = absurd i

pub note_no_number : (step : FindStep) (x : ℕ) (v : View) → is_number step ≡ false → (n : ℕ) (f : Find) → In f (note_of step x v n) → is_number f.step ≡ false
note_no_number step x v e n f (inl q) = ap (λ (g : Find). is_number g.step) q ∙ e
note_no_number step x v e n f (inr i) = absurd i

pub note_no_draw : (step : FindStep) (x : ℕ) (v : View) → is_draw step ≡ false → is_slot step ≡ false → is_page step ≡ false → is_number step ≡ false
    → NoDraw (note_of step x v)
note_no_draw step x v e s p u n f (inl q) = (
  ap (λ (g : Find). is_draw g.step) q ∙ e,
  ap (λ (g : Find). g.drew) q,
  ap (λ (g : Find). is_slot g.step) q ∙ s,
  ap (λ (g : Find). is_page g.step) q ∙ p,
  ap (λ (g : Find). is_number g.step) q ∙ u,
)
note_no_draw step x v e s p u n f (inr i) = absurd i

-- what a step notes is within the count
abbrev pub AreWithin : ℕ → (ℕ → Caller) → (Caller → ℕ) → (ℕ → List Find) → Type 0
AreWithin d who rank fs = (n : ℕ) (f : Find) → In f (fs n) → IsWithin d who rank f

pub none_within : (d : ℕ) (who : ℕ → Caller) (rank : Caller → ℕ) (fs : ℕ → List Find) → NoneDrawn fs → AreWithin d who rank fs
none_within d who rank fs nd n f i = record {
  found = λ e. let q : true ≡ false = sym e ∙ (nd n f i).0 in absurd (cc);
  drew = λ c e. let q : None ≡ Some c = sym (nd n f i).1 ∙ e in absurd (cc);
}

-- a draw notes what it found
pub draw_found : (expected x : ℕ) (v : View) (n : ℕ) (f : Find) → In f (note_draw expected x v n) → f.found ≡ x
draw_found expected x v n f (inl q) = ap (λ (g : Find). g.found) q
draw_found expected x v n f (inr i) = absurd i

-- and whom it drew
pub draw_drew : (expected x : ℕ) (v : View) (o : Option Caller) → drawn_by v.number expected x ≡ o → (n : ℕ) (f : Find) → In f (note_draw expected x v n)
    → f.drew ≡ o
draw_drew expected x v o e n f (inl q) = ap (λ (g : Find). g.drew) q ∙ e
draw_drew expected x v o e n f (inr i) = absurd i

pub draw_is : (expected x : ℕ) (v : View) (n : ℕ) (f : Find) → In f (note_draw expected x v n) → is_draw f.step ≡ true
draw_is expected x v n f (inl q) = ap (λ (g : Find). is_draw g.step) q
draw_is expected x v n f (inr i) = absurd i

-- a draw that drew nobody, and one that drew a caller
pub looked_within : (expected x d : ℕ) (who : ℕ → Caller) (rank : Caller → ℕ) (v : View) → x ≤ d → drawn_by v.number expected x ≡ None
    → AreWithin d who rank (note_draw expected x v)
looked_within expected x d who rank v l e n f i = record {
  found = λ h. let q = draw_found expected x v n f i in omega arith;
  drew = λ c h. let q : None ≡ Some c = sym (draw_drew expected x v None e n f i) ∙ h in absurd (cc);
}

pub drew_within : (expected x d : ℕ) (who : ℕ → Caller) (rank : Caller → ℕ) (v : View) (k : Caller) → x ≤ d → drawn_by v.number expected x ≡ Some k
    → WasDrawn d who rank k → AreWithin d who rank (note_draw expected x v)
drew_within expected x d who rank v k l e was n f i = record {
  found = λ h. let q = draw_found expected x v n f i in omega arith;
  drew = λ c h.
      let q : Some k ≡ Some c = sym (draw_drew expected x v (Some k) e n f i) ∙ h in
      let p : k ≡ c = cc in
      (draw_is expected x v n f i, subst (WasDrawn d who rank) p was);
}

-- ---- each view

-- callers that are drawn later change nothing
module _ (d : ℕ) (who : ℕ → Caller) (rank : Caller → ℕ) (d' : ℕ) (who' : ℕ → Caller) (rank' : Caller → ℕ) (more : d ≤ d')
    (on : (c : Caller) → WasDrawn d who rank c → WasDrawn d' who' rank' c) where
  within_later : (f : Find) → IsWithin d who rank f → IsWithin d' who' rank' f
  within_later f w = record {
    found = λ h. let a = w.found h in omega arith;
    drew = λ c h. let a = w.drew c h in (a.0, on c a.1);
  }

  pub counted_later : (v : View) → IsCounted d who rank v → IsCounted d' who' rank' v
  counted_later v c = record {
    finds = λ f i. within_later f (c.finds f i);
    theirs = λ g j f i. within_later f (c.theirs g j f i);
  }

  -- where one view was changed
  pub counted_set : (vs : List View) (me : ℕ) (w : View) → IsCounted d' who' rank' w
      → ((j : ℕ) (v : View) → get_elem? vs j ≡ some v → IsCounted d who rank v) → (j : ℕ) (v : View) → get_elem? (set vs me w) j ≡ some v
      → IsCounted d' who' rank' v
  counted_set vs me w here c j v at = ⊎_elim
      (λ e. subst (IsCounted d' who' rank') e.1 here)
      (λ e. counted_later v (c j v e.1))
      (at_set vs me j w v at)

module _ (d : ℕ) (who : ℕ → Caller) (rank : Caller → ℕ) where
  -- after a step
  pub counted_told : (v p : View) (zs es : List Entry) (fs : ℕ → List Find) → p.finds ≡ v.finds → all_gathered p ≡ all_gathered v
      → AreWithin d who rank fs → IsCounted d who rank v → IsCounted d who rank (told p zs es fs)
  counted_told v p zs es fs finds gs few c =
      let same : (g : Gathered) → In g (all_gathered p ++ []) → In g (all_gathered v) = (λ g j. subst (In g) (append-nil (all_gathered p) ∙ gs) j) in
      record {
        finds = λ f i. ⊎_elim
            (λ (j : In f p.finds). c.finds f (subst (In f) finds j))
            (λ (j : In f (fs (length (p.seen ++ zs)))). few (length (p.seen ++ zs)) f j)
            (in_append f p.finds (fs (length (p.seen ++ zs))) i);
        theirs = λ g j. c.theirs g (same g j);
      }

  -- who has nothing knows nothing
  pub counted_bare : (v : View) → v.finds ≡ [] → all_gathered v ≡ [] → IsCounted d who rank v
  counted_bare v finds gs = record { finds = λ f i. absurd (subst (In f) finds i); theirs = λ g j. absurd (subst (In g) gs j) }

  -- a view that another is put to
  pub counted_gather : (v w : View) → IsCounted d who rank v → IsCounted d who rank w → IsCounted d who rank (gather v w)
  counted_gather v w a b =
      record { finds = a.finds; theirs = all_gather v w (λ g. (f : Find) → In f g.finds → IsWithin d who rank f) a.theirs b.theirs b.finds }

  -- each find that a view has
  pub find_within : (v : View) → IsCounted d who rank v → (f : Find) → HasFind v f → IsWithin d who rank f
  find_within v c f (inl i) = c.finds f i
  find_within v c f (inr h) = c.theirs h.0 (in_left h.0 v.gathered (brought v.met) h.1) f h.2
