-- A pass looks for a free number, until it took one or found each group's word 0.
use Rattle.std.proofs.Common.{◌≡◌, ◌≢◌, ℕ, ◌+◌, ◌<◌, ◌==◌, Bool, true, false, if◌then◌else◌, List, [], ◌++◌, length, sym, refl, ap, ◌∙◌, subst, arith, inl, inr, ⊎_elim, None, eq-eqb, ne_eqb, not}
use Rattle.std.{specs.Int.{bit_at}, proofs.lemmas.{List.{append-nil}, Nat.Bits.{bit_at-lt, bit_at-zero}}}
use mathlib.Core.Logic.{dite}
use native.Mathlib.Decide.{ℕ_discrete}
use Rattle.fm_words.specs.{Places.{groups}, Bits.{IsWithout}}
use Rattle.fm_base.specs.Finds.{Find, TakesNumber as Taking, is_draw, is_number}
use Rattle.fm_rule_facts.specs.{Views.{View, In}, Steps.{Stepped, note_of, number_at, is_clear}}
use Rattle.fm_rule_facts.{specs.Hands.{Number, no_number, number_taken, number_taken_by, takes}, proofs.Keeping.{in_append, in_left, in_right}}
use Rattle.fm_rule_steps.proofs.Reading.{eqb_true, eqb_false}
use Rattle.fm_rule.specs.{Passes.{IsOf}, Draws.{Seeks, AreLooks, Tried, FoundIn, FoundZero, Takes, NoneDrawn}, declared.pool.Pool.{Pool}}
use Rattle.fm_rule.proofs.Asking.{IsNoted, asks_none, asks_both, asks_step}

-- no step
pub seeks_none : (pool : Pool) (p : View) (k : Number) → p.number ≡ k → IsOf pool p → Seeks pool p p k
seeks_none pool p k e of = record { finds = []; asks = asks_none pool p k e of; looks = λ f i. absurd i }

-- looks after looks
pub looks_both : (fs gs : List Find) → AreLooks fs → AreLooks gs → AreLooks (fs ++ gs)
looks_both fs gs a b f i = ⊎_elim (a f) (b f) (in_append f fs gs i)

abbrev pub seeks_both : (pool : Pool) (old mid new : View) (k l : Number) → Seeks pool old mid k → Seeks pool mid new l → Seeks pool old new l
seeks_both pool old mid new k l a b = record {
  finds = a.finds ++ b.finds;
  asks = asks_both pool old mid new a.finds b.finds k l a.asks b.asks;
  looks = looks_both a.finds b.finds a.looks b.looks;
}

-- ---- one exchange

note_only : (g e b x : ℕ) (p : View) (n : ℕ) (f : Find) → In f (note_of (Taking g e b) x p n)
    → (is_draw f.step ≡ false) × (is_number f.step ≡ true) × (f.drew ≡ None) × IsNoted p n f
note_only g e b x p n f (inl q) = (
  ap (λ (y : Find). is_draw y.step) q,
  ap (λ (y : Find). is_number y.step) q,
  ap (λ (y : Find). y.drew) q,
  record { seen = ap (λ (y : Find). y.seen) q; clear = ap (λ (y : Find). y.clear) q; gathered = ap (λ (y : Find). y.gathered) q },
)
note_only g e b x p n f (inr i) = absurd i

abbrev pub Took : View → View → ℕ → ℕ → ℕ → ℕ → Type 0
Took p q g e b x = Stepped p q (record p { number = number_taken_by (takes e b x) (number_at g b) p.number }) [] (note_of (Taking g e b) x p)

-- what the exchange noted
pub record Noted (pool : Pool) (p q : View) (g e b x : ℕ) (k : Number) : Type 0 where
  pub seeks : Seeks pool p q k
  pub seen : ℕ
  pub is : seeks.finds ≡ note_of (Taking g e b) x p seen

pub took_it : (pool : Pool) (p q : View) (g e b x : ℕ) (t : Bool) → takes e b x ≡ t → p.number ≡ no_number → IsOf pool p → Took p q g e b x
    → Noted pool p q g e b x (number_taken_by t (number_at g b) no_number)
took_it pool p q g e b x t is none of s =
    let k : Number = number_taken_by t (number_at g b) no_number in
    let y = asks_step pool p q k (note_of (Taking g e b) x p) of (note_only g e b x p)
    (subst (λ (k : Number). Stepped p q (record p { number = k }) [] (note_of (Taking g e b) x p))
    (λ j. number_taken_by (is j) (number_at g b) (none j)) s) in
    record {
      seeks = record { finds = y.0; asks = y.3; looks = λ f i. (note_only g e b x p y.1 f (subst (In f) y.2 i)).1 };
      seen = y.1;
      is = y.2;
    }

-- a word without the bit is another where its bit is 1
takes_by : (e b x next : ℕ) → IsWithout e b next → (t : Bool) → t ≡ (if x == e then (if next == e then false else true) else false) → takes e b x ≡ t
takes_by e b x next w t is = go (x == e) refl (next == e) refl ∙ sym is
  where
    go : (p : Bool) → (x == e) ≡ p → (q : Bool) → (next == e) ≡ q
        → (if x == e then bit_at e b == 1 else false) ≡ (if x == e then (if next == e then false else true) else false)
    go false p q r = (λ j. if p j then bit_at e b == 1 else false) ∙ sym (λ j. if p j then (if next == e then false else true) else false)
    go true p true r =
        let zero : bit_at e b ≡ 0 = ap (λ (k : ℕ). bit_at k b) (sym (eqb_true next e r)) ∙ w.zero in
        (λ j. if p j then bit_at e b == 1 else false) ∙ (ne_eqb (bit_at e b) 1 (λ o. omega arith)
        ∙ sym (λ j. if p j then (if r j then false else true) else false))
    go true p false r =
        let some : bit_at e b ≢ 0 = (λ z. eqb_false next e r (w.same z)) in
        let lt = bit_at-lt e b in
        (λ j. if p j then bit_at e b == 1 else false) ∙ (eq-eqb (bit_at e b) 1 (let y : ℕ = bit_at e b in let n : y ≢ 0 = some in omega arith)
        ∙ sym (λ j. if p j then (if r j then false else true) else false))

-- the word was found as expected
pub found_other : (x e next : ℕ) → x ≡ e → not (next == e) ≡ (if x == e then (if next == e then false else true) else false)
found_other x e next same = go (x == e) (eq-eqb x e same) (next == e)
  where
    go : (p : Bool) → p ≡ true → (q : Bool) → not q ≡ (if p then (if q then false else true) else false)
    go true is true = refl
    go true is false = refl
    go false is q = absurd (cc)

pub tried : (pool : Pool) (p q : View) (n g e b x next : ℕ) → n ≡ number_at g b → IsWithout e b next → (t : Bool)
    → t ≡ (if x == e then (if next == e then false else true) else false) → p.number ≡ no_number → IsOf pool p → Took p q g e b x → Tried pool p q n t
tried pool p q n g e b x next at w true is none of s =
    subst (λ (k : ℕ). Seeks pool p q (number_taken k)) (sym at) (took_it pool p q g e b x true (takes_by e b x next w true is) none of s).seeks
tried pool p q n g e b x next at w false is none of s = (took_it pool p q g e b x false (takes_by e b x next w false is) none of s).seeks

-- ---- the groups, one after another

pub takes_zero : (x : ℕ) → takes 0 0 x ≡ false
takes_zero x = go (x == 0) (bit_at-zero 0)
  where
    go : (b : Bool) → bit_at 0 0 ≡ 0 → (if b then bit_at 0 0 == 1 else false) ≡ false
    go true e = ne_eqb (bit_at 0 0) 1 (λ o. omega arith)
    go false e = refl

module _ (pool : Pool) (old p q : View) (many x : ℕ) (t : Seeks pool old p no_number) (s : Took p q many 0 0 x) where
  abbrev pub look : Noted pool p q many 0 0 x no_number
  look = took_it pool p q many 0 0 x false (takes_zero x) (ap (λ (v : View). v.number) t.asks.asked.is) t.asks.of s

  abbrev pub look_asks : Seeks pool old q no_number
  look_asks = seeks_both pool old p q no_number no_number t look.seeks

  -- this group's word was 0 too
  pub look_on : x ≡ 0 → FoundZero many t.finds → FoundZero (many + 1) (t.finds ++ look.seeks.finds)
  look_on zero before g lt =
      let here : Find = record { step = Taking many 0 0; found = x; seen = look.seen; clear = is_clear p; gathered = length p.gathered; drew = None } in
      let there : In here look.seeks.finds = subst (In here) (sym look.is) (inl refl) in
      dite (ℕ_discrete g many)
      (λ e. (here, in_right here t.finds look.seeks.finds there, refl, sym e, zero))
      (λ ne. let z = before g (omega arith) in (z.0, in_left z.0 t.finds look.seeks.finds z.1, z.2, z.3, z.4))

-- ---- a number was taken, or none

pub took_then : (pool : Pool) (old p q : View) (n : ℕ) → n < pool.shape.passes → Seeks pool old p no_number → Tried pool p q n true → Takes pool old q n
took_then pool old p q n low t y = record { seeks = seeks_both pool old p q no_number (number_taken n) t y; low = low }

pub none_then : (pool : Pool) (old p q : View) → groups old.shape ≡ groups pool.shape → Seeks pool old p no_number → FoundIn pool p q true → NoneDrawn old q
none_then pool old p q is t y =
    let a = seeks_both pool old p q no_number no_number t y.0 in
    record {
      finds = a.finds;
      asked = a.asks.asked;
      tries = record { looks = a.finds; draws = []; are = sym (append-nil a.finds); are_looks = a.looks; guess = 0; follow = tt };
      all = record {
        none = a.asks.none;
        why = inl (λ g lt. let z = y.1 g (let e = is in omega arith) in (z.0, in_right z.0 t.finds y.0.finds z.1, z.2, z.3, z.4));
      };
      same = a.asks.same;
      sound = y.2;
    }
