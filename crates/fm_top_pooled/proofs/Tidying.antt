-- Histories that change only bytes that were given: what may be put behind one.
use Rattle.std.{proofs.Common.{◌≡◌, ℕ, Bool, true, false, List, [], ◌∷◌, ◌++◌, refl, sym, subst}, specs.Prelude.{if◌then◌else◌, not, ⊤}}
use Rattle.std.specs.List.{AllByRecursion}
use Rattle.fm_base.specs.{Arenas.{State}, Calls.{Call, Write, SwapIf, Add, Entry}, Histories.{IsTidy, IsTidyIn, state_after}, Machine.{after}}
use Rattle.fm_base.specs.View.{but_loans, is_loan}
use Rattle.fm_rule_facts.specs.Views.{View, limit_of, state_in}
use Rattle.fm_words.specs.declared.shape.Shape.{Shape}
use Rattle.fm_top_pooled.specs.Stocked.{IsTidyPass}

-- the call changes no word
abbrev pub ChangesNone : Call → Type 0
ChangesNone (Write id word value) = ⊥
ChangesNone (SwapIf id word old new) = ⊥
ChangesNone (Add id word n) = ⊥
ChangesNone call = ⊤

abbrev pub AllChangeNone : List Entry → Type 0
AllChangeNone es = AllByRecursion (λ e. ChangesNone e.call) es

none_here : (s : State) (call : Call) → ChangesNone call → IsTidyIn s call
none_here s (Write id word value) h = absurd h
none_here s (SwapIf id word old new) h = absurd h
none_here s (Add id word n) h = absurd h
none_here s call h = tt

pub tidy_none : (limit : ℕ) (s : State) (es : List Entry) → AllChangeNone es → IsTidy limit s es
tidy_none limit s [] h = tt
tidy_none limit s (e ∷ es) h = (none_here s e.call h.0, tidy_none limit (after limit s e) es h.1)

loan_none : (call : Call) → is_loan call ≡ true → ChangesNone call
loan_none (Write id word value) is = absurd (cc)
loan_none (SwapIf id word old new) is = absurd (cc)
loan_none (Add id word n) is = absurd (cc)
loan_none call is = tt

-- loans change no word either
pub loans_too : (es : List Entry) → AllChangeNone (but_loans es) → AllChangeNone es
loans_too [] h = tt
loans_too (e ∷ es) h =
    let P : Bool → Type 0 = λ b. is_loan e.call ≡ b → AllChangeNone (if not b then e ∷ but_loans es else but_loans es) → AllChangeNone (e ∷ es) in
    let go : (b : Bool) → P b = λ b. elim b as P [
      | true ↦ (λ is k. (loan_none e.call is, loans_too es k))
      | false ↦ (λ is k. (k.0, loans_too es k.1))
    ] in
    go (is_loan e.call) refl h

tidy_append : (limit : ℕ) (s : State) (es fs : List Entry) → IsTidy limit s es → IsTidy limit (state_after limit s es) fs → IsTidy limit s (es ++ fs)
tidy_append limit s [] fs h k = k
tidy_append limit s (e ∷ es) fs h k = (h.0, tidy_append limit (after limit s e) es fs h.1 k)

-- a pass is tidy still behind tidy entries
pub tidy_on : (p q : View) (more : List Entry) → IsTidyPass p → q.shape ≡ p.shape → q.seen ≡ p.seen ++ more → IsTidy (limit_of p.shape) (state_in p) more
    → IsTidyPass q
tidy_on p q more tidy shape seen behind =
    subst (λ (z : Shape). IsTidy (limit_of z) [] q.seen) (sym shape)
    (subst (λ (es : List Entry). IsTidy (limit_of p.shape) [] es) (sym seen) (tidy_append (limit_of p.shape) [] p.seen more tidy behind))
