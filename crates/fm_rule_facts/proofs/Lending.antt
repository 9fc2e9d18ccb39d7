-- Loans of a history that goes on.
use Rattle.std.proofs.Common.{◌≡◌, ◌≢◌, ◌⊎◌, ℕ, Bool, true, false, cond, filter, List, [], ◌∷◌, ◌++◌, sym, refl, ap, ◌∙◌, subst, inl, inr, ⊎_elim, arith, Option, Some}
use Rattle.std.proofs.lemmas.List.Elements.{All-contains, All-contains_itself, All-filter, Contains-append_left, Contains-append_right, Contains-append_cases, Contains-push, Contains-push_cases}
use Rattle.std.specs.Prelude.{Contains}
use Rattle.fm_base.specs.{declared.{caller.Caller.{Caller}, arena_id.ArenaId.{ArenaId}}, Arenas.{Life, Alive, Closing, Ended, State, has_arena, arena_of}}
use Rattle.fm_base.specs.{Calls.{Call, Open, Enter, Read, Write, SwapIf, Add, Allocate, Leave, Hold, Unhold, Shut, End, Lend, Back, Entry}, Machine.{after}}
use Rattle.fm_base.{specs.Histories.{IsLegal, state_after}, proofs.Making.{state_after-append}}
use Rattle.fm_words.specs.declared.shape.Shape.{Shape}
use Rattle.fm_rule_facts.specs.{PoolWords.{Session, IsShown}, Pages.{IsBeyond, IsMapped}}
use Rattle.fm_rule_facts.specs.{Loans.{Loan, LendsWithin, loan_of, loans_by, loans_after, IsRightlyLentIn, IsRightlyLentFrom}, Views.{In}, Moves.{LendsBy, MayLend, MayMake}}
use Rattle.fm_rule_facts.proofs.Frame.{legal_on}
use Rattle.fm_base_machine.{specs.Functions.{Fresh, Over, stage_of, Machine, Depicts, moved}, proofs.Allowing.{not_fresh}}

-- ---- histories put together

pub loans_after-append : (loans : List Loan) (es fs : List Entry) → loans_after loans (es ++ fs) ≡ loans_after (loans_after loans es) fs
loans_after-append loans [] fs = refl
loans_after-append loans (e ∷ es) fs = loans_after-append (loans_by loans e.call) es fs

pub lent-append : (size limit : ℕ) (s : State) (loans : List Loan) (es fs : List Entry) → IsRightlyLentFrom size limit s loans es
    → IsRightlyLentFrom size limit (state_after limit s es) (loans_after loans es) fs → IsRightlyLentFrom size limit s loans (es ++ fs)
lent-append size limit s loans [] fs p q = q
lent-append size limit s loans (e ∷ es) fs p q = (p.0, lent-append size limit (after limit s e) (loans_by loans e.call) es fs p.1 q)

-- ---- what the functions allow is right

on_going : (b : Bool) (l : Life) → stage_of b l ≢ Fresh → stage_of b l ≢ Over → l ≢ Ended
on_going true Alive n o e = absurd (cc)
on_going true Closing n o e = absurd (cc)
on_going true Ended n o e = o refl
on_going false l n o e = n refl

pub over_now : (b : Bool) (l : Life) → stage_of b l ≡ Over → l ≡ Ended
over_now true Alive o = absurd (cc)
over_now true Closing o = absurd (cc)
over_now true Ended o = refl
over_now false l o = absurd (cc)

right_by : (z : Shape) (limit : ℕ) (s : State) (t : Machine) (loans : List Loan) (call : Call) → Depicts limit s t → LendsBy z t loans call
    → IsRightlyLentIn z.page_words s loans call
right_by z limit s t loans (Lend block id part) d m =
    let n : stage_of (has_arena s id) (arena_of s id).life ≢ Fresh = (λ f. m.1 (d.life id ∙ f)) in
    (m.0, not_fresh (has_arena s id) (arena_of s id).life n, on_going (has_arena s id) (arena_of s id).life n (λ f. m.2 (d.life id ∙ f)), m.3)
right_by z limit s t loans (Back block) d m = (m.0, m.1, m.2, over_now (has_arena s m.0) (arena_of s m.0).life (sym (d.life m.0) ∙ m.3))
right_by z limit s t loans (Read id word) d m = m
right_by z limit s t loans (Write id word value) d m = m
right_by z limit s t loans (SwapIf id word old new) d m = m
right_by z limit s t loans (Add id word n) d m = m
right_by z limit s t loans (Open id) d m = tt
right_by z limit s t loans (Enter id) d m = tt
right_by z limit s t loans (Allocate id length align) d m = tt
right_by z limit s t loans (Leave id) d m = tt
right_by z limit s t loans (Hold id) d m = tt
right_by z limit s t loans (Unhold id) d m = tt
right_by z limit s t loans (Shut id) d m = tt
right_by z limit s t loans (End id) d m = tt

-- entries that the functions allow are rightly lent where a legal history goes on with them
pub lent_on : (z : Shape) (limit : ℕ) (c : Caller) (h : List Entry) (loans : List Loan) (es : List Entry) (t : Machine) → IsLegal limit [] h
    → Depicts limit (state_after limit [] h) t
    → MayMake limit t c es → MayLend z t loans es → IsRightlyLentFrom z.page_words limit (state_after limit [] h) loans es
lent_on z limit c h loans [] t l d p m = tt
lent_on z limit c h loans (e ∷ es) t l d p m =
    let one = legal_on limit c h (e ∷ []) t l d (p.0, p.1, p.2, tt) in
    let rest = lent_on z limit c (h ++ e ∷ []) (loans_by loans e.call) es (moved t e.caller e.call e.reply) one.0 one.1 p.3 m.1 in (
      right_by z limit (state_after limit [] h) t loans e.call d m.0,
      subst (λ (s : State). IsRightlyLentFrom z.page_words limit s (loans_by loans e.call) es) (state_after-append limit [] h (e ∷ [])) rest,
    )

within_by : (z : Shape) (t : Machine) (loans : List Loan) (call : Call) → LendsBy z t loans call → LendsWithin z call
within_by z t loans (Lend block id part) m = (m.4, m.5)
within_by z t loans call m = tt

-- and what they lend is the pool's
pub within_on : (z : Shape) (t : Machine) (loans : List Loan) (es : List Entry) → MayLend z t loans es → (e : Entry) → In e es → LendsWithin z e.call
within_on z t loans [] m e i = absurd i
within_on z t loans (x ∷ es) m e (inl q) = subst (λ (y : Entry). LendsWithin z y.call) (sym q) (within_by z t loans x.call m.0)
within_on z t loans (x ∷ es) m e (inr i) = within_on z (moved t x.caller x.call x.reply) (loans_by loans x.call) es m.1 e i

-- ---- loans after each kind of entry

-- a list of loans has its first one
pub first_loan : (l : Loan) (loans : List Loan) → Contains (l ∷ loans) l
first_loan l loans = Contains-append_left (l ∷ []) loans l (Contains-push [] l)

-- and all that come after it
pub more_loans : (l x : Loan) (loans : List Loan) → Contains loans x → Contains (l ∷ loans) x
more_loans l x loans h = Contains-append_right (l ∷ []) loans x h

pub loan_cases : (l x : Loan) (loans : List Loan) → Contains (l ∷ loans) x → (l ≡ x) ⊎ Contains loans x
loan_cases l x loans h = ⊎_elim
    (λ (one : Contains (l ∷ []) x). ⊎_elim (λ (none : Contains [] x). absurd (let b = none.1 in omega arith)) (λ (e : l ≡ x). inl e)
    (Contains-push_cases [] l x one))
    (λ (more : Contains loans x). inr more)
    (Contains-append_cases (l ∷ []) loans x h)

-- what was lent of other blocks is lent still, when one is taken back
pub loan_kept : (p : Loan → Bool) (loans : List Loan) (x : Loan) → Contains loans x → p x ≡ true → Contains (filter p loans) x
loan_kept p [] x h e = absurd (let l = h.1 in omega arith)
loan_kept p (y ∷ ys) x h e = go (p y) refl (loan_cases y x ys h) (λ i. loan_kept p ys x i e)
  where
    go : (b : Bool) → p y ≡ b → (y ≡ x) ⊎ Contains ys x → (Contains ys x → Contains (filter p ys) x) → Contains (cond b (y ∷ filter p ys) (filter p ys)) x
    go true t (inl i) ih = subst (λ (w : Loan). Contains (w ∷ filter p ys) x) (sym i) (first_loan x (filter p ys))
    go true t (inr i) ih = more_loans y x (filter p ys) (ih i)
    go false t (inl i) ih = absurd (let q : true ≡ false = sym e ∙ (ap p (sym i) ∙ t) in cc)
    go false t (inr i) ih = ih i

pub loan_was : (p : Loan → Bool) (loans : List Loan) (x : Loan) → Contains (filter p loans) x → Contains loans x
loan_was p loans x = All-contains (Contains loans) (filter p loans) x (All-filter p (Contains loans) loans (All-contains_itself loans))

-- ---- parts with a page

-- A page that is mapped is so beside other facts, where it is named, shown and lent there, and 0 beyond what is given.
pub mapped_over : {z : Shape} {loans loans' : List Loan} {maps maps' : ℕ → ℕ → Option ℕ} {cells cells' : ℕ → ℕ → ℕ} {sessions sessions' : ℕ → Session}
    {given given' : ArenaId → ℕ} {p k i : ℕ} (y : IsMapped z loans maps cells sessions given p k i) → maps' k i ≡ Some p → IsShown sessions' y.arena
    → Contains loans' (loan_of p y.arena i) → IsBeyond z cells' (given' y.arena) p i → IsMapped z loans' maps' cells' sessions' given' p k i
mapped_over y named shown lent beyond =
    record { page = y.page; part = y.part; named = named; arena = y.arena; slot = y.slot; shown = shown; lent = lent; beyond = beyond }
