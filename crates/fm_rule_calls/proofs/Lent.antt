-- A loan of an arena that hasn't ended lasts.
use Rattle.std.{proofs.Common.{◌≡◌, ◌≢◌, ℕ, ◌==◌, true, not, List, [], ◌∷◌, ◌++◌, ap, sym, ◌∙◌, subst, ⊎_elim, Some, arith, ne_eqb}, specs.Prelude.{Contains}}
use Rattle.std.proofs.lemmas.List.Elements.{All-contains}
use Rattle.fm_words.specs.declared.shape.Shape.{Shape}
use Rattle.fm_base.specs.{declared.arena_id.ArenaId.{ArenaId}, Arenas.{State, Ended, has_arena, arena_of}}
use Rattle.fm_base.specs.{Calls.{Call, Open, Enter, Read, Write, SwapIf, Add, Allocate, Leave, Hold, Unhold, Shut, End, Lend, Back, Entry}, Machine.{after}}
use Rattle.fm_base.{specs.Histories.{IsLegal, state_after}, proofs.{Growing.{Grows-after, Grows-state_after}, Making.{IsLegal-split, state_after-append}}}
use Rattle.fm_rule_facts.specs.Loans.{Loan, loan_of, loans_by, loans_after, loans_of, HasPart, IsRightlyLent, IsRightlyLentIn, IsRightlyLentFrom}
use Rattle.fm_rule_facts.specs.Views.{View, IsKnown, IsSound, limit_of, state_in}
use Rattle.fm_rule_facts.proofs.{Lending.{loan_cases, loan_kept, loan_was, loans_after-append, more_loans}, Unlending.{lent-first, lent-split}}
use Rattle.fm_rule_calls.proofs.UnderWay.{stands_under_way}

-- no block has two loans
abbrev IsOnceLent : List Loan → Type 0
IsOnceLent loans = (l x : Loan) → Contains loans l → Contains loans x → l.block ≡ x.block → l ≡ x

-- one more call that is right leaves it so
once_by : (size : ℕ) (s : State) (loans : List Loan) (call : Call) → IsRightlyLentIn size s loans call → IsOnceLent loans → IsOnceLent (loans_by loans call)
once_by size s loans (Lend block id part) r o l x i j e = ⊎_elim
    (λ (p : loan_of block id part ≡ l). ⊎_elim
    (λ (q : loan_of block id part ≡ x). sym p ∙ q)
    (λ (c : Contains loans x). absurd (All-contains (λ (y : Loan). y.block ≢ block) loans x r.0 c (sym e ∙ ap (λ (y : Loan). y.block) (sym p))))
    (loan_cases (loan_of block id part) x loans j))
    (λ (c : Contains loans l). ⊎_elim
    (λ (q : loan_of block id part ≡ x). absurd (All-contains (λ (y : Loan). y.block ≢ block) loans l r.0 c (e ∙ ap (λ (y : Loan). y.block) (sym q))))
    (λ (d : Contains loans x). o l x c d e)
    (loan_cases (loan_of block id part) x loans j))
    (loan_cases (loan_of block id part) l loans i)
once_by size s loans (Back block) r o l x i j e = o l x (loan_was (λ y. not (y.block == block)) loans l i) (loan_was (λ y. not (y.block == block)) loans x j) e
once_by size s loans (Open id) r o l x i j e = o l x i j e
once_by size s loans (Enter id) r o l x i j e = o l x i j e
once_by size s loans (Read id word) r o l x i j e = o l x i j e
once_by size s loans (Write id word value) r o l x i j e = o l x i j e
once_by size s loans (SwapIf id word old new) r o l x i j e = o l x i j e
once_by size s loans (Add id word n) r o l x i j e = o l x i j e
once_by size s loans (Allocate id length align) r o l x i j e = o l x i j e
once_by size s loans (Leave id) r o l x i j e = o l x i j e
once_by size s loans (Hold id) r o l x i j e = o l x i j e
once_by size s loans (Unhold id) r o l x i j e = o l x i j e
once_by size s loans (Shut id) r o l x i j e = o l x i j e
once_by size s loans (End id) r o l x i j e = o l x i j e

once_after : (size limit : ℕ) (s : State) (loans : List Loan) (es : List Entry) → IsRightlyLentFrom size limit s loans es → IsOnceLent loans
    → IsOnceLent (loans_after loans es)
once_after size limit s loans [] r o = o
once_after size limit s loans (e ∷ es) r o = once_after size limit (after limit s e) (loans_by loans e.call) es r.1 (once_by size s loans e.call r.0 o)

-- a loan of an arena that hasn't ended isn't taken back
module _ (a : ArenaId) (i p : ℕ) where
  kept_by : (size : ℕ) (s : State) (loans : List Loan) (call : Call) → IsRightlyLentIn size s loans call → IsOnceLent loans → (arena_of s a).life ≢ Ended
      → Contains loans (loan_of p a i) → Contains (loans_by loans call) (loan_of p a i)
  kept_by size s loans (Lend block id part) r o n c = more_loans (loan_of block id part) (loan_of p a i) loans c
  kept_by size s loans (Back block) r o n c =
      let other : p ≢ block = (λ e.
      let one : loan_of p a i ≡ loan_of block r.0 r.1 = o (loan_of p a i) (loan_of block r.0 r.1) c r.2 e in
      let its : a ≡ r.0 = ap (λ (l : Loan). l.id) one in n (ap (λ (b : ArenaId). (arena_of s b).life) its ∙ r.3)) in
      loan_kept (λ y. not (y.block == block)) loans (loan_of p a i) c (ap not (ne_eqb p block other))
  kept_by size s loans (Open id) r o n c = c
  kept_by size s loans (Enter id) r o n c = c
  kept_by size s loans (Read id word) r o n c = c
  kept_by size s loans (Write id word value) r o n c = c
  kept_by size s loans (SwapIf id word old new) r o n c = c
  kept_by size s loans (Add id word k) r o n c = c
  kept_by size s loans (Allocate id length align) r o n c = c
  kept_by size s loans (Leave id) r o n c = c
  kept_by size s loans (Hold id) r o n c = c
  kept_by size s loans (Unhold id) r o n c = c
  kept_by size s loans (Shut id) r o n c = c
  kept_by size s loans (End id) r o n c = c

  kept_after : (size limit : ℕ) (s : State) (loans : List Loan) (es : List Entry) → IsLegal limit s es → IsRightlyLentFrom size limit s loans es
      → IsOnceLent loans → has_arena s a ≡ true → (arena_of (state_after limit s es) a).life ≢ Ended → Contains loans (loan_of p a i)
      → Contains (loans_after loans es) (loan_of p a i)
  kept_after size limit s loans [] l r o h n c = c
  kept_after size limit s loans (e ∷ es) l r o h n c =
      let now : (arena_of s a).life ≢ Ended = (λ q. n ((Grows-state_after limit s (e ∷ es) l).ended a h q)) in
      kept_after size limit (after limit s e) (loans_by loans e.call) es l.2 r.1 (once_by size s loans e.call r.0 o) ((Grows-after limit s e l.0 l.1).has a h) n
      (kept_by size s loans e.call r.0 o now c)

-- A part of the arena that the pass is inside is lent still.
pub part_on : (p q : View) (more : List Entry) → q.seen ≡ p.seen ++ more → q.shape ≡ p.shape → IsSound q → (a : ArenaId) → IsKnown p a → q.inside ≡ Some a
    → (i : ℕ) → HasPart (loans_of p.seen) a i → HasPart (loans_of q.seen) a i
part_on p q more seen shape sound a known inside i h =
    let n : ℕ = limit_of p.shape in
    let legal : IsLegal n [] (p.seen ++ more) = subst (λ (x : Shape × List Entry). IsLegal (limit_of x.0) [] x.1) (λ j. (shape j, seen j)) sound.legal in
    let right : IsRightlyLent p.shape.page_words n (p.seen ++ more) =
    subst (λ (x : Shape × List Entry). IsRightlyLent x.0.page_words (limit_of x.0) x.1) (λ j. (shape j, seen j)) sound.lent in
    let parts = IsLegal-split n [] p.seen more legal in
    let stands : (arena_of (state_in q) a).life ≢ Ended = stands_under_way (limit_of q.shape) q.seen sound.legal q.caller a (sound.inside a inside) in
    let now : state_in q ≡ state_after n (state_in p) more =
    (λ j. state_after (limit_of (shape j)) [] (seen j)) ∙ state_after-append n [] p.seen more in
    let once : IsOnceLent (loans_of p.seen) = once_after p.shape.page_words n [] [] p.seen (lent-first p.shape.page_words n [] [] p.seen more right)
    (λ l x c d e. absurd (let b = c.1 in omega arith)) in
    let later = lent-split p.shape.page_words n [] [] p.seen more right in
    let kept = kept_after a i h.0 p.shape.page_words n (state_in p) (loans_of p.seen) more parts.1 later once known
    (subst (λ (s : State). (arena_of s a).life ≢ Ended) now stands) h.1 in
    (h.0, subst (λ (ls : List Loan). Contains ls (loan_of h.0 a i)) (sym (ap loans_of seen ∙ loans_after-append [] p.seen more)) kept)
