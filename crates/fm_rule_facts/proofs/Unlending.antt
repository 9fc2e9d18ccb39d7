-- No words are lent to an arena that has ended and whose words were taken back.
use Rattle.std.{proofs.Common.{◌≡◌, ℕ, ◌==◌, true, List, [], ◌∷◌, ◌++◌, sym, ap, ◌∙◌, subst, not, ⊎_elim}, specs.Prelude.{Contains}}
use Rattle.fm_base.specs.{declared.arena_id.ArenaId.{ArenaId}, Arenas.{State, Ended, has_arena, arena_of}, Calls.{Call, Lend, Back, Entry}, Machine.{after}}
use Rattle.fm_base.{specs.Histories.{IsLegal, state_after}, proofs.Growing.{IsOver, Grows-after, Grows-state_after}}
use Rattle.fm_base.proofs.Making.{state_after-append, IsLegal-split}
use Rattle.fm_rule_facts.specs.Loans.{Loan, loan_of, loans_by, loans_after, loans_of, IsUnlent, IsRightlyLent, IsRightlyLentIn, IsRightlyLentFrom}
use Rattle.fm_rule_facts.proofs.Lending.{loan_cases, loan_was, loans_after-append}

still_none : (size : ℕ) (s : State) (loans : List Loan) (call : Call) (a : ArenaId) → (arena_of s a).life ≡ Ended → IsRightlyLentIn size s loans call
    → IsUnlent loans a → IsUnlent (loans_by loans call) a
still_none size s loans (Lend block id part) a o r n l h e = ⊎_elim
    (λ (q : loan_of block id part ≡ l).
    let i : id ≡ a = ap (λ (x : Loan). x.id) q ∙ e in r.2 (ap (λ (x : ArenaId). (arena_of s x).life) i ∙ o))
    (λ (i : Contains loans l). n l i e)
    (loan_cases (loan_of block id part) l loans h)
still_none size s loans (Back block) a o r n l h e = n l (loan_was (λ x. not (x.block == block)) loans l h) e
still_none size s loans call a o r n l h e = n l h e

-- nothing is lent to it later
pub none_lent_on : (size limit : ℕ) (s : State) (loans : List Loan) (es : List Entry) (a : ArenaId) → IsLegal limit s es → has_arena s a ≡ true
    → (arena_of s a).life ≡ Ended → IsRightlyLentFrom size limit s loans es → IsUnlent loans a → IsUnlent (loans_after loans es) a
none_lent_on size limit s loans [] a l h o r n = n
none_lent_on size limit s loans (e ∷ es) a l h o r n =
    let g = Grows-after limit s e l.0 l.1 in
    none_lent_on size limit (after limit s e) (loans_by loans e.call) es a l.2 (g.has a h) (g.ended a h o) r.1 (still_none size s loans e.call a o r.0 n)

-- ---- histories

-- both parts of a history that is rightly lent are so
module _ (size limit : ℕ) where
  pub lent-first : (s : State) (loans : List Loan) (es fs : List Entry) → IsRightlyLentFrom size limit s loans (es ++ fs) → IsRightlyLentFrom size limit s loans es
  lent-first s loans [] fs r = tt
  lent-first s loans (e ∷ es) fs r = (r.0, lent-first (after limit s e) (loans_by loans e.call) es fs r.1)

  pub lent-split : (s : State) (loans : List Loan) (es fs : List Entry) → IsRightlyLentFrom size limit s loans (es ++ fs)
      → IsRightlyLentFrom size limit (state_after limit s es) (loans_after loans es) fs
  lent-split s loans [] fs r = r
  lent-split s loans (e ∷ es) fs r = lent-split (after limit s e) (loans_by loans e.call) es fs r.1

-- where the history goes on, an arena that is over is so still
pub over_later : (limit : ℕ) (h more : List Entry) (a : ArenaId) → IsLegal limit [] (h ++ more) → has_arena (state_after limit [] h) a ≡ true
    → IsOver (arena_of (state_after limit [] h) a)
    → (has_arena (state_after limit [] (h ++ more)) a ≡ true) × IsOver (arena_of (state_after limit [] (h ++ more)) a)
over_later limit h more a l k o =
    let g = Grows-state_after limit (state_after limit [] h) more (IsLegal-split limit [] h more l).1 in
    subst (λ (s : State). (has_arena s a ≡ true) × IsOver (arena_of s a)) (sym (state_after-append limit [] h more)) (g.has a k, g.over a k o)

-- and nothing is lent to it
pub none_lent_later : (size limit : ℕ) (h more : List Entry) (a : ArenaId) → IsLegal limit [] (h ++ more) → IsRightlyLent size limit (h ++ more)
    → has_arena (state_after limit [] h) a ≡ true → (arena_of (state_after limit [] h) a).life ≡ Ended → IsUnlent (loans_of h) a → IsUnlent (loans_of (h ++ more)) a
none_lent_later size limit h more a l r k o n =
    subst (λ (ls : List Loan). IsUnlent ls a) (sym (loans_after-append [] h more))
    (none_lent_on size limit (state_after limit [] h) (loans_of h) more a (IsLegal-split limit [] h more l).1 k o (lent-split size limit [] [] h more r) n)
