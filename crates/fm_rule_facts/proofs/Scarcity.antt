-- How many blocks aren't lent, and how many parts of an arena have no block, before and after a loan.
use Rattle.std.proofs.Common.{◌≡◌, ◌≢◌, ℕ, zero, suc, ◌+◌, ◌<◌, ◌≤◌, ◌==◌, ◌&&◌, Bool, true, false, if◌then◌else◌, List, [], ◌∷◌, All, sym, refl, ap, ◌∙◌, subst, ⊎_elim, arith, eq-eqb, ne_eqb}
use Rattle.std.{specs.Prelude.{Contains}, proofs.lemmas.{Bool.Decides.{nat_tests}, List.Elements.{All-head, All-tail}}}
use mathlib.Core.Logic.{dite}
use native.Mathlib.Decide.{ℕ_discrete}
use Rattle.fm_base.specs.{declared.arena_id.ArenaId.{ArenaId}, Arenas.{State, same_id}, Calls.{Call, Lend, Entry}, Machine.{after}}
use Rattle.fm_base.proofs.Names.{same_id-self, same_id-true}
use Rattle.fm_rule_facts.specs.Loans.{Loan, loan_of, loans_by, loans_after, IsFree, HasPart, IsRightlyLentIn, IsRightlyLentFrom}
use Rattle.fm_rule_facts.{specs.{Views.{is_lent, one_unless, unlent}, Scarcity.{has_part, lacking}}, proofs.Lending.{loan_cases, first_loan, more_loans}}

module _ (p : ℕ) (a : ArenaId) (i : ℕ) (loans : List Loan) where
  abbrev now : List Loan
  now = loan_of p a i ∷ loans

  lent_here : is_lent now p ≡ true
  lent_here = ap (λ (b : Bool). if b then true else is_lent loans p) (eq-eqb p p refl)

  lent_else : (q : ℕ) → q ≢ p → is_lent now q ≡ is_lent loans q
  lent_else q n = ap (λ (b : Bool). if b then true else is_lent loans q) (ne_eqb p q (λ e. n (sym e)))

  unlent_before : (n : ℕ) → n ≤ p → unlent n now ≡ unlent n loans
  unlent_before zero h = refl
  unlent_before (suc n) h = λ j. one_unless (lent_else n (λ e. omega arith) j) + unlent_before n (omega arith) j

  -- one block less isn't lent
  pub unlent_lend : (n : ℕ) → p < n → is_lent loans p ≡ false → unlent n now + 1 ≡ unlent n loans
  unlent_lend zero h free = absurd (omega arith)
  unlent_lend (suc n) h free = dite (ℕ_discrete n p)
      (λ e.
      let was : unlent (suc n) loans ≡ 1 + unlent n loans = ap (λ (b : Bool). one_unless b + unlent n loans) (ap (is_lent loans) e ∙ free) in
      let is : unlent (suc n) now ≡ 0 + unlent n now = ap (λ (b : Bool). one_unless b + unlent n now) (ap (is_lent now) e ∙ lent_here) in
      let same = unlent_before n (omega arith) in omega arith)
      (λ ne.
      let is : unlent (suc n) now ≡ one_unless (is_lent loans n) + unlent n now = ap (λ (b : Bool). one_unless b + unlent n now) (lent_else n ne) in
      let rest = unlent_lend n (omega arith) free in
      let was : unlent (suc n) loans ≡ one_unless (is_lent loans n) + unlent n loans = refl in omega arith)

  part_here : has_part now a i ≡ true
  part_here = (λ j. if same_id-self a j && eq-eqb i i refl j then true else has_part loans a i)

  part_else : (k : ℕ) → k ≢ i → has_part now a k ≡ has_part loans a k
  part_else k n = ap (λ (b : Bool). if same_id a a && b then true else has_part loans a k) (ne_eqb i k (λ e. n (sym e))) ∙ go (same_id a a)
    where
      go : (b : Bool) → (if b && false then true else has_part loans a k) ≡ has_part loans a k
      go true = refl
      go false = refl

  lacking_before : (n : ℕ) → n ≤ i → lacking n now a ≡ lacking n loans a
  lacking_before zero h = refl
  lacking_before (suc n) h = λ j. one_unless (part_else n (λ e. omega arith) j) + lacking_before n (omega arith) j

  -- one part less of the arena has none
  pub lacking_lend : (n : ℕ) → i < n → has_part loans a i ≡ false → lacking n now a + 1 ≡ lacking n loans a
  lacking_lend zero h free = absurd (omega arith)
  lacking_lend (suc n) h free = dite (ℕ_discrete n i)
      (λ e.
      let was : lacking (suc n) loans a ≡ 1 + lacking n loans a = ap (λ (b : Bool). one_unless b + lacking n loans a) (ap (has_part loans a) e ∙ free) in
      let is : lacking (suc n) now a ≡ 0 + lacking n now a = ap (λ (b : Bool). one_unless b + lacking n now a) (ap (has_part now a) e ∙ part_here) in
      let same = lacking_before n (omega arith) in omega arith)
      (λ ne.
      let is : lacking (suc n) now a ≡ one_unless (has_part loans a n) + lacking n now a = ap (λ (b : Bool). one_unless b + lacking n now a) (part_else n ne) in
      let rest = lacking_lend n (omega arith) free in
      let was : lacking (suc n) loans a ≡ one_unless (has_part loans a n) + lacking n loans a = refl in omega arith)

-- ---- what the tests say

-- a part that is lent has a block
pub has_part_of : (loans : List Loan) (a : ArenaId) (i : ℕ) → HasPart loans a i → has_part loans a i ≡ true
has_part_of [] a i h = absurd (let n = h.1.1 in omega arith)
has_part_of (x ∷ xs) a i h = ⊎_elim
    (λ (e : x ≡ loan_of h.0 a i).
    let s : same_id x.id a ≡ true = ap (λ (y : Loan). same_id y.id a) e ∙ same_id-self a in
    let p : (x.part == i) ≡ true = ap (λ (y : Loan). y.part == i) e ∙ eq-eqb i i refl in
    (λ j. if s j && p j then true else has_part xs a i))
    (λ (m : Contains xs (loan_of h.0 a i)). go (same_id x.id a && (x.part == i)) (has_part_of xs a i (h.0, m)))
    (loan_cases x (loan_of h.0 a i) xs h.1)
  where
    go : (b : Bool) → has_part xs a i ≡ true → (if b then true else has_part xs a i) ≡ true
    go true q = refl
    go false q = q

-- a part that has a block is lent
part_is : (loans : List Loan) (a : ArenaId) (i : ℕ) → has_part loans a i ≡ true → HasPart loans a i
part_is [] a i e = absurd (cc)
part_is (x ∷ xs) a i e = go (part_is xs a i) (same_id x.id a) refl (x.part == i) refl e
  where
    later : HasPart xs a i → HasPart (x ∷ xs) a i
    later r = (r.0, more_loans x (loan_of r.0 a i) xs r.1)

    go : (has_part xs a i ≡ true → HasPart xs a i) → (b : Bool) → same_id x.id a ≡ b → (c : Bool) → (x.part == i) ≡ c
        → (if b && c then true else has_part xs a i) ≡ true → HasPart (x ∷ xs) a i
    go rest true s true p q =
        let id : x.id ≡ a = same_id-true x.id a s in
        let part : x.part ≡ i = grind (arith, nat_tests) in
        (x.block, subst (λ (l : Loan). Contains (x ∷ xs) l) (λ j. record { block = x.block; id = id j; part = part j }) (first_loan x xs))
    go rest true s false p q = later (rest q)
    go rest false s c p q = later (rest q)

-- a part that isn't lent has none
pub has_part_not : (loans : List Loan) (a : ArenaId) (i : ℕ) → ¬ (HasPart loans a i) → has_part loans a i ≡ false
has_part_not loans a i n = go (has_part loans a i) refl
  where
    go : (b : Bool) → has_part loans a i ≡ b → has_part loans a i ≡ false
    go true e = absurd (n (part_is loans a i e))
    go false e = e

-- a block without a loan isn't lent
pub block_free : (loans : List Loan) (p : ℕ) → IsFree loans p → is_lent loans p ≡ false
block_free [] p n = refl
block_free (x ∷ xs) p n =
    let first : (x.block == p) ≡ false = ne_eqb x.block p (All-head (λ (l : Loan). l.block ≢ p) x xs n) in
    ap (λ (b : Bool). if b then true else is_lent xs p) first ∙ block_free xs p (All-tail (λ (l : Loan). l.block ≢ p) x xs n)

-- where each part has a block, none lacks one
pub none_lacking : (n : ℕ) (loans : List Loan) (a : ArenaId) → ((i : ℕ) → i < n → has_part loans a i ≡ true) → lacking n loans a ≡ 0
none_lacking zero loans a h = refl
none_lacking (suc n) loans a h =
    let last : lacking (suc n) loans a ≡ 0 + lacking n loans a = ap (λ (b : Bool). one_unless b + lacking n loans a) (h n (omega arith)) in
    let rest = none_lacking n loans a (λ i l. h i (omega arith)) in omega arith

-- a part without a block is counted
pub some_lacking : (n i : ℕ) (loans : List Loan) (a : ArenaId) → i < n → has_part loans a i ≡ false → 0 < lacking n loans a
some_lacking zero i loans a l e = absurd (omega arith)
some_lacking (suc n) i loans a l e = dite (ℕ_discrete n i)
    (λ q. let last : lacking (suc n) loans a ≡ 1 + lacking n loans a = ap (λ (b : Bool). one_unless b + lacking n loans a) (ap (has_part loans a) q ∙ e) in
    omega arith)
    (λ q.
    let rest = some_lacking n i loans a (omega arith) e in
    let last : lacking (suc n) loans a ≡ one_unless (has_part loans a n) + lacking n loans a = refl in omega arith)

-- no more parts lack a block than there are
pub lacking_most : (n : ℕ) (loans : List Loan) (a : ArenaId) → lacking n loans a ≤ n
lacking_most zero loans a = omega arith
lacking_most (suc n) loans a = go (has_part loans a n) (lacking_most n loans a)
  where
    go : (b : Bool) → lacking n loans a ≤ n → one_unless b + lacking n loans a ≤ suc n
    go true h = omega arith
    go false h = omega arith

-- ---- entries that lend

-- the entry lends a block to the arena, as one of its first n parts
abbrev pub LendsFirst : ArenaId → (n : ℕ) → Entry → Type 0
LendsFirst a n e = (block : ℕ) × (part : ℕ) × (part < n) × (e.call ≡ Lend block a part)

module _ (size limit pages n : ℕ) (a : ArenaId) where
  -- what was lent is so after further loans
  pub lends_keep : (loans : List Loan) (es : List Entry) (l : Loan) → All (LendsFirst a n) es → Contains loans l → Contains (loans_after loans es) l
  lends_keep loans [] l h c = c
  lends_keep loans (e ∷ es) l h c =
      let f = All-head (LendsFirst a n) e es h in
      subst (λ (k : Call). Contains (loans_after (loans_by loans k) es) l) (sym f.3)
      (lends_keep (loan_of f.0 a f.1 ∷ loans) es l (All-tail (LendsFirst a n) e es h) (more_loans (loan_of f.0 a f.1) l loans c))

  -- by each the blocks that aren't lent become as many fewer as the parts that lack one
  pub lends_even : (s : State) (loans : List Loan) (es : List Entry) → IsRightlyLentFrom size limit s loans es → All (LendsFirst a n) es
      → ((l : Loan) → Contains (loans_after loans es) l → l.block < pages)
      → unlent pages loans + lacking n (loans_after loans es) a ≡ unlent pages (loans_after loans es) + lacking n loans a
  lends_even s loans [] r h low = refl
  lends_even s loans (e ∷ es) r h low =
      let f = All-head (LendsFirst a n) e es h in
      let rest = All-tail (LendsFirst a n) e es h in
      let p : ℕ = f.0 in
      let i : ℕ = f.1 in
      let now : List Loan = loan_of p a i ∷ loans in
      let right : IsRightlyLentIn size s loans (Lend p a i) = subst (λ (k : Call). IsRightlyLentIn size s loans k) f.3 r.0 in
      let is : loans_by loans e.call ≡ now = ap (λ (k : Call). loans_by loans k) f.3 in
      let low' : (l : Loan) → Contains (loans_after now es) l → l.block < pages =
      (λ l c. low l (subst (λ (ls : List Loan). Contains (loans_after ls es) l) (sym is) c)) in
      let page_low : p < pages = low' (loan_of p a i) (lends_keep now es (loan_of p a i) rest (first_loan (loan_of p a i) loans)) in
      let u = unlent_lend p a i loans pages page_low (block_free loans p right.0) in
      let k = lacking_lend p a i loans n f.2 (has_part_not loans a i right.3) in
      let later = lends_even (after limit s e) now es (subst (λ (ls : List Loan). IsRightlyLentFrom size limit (after limit s e) ls es) is r.1) rest low' in
      subst (λ (ls : List Loan). unlent pages loans + lacking n (loans_after ls es) a ≡ unlent pages (loans_after ls es) + lacking n loans a)
      (sym is) (omega arith)
