-- How many pages of a group aren't lent where its word of page bits is 0.
use Rattle.std.proofs.Common.{◌≡◌, ◌≢◌, ℕ, zero, suc, ◌+◌, ◌/◌, ◌%◌, ◌<◌, ◌≤◌, ◌==◌, Bool, true, false, if◌then◌else◌, List, [], ◌∷◌, length, sym, refl, ap, ◌∙◌, subst, arith, inl, inr, ⊎_elim, eq-eqb}
use Rattle.std.{specs.{Prelude.{Contains}, Int.{bit_at}}, proofs.lemmas.{List.{append-nil}, Nat.Bits.{bit_at-zero}}}
use mathlib.Core.Option.{some, some-injective}
use lib.ListN.{get_elem?}
use Rattle.fm_words.specs.{declared.shape.Shape.{Shape}, Bits.{number_at, bit_of}}
use Rattle.fm_base.specs.Finds.{Find, group_of}
use Rattle.fm_rule_facts.{proofs.Groups.{in_group, none_from}, specs.Loans.{Loan, loans_of}}
use Rattle.fm_rule_facts.specs.Views.{View, In, is_lent, one_unless, unlent_from, unlent_in, pages_in, FewLeft}
use Rattle.fm_rule_facts.{specs.Facts.{Berth, loose, claimed, mapped, unmapped, IsAt, HasPage, IsLone, Owns, Rule}, proofs.Lending.{loan_cases}}
use Rattle.fm_rule_facts.proofs.{Counting.{Distinct, at_most}, Alone.{lonely}}
use Rattle.fm_rule_steps.proofs.Knowing.{own}

-- a loan's block is lent
pub lent_block : (loans : List Loan) (l : Loan) → Contains loans l → is_lent loans l.block ≡ true
lent_block [] l h = absurd (let b = h.1 in omega arith)
lent_block (x ∷ xs) l h = ⊎_elim
    (λ (e : x ≡ l). ap (λ (b : Bool). if b then true else is_lent xs l.block) (eq-eqb x.block l.block (ap (λ (y : Loan). y.block) e)))
    (λ (i : Contains xs l). go (x.block == l.block) (lent_block xs l i))
    (loan_cases x l xs h)
  where
    go : (b : Bool) → is_lent xs l.block ≡ true → (if b then true else is_lent xs l.block) ≡ true
    go true q = refl
    go false q = q

-- one of two pages is the only one
lone_page : (ps : List ℕ) → IsLone ps → (p q : ℕ) → In p ps → In q ps → p ≡ q
lone_page ps (inl e) p q i j = absurd (subst (In p) e i)
lone_page ps (inr y) p q i j = one (subst (In p) y.1 i) (subst (In q) y.1 j)
  where
    one : In p (y.0 ∷ []) → In q (y.0 ∷ []) → p ≡ q
    one (inl a) (inl b) = a ∙ sym b
    one (inl a) (inr b) = absurd b
    one (inr a) b = absurd a

module _ (z : Shape) (me : ℕ) (v : View) (l : v.live ≡ true) (ws : List ℕ) (vs : List View) (r : Rule z ws vs) (at : get_elem? vs me ≡ some v)
    (none : v.pages ≡ []) (g : ℕ) (empty : r.memory.page_bits g ≡ 0) where
  abbrev mine : Owns z r.history r.memory r.machine r.owners me v
  mine = own z ws vs r me v at l

  abbrev loans : List Loan
  loans = loans_of r.history

  -- a page of the group that isn't lent is in a hand
  claimer : (q : ℕ) → q < z.pages → q / 64 ≡ g → is_lent loans q ≡ false → (j : ℕ) × (r.owners.berth q ≡ claimed j)
  claimer q low of free = go (r.owners.berth q) refl
    where
      taken_up : (l : Loan) → l.block ≡ q → Contains loans l → (j : ℕ) × (r.owners.berth q ≡ claimed j)
      taken_up x e h = absurd (let n : true ≡ false = sym (lent_block loans x h) ∙ (ap (is_lent loans) e ∙ free) in cc)

      go : (b : Berth) → r.owners.berth q ≡ b → (j : ℕ) × (r.owners.berth q ≡ claimed j)
      go loose e = absurd (let one = r.pages.is_bit q low e in
          let n : bit_of r.memory.page_bits q ≡ 0 = (λ j. bit_at (r.memory.page_bits (of j)) (q % 64))
          ∙ (ap (λ (x : ℕ). bit_at x (q % 64)) empty ∙ bit_at-zero (q % 64)) in omega arith)
      go (claimed j) e = (j, e)
      go (mapped k i) e = let y = r.pages.mapped_is q k i e in taken_up (record { block = q; id = y.arena; part = i }) refl y.lent
      go (unmapped j a i) e = let y = r.pages.unmapped_is q j i a e in taken_up (record { block = q; id = a; part = i }) refl y.lent

  -- the first page of the group
  abbrev first : ℕ
  first = number_at g 0

  -- a view at the seat of a number has a page
  record HasOne (n m : ℕ) : Type 0 where
    page : ℕ
    low : page < first + n
    view : View
    there : get_elem? vs (r.owners.number m) ≡ some view
    has : In page view.pages

  -- as many numbers of other callers as pages that aren't lent
  record Holders (n : ℕ) : Type 0 where
    nums : List ℕ
    long : length nums ≡ unlent_from first n loans
    distinct : Distinct nums
    low : (m : ℕ) → In m nums → m < z.passes
    other : (m : ℕ) → In m nums → m ≢ v.caller.number
    ones : (m : ℕ) → In m nums → HasOne n m

  more : (n m : ℕ) → HasOne n m → HasOne (suc n) m
  more n m h = record { page = h.page; low = (let a = h.low in omega arith); view = h.view; there = h.there; has = h.has }

  holders : (n : ℕ) → n ≤ pages_in z g → Holders n
  holders zero h = record { nums = []; long = refl; distinct = tt; low = λ m i. absurd i; other = λ m i. absurd i; ones = λ m i. absurd i }
  holders (suc n) h = go (is_lent loans (first + n)) refl (holders n (omega arith))
    where
      go : (b : Bool) → is_lent loans (first + n) ≡ b → Holders n → Holders (suc n)
      go true e y = record {
        nums = y.nums;
        long = (let a = y.long in
            let c : unlent_from first (suc n) loans ≡ 0 + unlent_from first n loans = ap (λ (x : Bool). one_unless x + unlent_from first n loans) e in
            omega arith);
        distinct = y.distinct;
        low = y.low;
        other = y.other;
        ones = λ m i. more n m (y.ones m i);
      }
      go false e y =
          let at_group = in_group z g n (omega arith) in
          let c = claimer (first + n) at_group.0 at_group.1 e in
          let s = r.berths (first + n) c.0 (subst (IsAt c.0) (sym c.1) refl) in
          let has : (s.view.live ≡ true) × In (first + n) s.view.pages = subst (λ (x : Berth). HasPage (first + n) x s.view) c.1 s.holds in
          let its = (r.each c.0 s.view s.there).owns has.0 in
          let there : get_elem? vs (r.owners.number s.view.caller.number) ≡ some s.view = ap (get_elem? vs) its.owner ∙ s.there in
          record {
            nums = s.view.caller.number ∷ y.nums;
            long = (let a = y.long in
                let c : unlent_from first (suc n) loans ≡ 1 + unlent_from first n loans = ap (λ (x : Bool). one_unless x + unlent_from first n loans) e in
                omega arith);
            distinct = (
              (λ i.
                  let o = y.ones s.view.caller.number i in
                  let same : o.view ≡ s.view = some-injective o.view s.view (sym o.there ∙ there) in
                  let q : first + n ≡ o.page = lone_page s.view.pages its.work.pages.lone (first + n) o.page has.1 (subst (λ (u : View). In o.page u.pages) same o.has) in
                  let a = o.low in absurd (omega arith)),
              y.distinct,
            );
            low = λ m. ⊎_elim (λ (q : m ≡ s.view.caller.number). let a = (r.terms s.view.caller its.drawn).0 in omega arith) (y.low m);
            other = λ m. ⊎_elim
                (λ (q : m ≡ s.view.caller.number) (p : m ≡ v.caller.number).
                let same : s.view ≡ v =
                some-injective s.view v
                (sym there ∙ (ap (λ (k : ℕ). get_elem? vs (r.owners.number k)) (sym q ∙ p) ∙ (ap (get_elem? vs) mine.owner ∙ at))) in
                subst (In (first + n)) (ap (λ (u : View). u.pages) same ∙ none) has.1)
                (y.other m);
            ones = λ m. ⊎_elim
                (λ (q : m ≡ s.view.caller.number). record {
                  page = first + n;
                  low = omega arith;
                  view = s.view;
                  there = ap (λ (k : ℕ). get_elem? vs (r.owners.number k)) q ∙ there;
                  has = has.1;
                })
                (λ i. more n m (y.ones m i));
          }

  -- pages of the group that aren't lent are fewer than the passes
  pub few_free : unlent_in z g loans < z.passes
  few_free =
      let y = holders (pages_in z g) (omega arith) in
      let most = at_most z.passes (v.caller.number ∷ y.nums) ((λ i. y.other v.caller.number i refl), y.distinct)
      (λ m. ⊎_elim (λ (q : m ≡ v.caller.number). let a = (r.terms v.caller mine.drawn).0 in omega arith) (y.low m)) in
      let a = y.long in omega arith

  -- and where the finder is known to be whole, all are lent
  pub none_free : v.whole ≡ true → unlent_in z g loans ≡ 0
  none_free w = none_from first (pages_in z g) loans (λ k h. let y = in_group z g k h in is_one (first + k) y.0 y.1 (is_lent loans (first + k)) refl)
    where
      is_one : (q : ℕ) → q < z.pages → q / 64 ≡ g → (b : Bool) → is_lent loans q ≡ b → is_lent loans q ≡ true
      is_one q low of true e = e
      is_one q low of false e =
          let c = claimer q low of e in
          let s = r.berths q c.0 (subst (IsAt c.0) (sym c.1) refl) in
          let has : (s.view.live ≡ true) × In q s.view.pages = subst (λ (b : Berth). HasPage q b s.view) c.1 s.holds in
          let same = lonely z me v l ws vs r at w c.0 s.view s.there has.0 in
          absurd (subst (In q) (ap (λ (u : View). u.pages) same ∙ none) has.1)

  -- so the find says
  pub few_left : (f : Find) → group_of f.step ≡ g → f.seen ≡ length r.history → (f.clear ≡ true → v.whole ≡ true) → FewLeft z r.history f
  few_left f of long clear = record {
    before = r.history;
    begins = ([], sym (append-nil r.history));
    long = sym long;
    few = subst (λ (k : ℕ). unlent_in z k loans < z.passes) (sym of) few_free;
    none = λ c. subst (λ (k : ℕ). unlent_in z k loans ≡ 0) (sym of) (none_free (clear c));
  }
