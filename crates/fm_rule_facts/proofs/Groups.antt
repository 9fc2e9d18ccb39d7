-- Words of bits for things of many numbers, and the pages whose bits one word has.
use Rattle.std.proofs.Common.{◌≡◌, ◌≢◌, ℕ, zero, suc, ◌+◌, ◌-◌, ◌*◌, ◌/◌, ◌%◌, ◌^◌, ◌<◌, min, bit_or, Bool, true, false, List, sym, refl, ap, ◌∙◌, subst, arith}
use Rattle.std.{specs.Int.{bit_at}, proofs.lemmas.Nat.Bits.{bit_at-lt, bit_at_or, bit_at-pow_same, bit_at-pow_other}}
use mathlib.Core.Logic.{dite}
use native.Mathlib.Decide.{ℕ_discrete}
use Rattle.fm_words.specs.{declared.shape.Shape.{Shape}, Places.{page_groups}, Bits.{number_at, bit_of}}
use Rattle.fm_base_machine.{specs.Functions.{put}, proofs.Putting.{put_here, put_else}}
use Rattle.fm_rule_facts.specs.{Loans.{Loan}, Views.{is_lent, one_unless, unlent, unlent_from, unlent_in, pages_in}}

-- ---- a word of bits is put

module _ (words : ℕ → ℕ) (g bit x : ℕ) (low : bit < 64) where
  pub bit_here : bit_of (put words g x) (number_at g bit) ≡ bit_at x bit
  bit_here =
      let a : number_at g bit / 64 ≡ g = omega arith in
      let b : number_at g bit % 64 ≡ bit = omega arith in
      (λ j. bit_at (put words g x (a j)) (b j)) ∙ ap (λ (w : ℕ). bit_at w bit) (put_here words g x)

  pub bit_else : ((k : ℕ) → k ≢ bit → bit_at x k ≡ bit_at (words g) k) → (n : ℕ) → n ≢ number_at g bit → bit_of (put words g x) n ≡ bit_of words n
  bit_else others n ne = dite (ℕ_discrete (n / 64) g)
      (λ e.
      let far : n % 64 ≢ bit = (λ q. ne (omega arith)) in
      (λ j. bit_at (put words g x (e j)) (n % 64)) ∙ (ap (λ (w : ℕ). bit_at w (n % 64)) (put_here words g x) ∙ (others (n % 64) far
      ∙ (λ j. bit_at (words (sym e j)) (n % 64)))))
      (λ f. ap (λ (w : ℕ). bit_at w (n % 64)) (put_else words g x (n / 64) f))

  -- the word as it was
  pub bit_was : (w : ℕ) → words g ≡ w → bit_of words (number_at g bit) ≡ bit_at w bit
  bit_was w e =
      let a : number_at g bit / 64 ≡ g = omega arith in
      let b : number_at g bit % 64 ≡ bit = omega arith in
      (λ j. bit_at (words (a j)) (b j)) ∙ ap (λ (v : ℕ). bit_at v bit) e

-- ---- pages

-- a page's bit is one of a word
pub page_group : (z : Shape) (p : ℕ) → p < z.pages → p / 64 < page_groups z
page_group z p h = let n : ℕ = z.pages in let l : p < n = h in omega arith

pub group_of_page : (z : Shape) (g bit : ℕ) → number_at g bit < z.pages → g < page_groups z
group_of_page z g bit h = let n : ℕ = z.pages in let l : g * 64 + bit < n = h in omega arith

-- each page of a group is among those that are counted
pub in_group : (z : Shape) (g k : ℕ) → k < pages_in z g → (number_at g 0 + k < z.pages) × ((number_at g 0 + k) / 64 ≡ g)
in_group z g k h = let n : ℕ = z.pages in let l : k < min 64 (n - (g * 64 + 0)) = h in (omega arith, omega arith)

-- where all of so many blocks are lent, none is left
pub none_from : (first n : ℕ) (loans : List Loan) → ((k : ℕ) → k < n → is_lent loans (first + k) ≡ true) → unlent_from first n loans ≡ 0
none_from first zero loans all = refl
none_from first (suc n) loans all =
    let here : unlent_from first (suc n) loans ≡ 0 + unlent_from first n loans =
    ap (λ (b : Bool). one_unless b + unlent_from first n loans) (all n (omega arith)) in
    let rest = none_from first n loans (λ k l. all k (omega arith)) in omega arith

-- and where none is left, all are lent
pub all_from : (first n : ℕ) (loans : List Loan) → unlent_from first n loans ≡ 0 → (k : ℕ) → k < n → is_lent loans (first + k) ≡ true
all_from first zero loans none k h = absurd (omega arith)
all_from first (suc n) loans none k h = dite (ℕ_discrete k n)
    (λ e. go (is_lent loans (first + k)) refl (λ q. let w : is_lent loans (first + n) ≡ false = ap (λ (i : ℕ). is_lent loans (first + i)) (sym e) ∙ q in w))
    (λ ne. all_from first n loans (let a : one_unless (is_lent loans (first + n)) + unlent_from first n loans ≡ 0 = none in omega arith) k (omega arith))
  where
    go : (b : Bool) → is_lent loans (first + k) ≡ b → (is_lent loans (first + k) ≡ false → is_lent loans (first + n) ≡ false)
        → is_lent loans (first + k) ≡ true
    go true e f = e
    go false e f = absurd (
        let one : one_unless (is_lent loans (first + n)) ≡ 1 = ap one_unless (f e) in
        let a : one_unless (is_lent loans (first + n)) + unlent_from first n loans ≡ 0 = none in omega arith)

none_of : (n : ℕ) (loans : List Loan) → ((k : ℕ) → k < n → is_lent loans k ≡ true) → unlent n loans ≡ 0
none_of zero loans all = refl
none_of (suc n) loans all =
    let here : unlent (suc n) loans ≡ 0 + unlent n loans = ap (λ (b : Bool). one_unless b + unlent n loans) (all n (omega arith)) in
    let rest = none_of n loans (λ k l. all k (omega arith)) in omega arith

-- where no page of any group is left, none is at all
pub none_in_all : (z : Shape) (loans : List Loan) → ((g : ℕ) → g < page_groups z → unlent_in z g loans ≡ 0) → unlent z.pages loans ≡ 0
none_in_all z loans none = none_of z.pages loans (λ k l.
    let n : ℕ = z.pages in
    let below : k < n = l in
    let in_it : k % 64 < min 64 (n - (k / 64 * 64 + 0)) = omega arith in
    let same : k / 64 * 64 + 0 + k % 64 ≡ k = omega arith in
    ap (is_lent loans) (sym same) ∙ all_from (number_at (k / 64) 0) (pages_in z (k / 64)) loans (none (k / 64) (page_group z k l)) (k % 64) in_it)

-- ---- a bit is set

pub or_here : (x bit : ℕ) → bit_at (bit_or x (2 ^ bit)) bit ≡ 1
or_here x bit = let a = bit_at_or x (2 ^ bit) bit in let b = bit_at-pow_same bit in let c = bit_at-lt x bit in omega arith

pub or_else : (x bit k : ℕ) → k ≢ bit → bit_at (bit_or x (2 ^ bit)) k ≡ bit_at x k
or_else x bit k n = let a = bit_at_or x (2 ^ bit) k in let b = bit_at-pow_other bit k n in omega arith

-- the bit of the thing of number p
module _ (words : ℕ → ℕ) (p x : ℕ) (is : x ≡ words (p / 64)) where
  abbrev word : ℕ
  word = bit_or x (2 ^ (p % 64))

  same : number_at (p / 64) (p % 64) ≡ p
  same = omega arith

  pub set_here : bit_of (put words (p / 64) word) p ≡ 1
  set_here = subst (λ (q : ℕ). bit_of (put words (p / 64) word) q ≡ 1) same
      (bit_here words (p / 64) (p % 64) word (omega arith) ∙ or_here x (p % 64))

  pub set_else : (k : ℕ) → k ≢ p → bit_of (put words (p / 64) word) k ≡ bit_of words k
  set_else k n = bit_else words (p / 64) (p % 64) word (omega arith)
      (λ i m. or_else x (p % 64) i m ∙ ap (λ (w : ℕ). bit_at w i) is) k (λ e. n (e ∙ same))
