-- The bits of a new pool are set one word after another.
use Rattle.std.proofs.Common.{◌≡◌, ◌≢◌, ℕ, ◌+◌, ◌-◌, ◌*◌, ◌/◌, ◌%◌, ◌<◌, min, List, [], ◌∷◌, length, set, ap, ◌∙◌, subst, sym, refl, arith, inl, inr}
use Rattle.std.{specs.Int.{bit_at}, proofs.lemmas.{Bool.{cases_lt}, Nat.Bits.{bit_at-zero, bit_at_ones, bit_at_ones_above}}}
use mathlib.Core.Logic.{dite}
use native.Mathlib.Decide.{ℕ_discrete}
use Rattle.fm_words.specs.{declared.shape.Shape.{Shape}, Shapes.{IsValid}, Places.{Place, IsPlace, at, number_bits, groups, page_bits, page_groups, words}}
use Rattle.fm_words.specs.Bits.{ones, number_at, bit_of, IsWithout}
use Rattle.fm_base_machine.{specs.Functions.{put}, proofs.Putting.{put_here, put_else}}
use Rattle.fm_rule_facts.specs.{Views.{IsSound}, Splits.{first_view}, Facts.{Rule}}
use Rattle.fm_rule_steps.proofs.First.{AreFree, AreLoose, slots_set, shows_blank, shows_pages, shows_group, first_rule, first_sound}
use Rattle.fm_rule.{specs.Beginning.{IsFull, AreFirst, IsBegun}, proofs.Knowing.{place_below}}

-- no word of these bits is set
pub begun_none : (z : Shape) → IsValid z → IsBegun z (slots_set z) 0 0
begun_none z valid = record {
  page_bits = λ g. 0;
  number_bits = λ g. 0;
  shows = shows_blank z valid;
  pages_set = λ g l. absurd (omega arith);
  pages_left = λ g l. refl;
  numbers_set = λ g l. absurd (omega arith);
}

module _ {z : Shape} {ws : List ℕ} {g w i end : ℕ} (valid : IsValid z) where
  -- one more word of page bits
  pub more_pages : end ≡ page_groups z → g < end → i ≡ at z (page_bits g) → IsFull z.pages g w → IsBegun z ws g 0 → IsBegun z (set ws i w) (g + 1) 0
  more_pages all l is here begun = subst (λ (n : ℕ). IsBegun z (set ws n w) (g + 1) 0) (sym is) (record {
    page_bits = put begun.page_bits g w;
    number_bits = begun.number_bits;
    shows = shows_pages z valid ws begun.page_bits begun.number_bits g w begun.shows (subst (λ (n : ℕ). g < n) all l);
    pages_set = λ k l. dite (ℕ_discrete k g)
        (λ e. subst (λ (n : ℕ). IsFull z.pages n (put begun.page_bits g w n)) (sym e) (subst (IsFull z.pages g) (sym (put_here begun.page_bits g w)) here))
        (λ ne. subst (IsFull z.pages k) (sym (put_else begun.page_bits g w k ne)) (begun.pages_set k (omega arith)));
    pages_left = λ k l. put_else begun.page_bits g w k (λ e. omega arith) ∙ begun.pages_left k (omega arith);
    numbers_set = begun.numbers_set;
  })

  -- one more word of number bits
  pub more_numbers : {pages : ℕ} → end ≡ groups z → g < end → i ≡ at z (number_bits g) → AreFirst z g w → IsBegun z ws pages g
      → IsBegun z (set ws i w) pages (g + 1)
  more_numbers {pages = pages} all l is here begun = subst (λ (n : ℕ). IsBegun z (set ws n w) pages (g + 1)) (sym is) (record {
    page_bits = begun.page_bits;
    number_bits = put begun.number_bits g w;
    shows = shows_group z valid ws begun.page_bits begun.number_bits g w begun.shows (subst (λ (n : ℕ). g < n) all l);
    pages_set = begun.pages_set;
    pages_left = begun.pages_left;
    numbers_set = λ k l. dite (ℕ_discrete k g)
        (λ e. subst (λ (n : ℕ). AreFirst z n (put begun.number_bits g w n)) (sym e) (subst (AreFirst z g) (sym (put_here begun.number_bits g w)) here))
        (λ ne. subst (AreFirst z k) (sym (put_else begun.number_bits g w k ne)) (begun.numbers_set k (omega arith)));
  })

-- the words of bits are within the table
within : (z : Shape) (ws : List ℕ) (p : Place) {pages numbers i : ℕ} → IsBegun z ws pages numbers → IsPlace z p → i ≡ at z p → i < length ws
within z ws p {i = i} begun low is =
    let n : ℕ = length ws in
    let long : n ≡ words z = begun.shows.wide in
    let below : i < words z = place_below z p low is in omega arith

module _ {z : Shape} {ws : List ℕ} {pages numbers : ℕ} (begun : IsBegun z ws pages numbers) {g i end : ℕ} where
  pub pages_within : end ≡ page_groups z → g < end → i ≡ at z (page_bits g) → i < length ws
  pages_within e l = within z ws (page_bits g) begun (subst (λ (n : ℕ). g < n) e l)

  pub numbers_within : end ≡ groups z → g < end → i ≡ at z (number_bits g) → i < length ws
  numbers_within e l = within z ws (number_bits g) begun (subst (λ (n : ℕ). g < n) e l)

-- ---- where all are set, the words keep the rule

module _ (z : Shape) (ws : List ℕ) (valid : IsValid z) (begun : IsBegun z ws (page_groups z) (groups z)) where
  all_loose : AreLoose z begun.page_bits
  all_loose = record {
    loose = λ p low.
        let n : ℕ = z.pages in
        let l : p < n = low in
        (begun.pages_set (p / 64) (omega arith)).ones (p % 64) (omega arith) (omega arith);
    low = λ p one. elim (cases_lt (p / 64) (page_groups z)) [
      | inl l ↦ (
          let n : ℕ = z.pages in
          let b : p / 64 * 64 + p % 64 < n = (begun.pages_set (p / 64) l).low (p % 64) one in omega arith)
      | inr h ↦ absurd (
          let zero : bit_of begun.page_bits p ≡ 0 = ap (λ (w : ℕ). bit_at w (p % 64)) (begun.pages_left (p / 64) h) ∙ bit_at-zero (p % 64) in omega arith)
    ];
  }

  all_free : AreFree z begun.number_bits
  all_free = record {
    taken = (begun.numbers_set 0 (let p = valid.passes.0 in omega arith)).taken refl;
    free = λ n some low.
        let p : ℕ = z.passes in
        let l : n < p = low in
        let same : number_at (n / 64) (n % 64) ≡ n = omega arith in
        (begun.numbers_set (n / 64) (omega arith)).free (n % 64) (omega arith) (λ e. some (sym same ∙ e)) (omega arith);
  }

  pub begun_rule : Rule z ws (first_view z ∷ [])
  begun_rule = first_rule z ws begun.page_bits begun.number_bits valid begun.shows all_loose all_free

  pub begun_sound : IsSound (first_view z)
  begun_sound = first_sound z ws begun.page_bits begun.number_bits valid begun.shows all_loose all_free

-- ---- a word of bits

-- as many as there are, and a word has
pub full_word : (count g n : ℕ) → n ≡ min (count - 64 * g) 64 → IsFull count g (ones n)
full_word count g n e = record {
  ones = λ k l below. bit_at_ones n k (omega arith);
  low = λ k one. elim (cases_lt k n) [
    | inl l ↦ omega arith
    | inr h ↦ absurd (let none = bit_at_ones_above n k h in let q : bit_at (ones n) k ≡ 0 = none in omega arith)
  ];
}

-- of the first group, bit 0 is left out
pub first_without : (z : Shape) (g w x : ℕ) → g ≡ 0 → IsFull z.passes g w → IsWithout w 0 x → AreFirst z g x
first_without z g w x e full without = record {
  free = λ k l some below. without.others k (λ q. some (omega arith)) ∙ full.ones k l below;
  taken = λ q. without.zero;
  low = λ k one. dite (ℕ_discrete k 0)
      (λ q. absurd (let zero : bit_at x k ≡ 0 = ap (bit_at x) q ∙ without.zero in omega arith))
      (λ far. full.low k (sym (without.others k far) ∙ one));
}

pub first_all : (z : Shape) (g w : ℕ) → g ≢ 0 → IsFull z.passes g w → AreFirst z g w
first_all z g w ne full = record { free = λ k l some below. full.ones k l below; taken = λ q. absurd (ne q); low = full.low }
