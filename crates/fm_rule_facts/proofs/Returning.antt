-- The facts of pages when a page is given back.
use Rattle.std.proofs.Common.{◌≡◌, ◌≢◌, ℕ, ◌<◌, ◌==◌, Bool, true, not, filter, List, Option, Some, sym, ap, ◌∙◌, subst, eq-eqb, ne_eqb}
use Rattle.std.{specs.Prelude.{Contains}, proofs.lemmas.List.Elements.{All-contains, filter_passes}}
use mathlib.Core.Logic.{dite}
use native.Mathlib.Decide.{ℕ_discrete}
use Rattle.fm_words.specs.{Bits.{bit_of}, declared.shape.Shape.{Shape}}
use Rattle.fm_base.specs.{declared.arena_id.ArenaId.{ArenaId}, Calls.{Back}}
use Rattle.fm_base_machine.{specs.Functions.{Stage, put}, proofs.Putting.{put_here, put_else, put_cases}}
use Rattle.fm_rule_facts.{specs.{Loans.{Loan, loan_of, loans_by}, Facts.{Session, Sessions}}, proofs.Lending.{loan_kept, loan_was, mapped_over}}
use Rattle.fm_rule_facts.specs.{Berths.{Berth, loose, claimed, mapped, unmapped, LentAt}, Pages.{IsBlank, IsMapped, IsUnmapped, Pages}}

module _ (z : Shape) (loans : List Loan) (bits : ℕ → ℕ) (maps : ℕ → ℕ → Option ℕ) (cells : ℕ → ℕ → ℕ) (berth : ℕ → Berth) (sessions : ℕ → Session)
    (life : ArenaId → Stage) (word : ArenaId → ℕ → ℕ) (given : ArenaId → ℕ)
    (s : Sessions z sessions life) (r : Pages z loans bits maps cells berth sessions life word given) where
  module _ (bits' : ℕ → ℕ) (p : ℕ) (is_one : bit_of bits' p ≡ 1) (others : (k : ℕ) → k ≢ p → bit_of bits' k ≡ bit_of bits k) where
    -- a page in a hand, which had lost the race for its map word or wasn't mapped
    pub pages_give : (me : ℕ) → berth p ≡ claimed me → Pages z loans bits' maps cells (put berth p loose) sessions life word given
    pages_give me mine = record {
      bit_is = λ q e. dite (ℕ_discrete q p)
          (λ w. (ap (put berth p loose) w ∙ put_here berth p loose, subst (λ (y : ℕ). y < z.pages) (sym w) (r.claimed_is p me mine).0))
          (λ n. let y = r.bit_is q (sym (others q n) ∙ e) in (put_else berth p loose q n ∙ y.0, y.1));
      is_bit = λ q h. put_cases berth p loose q (λ (b : Berth). b ≡ loose → bit_of bits' q ≡ 1)
          (λ w e. ap (bit_of bits') w ∙ is_one)
          (λ n e. others q n ∙ r.is_bit q h e);
      map_is = λ k i q e. put_else berth p loose q (λ w. let u : mapped k i ≡ claimed me = sym (r.map_is k i q e) ∙ (ap berth w ∙ mine) in
          absurd (cc)) ∙ r.map_is k i q e;
      mapped_is = λ q k i. put_cases berth p loose q (λ (b : Berth). b ≡ mapped k i → IsMapped z loans maps cells sessions given q k i)
          (λ w e. absurd (cc)) (λ n e. r.mapped_is q k i e);
      unmapped_is = λ q j i a. put_cases berth p loose q (λ (b : Berth). b ≡ unmapped j a i → IsUnmapped z loans cells life given q a i)
          (λ w e. absurd (cc)) (λ n e. r.unmapped_is q j i a e);
      claimed_is = λ q j. put_cases berth p loose q (λ (b : Berth). b ≡ claimed j → (q < z.pages) × IsBlank z cells q) (λ w e. absurd (cc))
          (λ n e. r.claimed_is q j e);
      loose_is = λ q. put_cases berth p loose q (λ (b : Berth). b ≡ loose → IsBlank z cells q)
          (λ w e. subst (IsBlank z cells) (sym w) (r.claimed_is p me mine).1)
          (λ n e. r.loose_is q e);
      lent_is = λ l h. put_cases berth p loose l.block (λ (b : Berth). LentAt b l)
          (λ w. subst (λ (b : Berth). LentAt b l) (ap berth w ∙ mine) (r.lent_is l h))
          (λ n. r.lent_is l h);
      only_loan = r.only_loan;
      says = r.says;
    }

    -- a page of a sweep that was wiped: its loan is taken back
    pub pages_back : (me i : ℕ) (a : ArenaId) → berth p ≡ unmapped me a i → IsBlank z cells p
        → Pages z (loans_by loans (Back p)) bits' maps cells (put berth p loose) sessions life word given
    pages_back me i a mine blank = record {
      bit_is = λ q e. dite (ℕ_discrete q p)
          (λ w. (ap (put berth p loose) w ∙ put_here berth p loose, subst (λ (y : ℕ). y < z.pages) (sym w) (r.unmapped_is p me i a mine).page))
          (λ n. let y = r.bit_is q (sym (others q n) ∙ e) in (put_else berth p loose q n ∙ y.0, y.1));
      is_bit = λ q h. put_cases berth p loose q (λ (b : Berth). b ≡ loose → bit_of bits' q ≡ 1)
          (λ w e. ap (bit_of bits') w ∙ is_one)
          (λ n e. others q n ∙ r.is_bit q h e);
      map_is = λ k c q e. put_else berth p loose q (far k c q e) ∙ r.map_is k c q e;
      mapped_is = λ q k c. put_cases berth p loose q (λ (b : Berth). b ≡ mapped k c → IsMapped z loans' maps cells sessions given q k c)
          (λ w e. absurd (cc))
          (λ n e. let y = r.mapped_is q k c e in mapped_over y y.named y.shown (stays (loan_of q y.arena c) y.lent n) y.beyond);
      unmapped_is = λ q j c b. put_cases berth p loose q (λ (x : Berth). x ≡ unmapped j b c → IsUnmapped z loans' cells life given q b c)
          (λ w e. absurd (cc))
          (λ n e. let y = r.unmapped_is q j c b e in
          record { page = y.page; part = y.part; lent = stays (loan_of q b c) y.lent n; over = y.over; beyond = y.beyond });
      claimed_is = λ q j. put_cases berth p loose q (λ (b : Berth). b ≡ claimed j → (q < z.pages) × IsBlank z cells q) (λ w e. absurd (cc))
          (λ n e. r.claimed_is q j e);
      loose_is = λ q. put_cases berth p loose q (λ (b : Berth). b ≡ loose → IsBlank z cells q)
          (λ w e. subst (IsBlank z cells) (sym w) blank)
          (λ n e. r.loose_is q e);
      lent_is = λ l h. put_cases berth p loose l.block (λ (b : Berth). LentAt b l)
          (λ w. absurd (gone l h w))
          (λ n. r.lent_is l (loan_was keep loans l h));
      only_loan = λ l x h k e. r.only_loan l x (loan_was keep loans l h) (loan_was keep loans x k) e;
      says = r.says;
    }
      where
        keep : Loan → Bool
        keep l = not (l.block == p)

        loans' : List Loan
        loans' = filter keep loans

        stays : (l : Loan) → Contains loans l → l.block ≢ p → Contains loans' l
        stays l h n = loan_kept keep loans l h (ap not (ne_eqb l.block p n))

        gone : (l : Loan) → Contains loans' l → l.block ≢ p
        gone l h w = let t : not true ≡ true =
            ap not (sym (eq-eqb l.block p w)) ∙ All-contains (λ x. keep x ≡ true) loans' l (filter_passes keep loans) h in absurd (cc)

        far : (k c q : ℕ) → maps k c ≡ Some q → q ≢ p
        far k c q e w = let u : mapped k c ≡ unmapped me a i = sym (r.map_is k c q e) ∙ (ap berth w ∙ mine) in absurd (cc)
