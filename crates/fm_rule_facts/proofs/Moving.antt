-- The facts of pages over the steps that move them.
use Rattle.std.proofs.Common.{◌≡◌, ◌≢◌, ℕ, ◌/◌, ◌%◌, ◌<◌, List, ◌∷◌, Option, Some, None, sym, refl, ap, ◌∙◌, subst, inr, ⊎_elim, arith}
use Rattle.std.{specs.Prelude.{Contains}, proofs.{Math.Nat.{mod-lt}, lemmas.List.Elements.{All-weaker, All-contains, All-contains_itself}}}
use mathlib.Core.Logic.{dite}
use native.Mathlib.Decide.{ℕ_discrete}
use Rattle.fm_words.specs.{Bits.{bit_of}, declared.shape.Shape.{Shape}}
use Rattle.fm_base.specs.{declared.arena_id.ArenaId.{ArenaId}, Calls.{Lend}}
use Rattle.fm_base_machine.{specs.Functions.{Stage, Lives, Closes, Over, put}, proofs.Putting.{put_here, put_else, put_cases}}
use Rattle.fm_rule_facts.{proofs.Putting.{two_cases}, specs.Loans.{Loan, loan_of, loans_by, IsFree, HasPart}}
use Rattle.fm_rule_facts.specs.Facts.{Session, free, live, shut, IsShown, IsStanding, Sessions}
use Rattle.fm_rule_facts.proofs.{Lending.{loan_cases, first_loan, more_loans, mapped_over}, Sessions.{standing_shown, shown_one, ended_apart}}
use Rattle.fm_rule_facts.specs.{Berths.{Berth, loose, claimed, mapped, unmapped, LentAt}, Pages.{IsBlank, IsBeyond, IsMapped, IsUnmapped, Pages}}

module _ (z : Shape) (loans : List Loan) (bits : ℕ → ℕ) (maps : ℕ → ℕ → Option ℕ) (cells : ℕ → ℕ → ℕ) (berth : ℕ → Berth) (sessions : ℕ → Session)
    (life : ArenaId → Stage) (word : ArenaId → ℕ → ℕ) (given : ArenaId → ℕ)
    (some_words : 0 < z.page_words) (s : Sessions z sessions life) (r : Pages z loans bits maps cells berth sessions life word given) where
  -- ---- what the facts say together

  -- a page that no loan may have is free
  pub free_of : (p : ℕ) → ((l : Loan) → ¬ (LentAt (berth p) l)) → IsFree loans p
  free_of p n = All-weaker (Contains loans) (λ l. l.block ≢ p) (λ l h e. n l (subst (λ (q : ℕ). LentAt (berth q) l) e (r.lent_is l h))) loans
      (All-contains_itself loans)

  -- so a page whose bit is 1 is free
  pub loose_free : (p : ℕ) → berth p ≡ loose → IsFree loans p
  loose_free p e = free_of p (λ l. subst (λ (b : Berth). ¬ (LentAt b l)) (sym e) (λ x. x))

  -- and one that is in a hand
  pub claimed_free : (p j : ℕ) → berth p ≡ claimed j → IsFree loans p
  claimed_free p j e = free_of p (λ l. subst (λ (b : Berth). ¬ (LentAt b l)) (sym e) (λ x. x))

  -- a mapped part of an arena that its session shows is lent, and its only loan is of that page
  pub mapped_lent : (a : ArenaId) (i p : ℕ) → IsShown sessions a → maps a.slot i ≡ Some p → Contains loans (loan_of p a i)
  mapped_lent a i p x e =
      let y = r.mapped_is p a.slot i (r.map_is a.slot i p e) in
      subst (λ (b : ArenaId). Contains loans (loan_of p b i)) (shown_one sessions y.arena a y.slot y.shown x) y.lent

  -- a lent part of an arena that stands is mapped to its page
  pub lent_mapped : (a : ArenaId) (i p : ℕ) → IsStanding (life a) → Contains loans (loan_of p a i) → maps a.slot i ≡ Some p
  lent_mapped a i p st h = go (berth p) refl (r.lent_is (loan_of p a i) h)
    where
      go : (b : Berth) → berth p ≡ b → LentAt b (loan_of p a i) → maps a.slot i ≡ Some p
      go loose e q = absurd q
      go (claimed j) e q = absurd q
      go (mapped k c) e q = (λ n. maps (q.0 n) (q.1 n)) ∙ (r.mapped_is p k c e).named
      go (unmapped j b c) e q =
          let over : life a ≡ Over = ap life q.0 ∙ (r.unmapped_is p j c b e).over in
          absurd (⊎_elim (λ (w : life a ≡ Lives). let u : Lives ≡ Over = sym w ∙ over in absurd (cc))
          (λ (w : life a ≡ Closes). let u : Closes ≡ Over = sym w ∙ over in absurd (cc)) st)

  -- a part of an arena that stands whose map word is 0 isn't lent
  pub no_part : (a : ArenaId) (i : ℕ) → IsStanding (life a) → maps a.slot i ≡ None → ¬ (HasPart loans a i)
  no_part a i st e h = let q = lent_mapped a i h.0 st h.1 in let f : None ≡ Some h.0 = sym e ∙ q in absurd (cc)

  -- ---- a page is taken by its bit

  pub pages_take : (bits' : ℕ → ℕ) (me bit : ℕ) → bit_of bits bit ≡ 1 → bit_of bits' bit ≡ 0 → ((k : ℕ) → k ≢ bit → bit_of bits' k ≡ bit_of bits k)
      → Pages z loans bits' maps cells (put berth bit (claimed me)) sessions life word given
  pages_take bits' me bit one zero others =
      let was = r.bit_is bit one in
      record {
        bit_is = λ p e. dite (ℕ_discrete p bit)
            (λ q. absurd (let u : bit_of bits' bit ≡ 1 = ap (bit_of bits') (sym q) ∙ e in omega arith))
            (λ n. let y = r.bit_is p (sym (others p n) ∙ e) in (put_else berth bit (claimed me) p n ∙ y.0, y.1));
        is_bit = λ p low. put_cases berth bit (claimed me) p (λ (b : Berth). b ≡ loose → bit_of bits' p ≡ 1)
            (λ q e. absurd (cc))
            (λ n e. others p n ∙ r.is_bit p low e);
        map_is = λ k i p e. put_else berth bit (claimed me) p (λ q. let u : loose ≡ mapped k i = sym was.0 ∙ (ap berth (sym q) ∙ r.map_is k i p e) in
            absurd (cc))
            ∙ r.map_is k i p e;
        mapped_is = λ p k i. put_cases berth bit (claimed me) p (λ (b : Berth). b ≡ mapped k i → IsMapped z loans maps cells sessions given p k i)
            (λ q e. absurd (cc))
            (λ n e. r.mapped_is p k i e);
        unmapped_is = λ p j i a. put_cases berth bit (claimed me) p (λ (b : Berth). b ≡ unmapped j a i → IsUnmapped z loans cells life given p a i)
            (λ q e. absurd (cc))
            (λ n e. r.unmapped_is p j i a e);
        claimed_is = λ p j. put_cases berth bit (claimed me) p (λ (b : Berth). b ≡ claimed j → (p < z.pages) × IsBlank z cells p)
            (λ q e. subst (λ (x : ℕ). (x < z.pages) × IsBlank z cells x) (sym q) (was.1, r.loose_is bit was.0))
            (λ n e. r.claimed_is p j e);
        loose_is = λ p. put_cases berth bit (claimed me) p (λ (b : Berth). b ≡ loose → IsBlank z cells p) (λ q e. absurd (cc)) (λ n e. r.loose_is p e);
        lent_is = λ l h. put_cases berth bit (claimed me) l.block (λ (b : Berth). LentAt b l)
            (λ q. subst (λ (b : Berth). LentAt b l) (ap berth q ∙ was.0) (r.lent_is l h))
            (λ n. r.lent_is l h);
        only_loan = r.only_loan;
        says = r.says;
      }

  -- ---- a page in a hand is mapped

  pub pages_map : (me : ℕ) (a : ArenaId) (i p : ℕ) → IsStanding (life a) → i < z.reach → maps a.slot i ≡ None → berth p ≡ claimed me
      → Pages z (loans_by loans (Lend p a i)) bits (put maps a.slot (put (maps a.slot) i (Some p))) cells
      (put berth p (mapped a.slot i)) sessions life word given
  pages_map me a i p st low none mine = record {
    bit_is = λ q e. let y = r.bit_is q e in
        (put_else berth p here q (λ w. let u : loose ≡ claimed me = sym y.0 ∙ (ap berth w ∙ mine) in absurd (cc)) ∙ y.0, y.1);
    is_bit = λ q h. put_cases berth p here q (λ (b : Berth). b ≡ loose → bit_of bits q ≡ 1) (λ w e. absurd (cc)) (λ n e. r.is_bit q h e);
    map_is = λ k c q. two_cases maps a.slot i (Some p) k c (λ (x : Option ℕ). x ≡ Some q → put berth p here q ≡ mapped k c)
        (λ e f x. let w : p ≡ q = cc in ap (put berth p here) (sym w) ∙ (put_here berth p here ∙ (λ j. mapped (sym e j) (sym f j))))
        (λ ne x. let y = r.map_is k c q x in
        put_else berth p here q (λ w. let u : mapped k c ≡ claimed me = sym y ∙ (ap berth w ∙ mine) in absurd (cc)) ∙ y);
    mapped_is = λ q k c. put_cases berth p here q (λ (b : Berth). b ≡ mapped k c → IsMapped z loans' maps' cells sessions given q k c)
        (λ e x. let f : a.slot ≡ k = cc in let g : i ≡ c = cc in new q k c e f g)
        (λ ne x.
        let y = r.mapped_is q k c x in
        mapped_over y (two_cases maps a.slot i (Some p) k c (λ (o : Option ℕ). o ≡ Some q)
        (λ e f. absurd (let u : None ≡ Some q = sym none ∙ ((λ j. maps (sym e j) (sym f j)) ∙ y.named) in cc)) (λ n. y.named))
        y.shown (more_loans (loan_of p a i) (loan_of q y.arena c) loans y.lent) y.beyond);
    unmapped_is = λ q j c b. put_cases berth p here q (λ (x : Berth). x ≡ unmapped j b c → IsUnmapped z loans' cells life given q b c)
        (λ e x. absurd (cc))
        (λ ne x. let y = r.unmapped_is q j c b x in
        record { page = y.page; part = y.part; lent = more_loans (loan_of p a i) (loan_of q b c) loans y.lent; over = y.over; beyond = y.beyond });
    claimed_is = λ q j. put_cases berth p here q (λ (b : Berth). b ≡ claimed j → (q < z.pages) × IsBlank z cells q) (λ e x. absurd (cc))
        (λ ne x. r.claimed_is q j x);
    loose_is = λ q. put_cases berth p here q (λ (b : Berth). b ≡ loose → IsBlank z cells q) (λ e x. absurd (cc)) (λ ne x. r.loose_is q x);
    lent_is = λ l h. ⊎_elim
        (λ (e : loan_of p a i ≡ l). subst (λ (x : Loan). LentAt (put berth p here x.block) x) e
        (subst (λ (b : Berth). LentAt b (loan_of p a i)) (sym (put_here berth p here)) (refl, refl)))
        (λ (h : Contains loans l). put_cases berth p here l.block (λ (b : Berth). LentAt b l)
        (λ q. absurd (subst (λ (b : Berth). LentAt b l) (ap berth q ∙ mine) (r.lent_is l h)))
        (λ n. r.lent_is l h))
        (loan_cases (loan_of p a i) l loans h);
    only_loan = λ l x h k e. ⊎_elim
        (λ (u : loan_of p a i ≡ l). ⊎_elim
        (λ (w : loan_of p a i ≡ x). sym u ∙ w)
        (λ (w : Contains loans x). absurd (lone x w (sym e ∙ ap (λ (y : Loan). y.block) (sym u))))
        (loan_cases (loan_of p a i) x loans k))
        (λ (u : Contains loans l). ⊎_elim
        (λ (w : loan_of p a i ≡ x). absurd (lone l u (e ∙ ap (λ (y : Loan). y.block) (sym w))))
        (λ (w : Contains loans x). r.only_loan l x u w e)
        (loan_cases (loan_of p a i) x loans k))
        (loan_cases (loan_of p a i) l loans h);
    says = record {
      empty = λ k g c f. two_cases maps a.slot i (Some p) k c (λ (x : Option ℕ). x ≡ None)
          (λ e q. absurd (unfree k g f e))
          (λ n. r.says.empty k g c f);
      words = λ c w q sc. two_cases maps a.slot i (Some p) c.slot (w / z.page_words) (λ (x : Option ℕ). x ≡ Some q → word c w ≡ cells q (w % z.page_words))
          (λ e f x. let same : p ≡ q = cc in
          r.says.bare c w sc ((λ j. maps (e j) (f j)) ∙ none)
          ∙ sym (ap (λ (y : ℕ). cells y (w % z.page_words)) (sym same) ∙ (r.claimed_is p me mine).1 (w % z.page_words) (mod-lt w some_words)))
          (λ n x. r.says.words c w q sc x);
      bare = λ c w sc. two_cases maps a.slot i (Some p) c.slot (w / z.page_words) (λ (x : Option ℕ). x ≡ None → word c w ≡ 0) (λ e f x. absurd (cc))
          (λ n x. r.says.bare c w sc x);
      covered = λ c w sc h. two_cases maps a.slot i (Some p) c.slot (w / z.page_words) (λ (x : Option ℕ). x ≢ None) (λ e f x. absurd (cc))
          (λ n. r.says.covered c w sc h);
      new_words = r.says.new_words;
      new_given = r.says.new_given;
    };
  }
    where
      here : Berth
      here = mapped a.slot i

      loans' : List Loan
      loans' = loan_of p a i ∷ loans

      maps' : ℕ → ℕ → Option ℕ
      maps' = put maps a.slot (put (maps a.slot) i (Some p))

      lone : (l : Loan) → Contains loans l → l.block ≢ p
      lone l h = All-contains (λ (x : Loan). x.block ≢ p) loans l (claimed_free p me mine) h

      unfree : (k g : ℕ) → sessions k ≡ free g → k ≡ a.slot → ⊥
      unfree k g f e = ⊎_elim
          (λ (q : sessions a.slot ≡ live a). let u : free g ≡ live a = sym f ∙ (ap sessions e ∙ q) in absurd (cc))
          (λ (q : sessions a.slot ≡ shut a). let u : free g ≡ shut a = sym f ∙ (ap sessions e ∙ q) in absurd (cc))
          (standing_shown z sessions life s a st)

      new : (q k c : ℕ) → q ≡ p → a.slot ≡ k → i ≡ c → IsMapped z loans' maps' cells sessions given q k c
      new q k c e f g = record {
        page = subst (λ (x : ℕ). x < z.pages) (sym e) (r.claimed_is p me mine).0;
        part = subst (λ (x : ℕ). x < z.reach) g low;
        named = (λ j. maps' (sym f j) (sym g j))
            ∙ ((λ j. put_here maps a.slot (put (maps a.slot) i (Some p)) j i) ∙ (put_here (maps a.slot) i (Some p) ∙ ap Some (sym e)));
        arena = a;
        slot = f;
        shown = standing_shown z sessions life s a st;
        lent = subst (λ (x : ℕ × ℕ). Contains loans' (loan_of x.0 a x.1)) (λ j. (sym e j, g j)) (first_loan (loan_of p a i) loans);
        beyond = λ w n h. ap (λ (x : ℕ). cells x (w % z.page_words)) e ∙ (r.claimed_is p me mine).1 (w % z.page_words) (mod-lt w some_words);
      }

  -- ---- a map word of an ended arena is cleared: the sweep has the page

  pub pages_unmap : (me : ℕ) (a : ArenaId) (i p : ℕ) → life a ≡ Over → sessions a.slot ≡ shut a → maps a.slot i ≡ Some p
      → Pages z loans bits (put maps a.slot (put (maps a.slot) i None)) cells (put berth p (unmapped me a i)) sessions life word given
  pages_unmap me a i p over sh named = record {
    bit_is = λ q e. let y = r.bit_is q e in
        (put_else berth p gone q (λ w. let u : loose ≡ mapped a.slot i = sym y.0 ∙ (ap berth w ∙ here) in absurd (cc)) ∙ y.0, y.1);
    is_bit = λ q h. put_cases berth p gone q (λ (b : Berth). b ≡ loose → bit_of bits q ≡ 1) (λ w e. absurd (cc)) (λ n e. r.is_bit q h e);
    map_is = λ k c q. two_cases maps a.slot i None k c (λ (x : Option ℕ). x ≡ Some q → put berth p gone q ≡ mapped k c)
        (λ e f x. absurd (cc))
        (λ ne x. let y = r.map_is k c q x in
        put_else berth p gone q (λ w. let u : mapped k c ≡ mapped a.slot i = sym y ∙ (ap berth w ∙ here) in let f : k ≡ a.slot = cc in
        let g : c ≡ i = cc in ne (f, g)) ∙ y);
    mapped_is = λ q k c. put_cases berth p gone q (λ (b : Berth). b ≡ mapped k c → IsMapped z loans maps' cells sessions given q k c)
        (λ e x. absurd (cc))
        (λ ne x.
        let y = r.mapped_is q k c x in
        mapped_over y (two_cases maps a.slot i None k c (λ (o : Option ℕ). o ≡ Some q)
        (λ e f. absurd (let u : Some p ≡ Some q = sym named ∙ ((λ j. maps (sym e j) (sym f j)) ∙ y.named) in let w : q ≡ p = cc in ne w)) (λ n. y.named))
        y.shown y.lent y.beyond);
    unmapped_is = λ q j c b. put_cases berth p gone q (λ (x : Berth). x ≡ unmapped j b c → IsUnmapped z loans cells life given q b c)
        (λ e x. let f : a ≡ b = cc in let g : i ≡ c = cc in
        subst (λ (y : ℕ × ArenaId × ℕ). IsUnmapped z loans cells life given y.0 y.1 y.2) (λ n. (sym e n, f n, g n)) (record {
          page = was.page;
          part = was.part;
          lent = mapped_lent a i p (inr sh) named;
          over = over;
          beyond = subst (λ (c : ArenaId). IsBeyond z cells (given c) p i) (shown_one sessions was.arena a was.slot was.shown (inr sh)) was.beyond;
        }))
        (λ ne x. r.unmapped_is q j c b x);
    claimed_is = λ q j. put_cases berth p gone q (λ (b : Berth). b ≡ claimed j → (q < z.pages) × IsBlank z cells q) (λ e x. absurd (cc))
        (λ ne x. r.claimed_is q j x);
    loose_is = λ q. put_cases berth p gone q (λ (b : Berth). b ≡ loose → IsBlank z cells q) (λ e x. absurd (cc)) (λ ne x. r.loose_is q x);
    lent_is = λ l h. put_cases berth p gone l.block (λ (b : Berth). LentAt b l)
        (λ q. let x = subst (λ (b : Berth). LentAt b l) (ap berth q ∙ here) (r.lent_is l h) in (only l h q x.0 x.1, x.1))
        (λ n. r.lent_is l h);
    only_loan = r.only_loan;
    says = record {
      empty = λ k g c f. two_cases maps a.slot i None k c (λ (x : Option ℕ). x ≡ None) (λ e q. refl) (λ n. r.says.empty k g c f);
      words = λ c w q sc. two_cases maps a.slot i None c.slot (w / z.page_words) (λ (x : Option ℕ). x ≡ Some q → word c w ≡ cells q (w % z.page_words))
          (λ e f x. absurd (cc))
          (λ n x. r.says.words c w q sc x);
      bare = λ c w sc. two_cases maps a.slot i None c.slot (w / z.page_words) (λ (x : Option ℕ). x ≡ None → word c w ≡ 0)
          (λ e f x. absurd (ended_apart z sessions life s a c sh over sc e))
          (λ n x. r.says.bare c w sc x);
      covered = λ c w sc h. two_cases maps a.slot i None c.slot (w / z.page_words) (λ (x : Option ℕ). x ≢ None)
          (λ e f x. ended_apart z sessions life s a c sh over sc e)
          (λ n. r.says.covered c w sc h);
      new_words = r.says.new_words;
      new_given = r.says.new_given;
    };
  }
    where
      here : berth p ≡ mapped a.slot i
      here = r.map_is a.slot i p named

      was : IsMapped z loans maps cells sessions given p a.slot i
      was = r.mapped_is p a.slot i here

      gone : Berth
      gone = unmapped me a i

      maps' : ℕ → ℕ → Option ℕ
      maps' = put maps a.slot (put (maps a.slot) i None)

      -- the page's only loan is to the arena that its slot's session shows
      only : (l : Loan) → Contains loans l → l.block ≡ p → l.id.slot ≡ a.slot → l.part ≡ i → l.id ≡ a
      only l h q e f = ap (λ (x : Loan). x.id) (r.only_loan l (loan_of p a i) h (mapped_lent a i p (inr sh) named) q)

  -- what was read in a map word of an arena that stands is there still
  pub read_unmapped : (a : ArenaId) (i : ℕ) → life a ≡ Over → sessions a.slot ≡ shut a → (b : ArenaId) (j q : ℕ) → IsStanding (life b) → maps b.slot j ≡ Some q
      → put maps a.slot (put (maps a.slot) i None) b.slot j ≡ Some q
  read_unmapped a i over sh b j q st e = two_cases maps a.slot i None b.slot j (λ (x : Option ℕ). x ≡ Some q)
      (λ f g. absurd (ended_apart z sessions life s a b sh over st f))
      (λ n. e)

  -- nor does a page that is mapped change what others read
  pub read_mapped : (a : ArenaId) (i p : ℕ) → maps a.slot i ≡ None → (b : ArenaId) (j q : ℕ) → maps b.slot j ≡ Some q
      → put maps a.slot (put (maps a.slot) i (Some p)) b.slot j ≡ Some q
  read_mapped a i p none b j q e = two_cases maps a.slot i (Some p) b.slot j (λ (x : Option ℕ). x ≡ Some q)
      (λ f g. absurd (let u : None ≡ Some q = sym none ∙ ((λ n. maps (sym f n) (sym g n)) ∙ e) in cc))
      (λ n. e)
