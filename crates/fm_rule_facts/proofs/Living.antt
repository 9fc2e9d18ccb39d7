-- The facts of pages while their words are written and wiped, and over what happens to arenas.
use Rattle.std.proofs.Common.{◌≡◌, ◌≢◌, ◌⊎◌, ℕ, ◌+◌, ◌*◌, ◌/◌, ◌%◌, ◌<◌, ◌≤◌, List, Option, Some, None, sym, refl, ap, ◌∙◌, subst, inl, inr, ⊎_elim, arith}
use Rattle.std.proofs.Math.Nat.{div-add-mod}
use mathlib.Core.Logic.{dite}
use native.Mathlib.Decide.{ℕ_discrete}
use Rattle.fm_words.specs.declared.shape.Shape.{Shape}
use Rattle.fm_base.specs.declared.arena_id.ArenaId.{ArenaId}
use Rattle.fm_base_machine.{specs.Functions.{Stage, Fresh, Lives, Closes, Over, put, put_at}, proofs.Putting.{put_here, put_else, put_cases, at_cases}}
use Rattle.fm_rule_facts.specs.{Loans.{Loan}, Facts.{Session, free, live, shut, IsShown, IsStanding, Sessions}}
use Rattle.fm_rule_facts.proofs.Sessions.{standing_known, unstanding, standing_shown, shown_one, one_standing}
use Rattle.fm_rule_facts.specs.{Berths.{Berth, loose, claimed, mapped, unmapped}, Pages.{IsBlank, IsBeyond, IsMapped, IsUnmapped, Pages, Says}}
use Rattle.fm_rule_facts.proofs.{Lending.{mapped_over}, Putting.{two_cases}}

module _ (z : Shape) (loans : List Loan) (bits : ℕ → ℕ) (maps : ℕ → ℕ → Option ℕ) (cells : ℕ → ℕ → ℕ) (berth : ℕ → Berth) (sessions : ℕ → Session)
    (life : ArenaId → Stage) (word : ArenaId → ℕ → ℕ) (given : ArenaId → ℕ)
    (s : Sessions z sessions life) (r : Pages z loans bits maps cells berth sessions life word given) where
  -- ---- words

  -- the words of another page
  other_cell : (p o x q i : ℕ) → q ≢ p → put cells p (put (cells p) o x) q i ≡ cells q i
  other_cell p o x q i n = λ j. put_else cells p (put (cells p) o x) q n j i

  blank_still : (p o x q : ℕ) → q ≢ p → IsBlank z cells q → IsBlank z (put cells p (put (cells p) o x)) q
  blank_still p o x q n b i h = other_cell p o x q i n ∙ b i h

  -- a page is where it was, with other words or counts
  mapped_with : {cells' : ℕ → ℕ → ℕ} {given' : ArenaId → ℕ} {q k c : ℕ} (y : IsMapped z loans maps cells sessions given q k c)
      → IsBeyond z cells' (given' y.arena) q c → IsMapped z loans maps cells' sessions given' q k c
  mapped_with y b =
      record { page = y.page; part = y.part; named = y.named; arena = y.arena; slot = y.slot; shown = y.shown; lent = y.lent; beyond = b }

  unmapped_with : {cells' : ℕ → ℕ → ℕ} {given' : ArenaId → ℕ} {q c : ℕ} {b : ArenaId} (y : IsUnmapped z loans cells life given q b c)
      → IsBeyond z cells' (given' b) q c → IsUnmapped z loans cells' life given' q b c
  unmapped_with y b = record { page = y.page; part = y.part; lent = y.lent; over = y.over; beyond = b }

  -- a page that a sweep has is nobody else's: its words are wiped
  pub pages_wipe : (p j i o : ℕ) (a : ArenaId) → berth p ≡ unmapped j a i
      → Pages z loans bits maps (put cells p (put (cells p) o 0)) berth sessions life word given
  pages_wipe p j i o a e = record {
    bit_is = r.bit_is;
    is_bit = r.is_bit;
    map_is = r.map_is;
    mapped_is = λ q k c h. mapped_with (r.mapped_is q k c h)
        (λ w n g. other_cell p o 0 q (w % z.page_words) (λ u. let x : mapped k c ≡ unmapped j a i = sym h ∙ (ap berth u ∙ e) in absurd (cc))
        ∙ (r.mapped_is q k c h).beyond w n g);
    unmapped_is = λ q k c b h. unmapped_with (r.unmapped_is q k c b h)
        (λ w n g. two_cases cells p o 0 q (w % z.page_words) (λ (x : ℕ). x ≡ 0) (λ u v. refl) (λ u. (r.unmapped_is q k c b h).beyond w n g));
    claimed_is = λ q k h. let y = r.claimed_is q k h in
        (y.0, blank_still p o 0 q (λ w. let u : claimed k ≡ unmapped j a i = sym h ∙ (ap berth w ∙ e) in absurd (cc)) y.1);
    loose_is = λ q h. blank_still p o 0 q (λ w. let u : loose ≡ unmapped j a i = sym h ∙ (ap berth w ∙ e) in absurd (cc)) (r.loose_is q h);
    lent_is = r.lent_is;
    only_loan = r.only_loan;
    says = record {
      empty = r.says.empty;
      words = λ c w q sc h. r.says.words c w q sc h ∙ sym (other_cell p o 0 q (w % z.page_words) (λ u.
          let k : mapped c.slot (w / z.page_words) ≡ unmapped j a i = sym (r.map_is c.slot (w / z.page_words) q h) ∙ (ap berth u ∙ e) in absurd (cc)));
      bare = r.says.bare;
      covered = r.says.covered;
      new_words = r.says.new_words;
      new_given = r.says.new_given;
    };
  }

  -- a word of an arena that stands is written
  pub pages_write : (a : ArenaId) (w p x : ℕ) → IsStanding (life a) → maps a.slot (w / z.page_words) ≡ Some p → 8 * w < given a
      → Pages z loans bits maps (put cells p (put (cells p) (w % z.page_words) x)) berth sessions life (put_at word a (put (word a) w x)) given
  pages_write a w p x st e has = record {
    bit_is = r.bit_is;
    is_bit = r.is_bit;
    map_is = r.map_is;
    mapped_is = λ q k c h. mapped_with (r.mapped_is q k c h)
        (λ v n g. two_cases cells p o x q (v % z.page_words) (λ (y : ℕ). y ≡ 0) (λ u m. absurd (within q k c h v n g u m))
        (λ u. (r.mapped_is q k c h).beyond v n g));
    unmapped_is = λ q k c b h. unmapped_with (r.unmapped_is q k c b h)
        (λ v n g. other_cell p o x q (v % z.page_words) (λ u. let y : unmapped k b c ≡ mapped a.slot i = sym h ∙ (ap berth u ∙ here) in absurd (cc))
        ∙ (r.unmapped_is q k c b h).beyond v n g);
    claimed_is = λ q k h. let y = r.claimed_is q k h in
        (y.0, blank_still p o x q (λ u. let n : claimed k ≡ mapped a.slot i = sym h ∙ (ap berth u ∙ here) in absurd (cc)) y.1);
    loose_is = λ q h. blank_still p o x q (λ u. let n : loose ≡ mapped a.slot i = sym h ∙ (ap berth u ∙ here) in absurd (cc)) (r.loose_is q h);
    lent_is = r.lent_is;
    only_loan = r.only_loan;
    says = record {
      empty = r.says.empty;
      words = λ c v q sc h. dite (ℕ_discrete q p) (same c v q sc h) (λ n. apart c v q sc h n);
      bare = λ c v sc h. at_cases word a (put (word a) w x) c (λ (f : ℕ → ℕ). f v ≡ 0)
          (λ u. put_cases (word a) w x v (λ (y : ℕ). y ≡ 0)
          (λ k. absurd (let n : None ≡ Some p = sym h ∙ ((λ j. maps (u j).slot (k j / z.page_words)) ∙ e) in cc))
          (λ k. ap (λ (b : ArenaId). word b v) (sym u) ∙ r.says.bare c v sc h))
          (λ u. r.says.bare c v sc h);
      covered = r.says.covered;
      new_words = λ c v f. at_cases word a (put (word a) w x) c (λ (g : ℕ → ℕ). g v ≡ 0)
          (λ u. absurd (standing_known (life a) st (ap life (sym u) ∙ f)))
          (λ u. r.says.new_words c v f);
      new_given = r.says.new_given;
    };
  }
    where
      i : ℕ
      i = w / z.page_words

      o : ℕ
      o = w % z.page_words

      here : berth p ≡ mapped a.slot i
      here = r.map_is a.slot i p e

      -- words of one place in one part are one
      one : (v : ℕ) → v / z.page_words ≡ w / z.page_words → v % z.page_words ≡ w % z.page_words → v ≡ w
      one v d m = sym (div-add-mod v z.page_words) ∙ ((λ j. z.page_words * d j + m j) ∙ div-add-mod w z.page_words)

      -- a word of the page without a given byte isn't the one that is written
      within : (q k c : ℕ) (h : berth q ≡ mapped k c) (v : ℕ) → v / z.page_words ≡ c → given (r.mapped_is q k c h).arena ≤ 8 * v → q ≡ p
          → v % z.page_words ≡ o → ⊥
      within q k c h v n g u m =
          let y = r.mapped_is q k c h in
          let f : mapped k c ≡ mapped a.slot i = sym h ∙ (ap berth u ∙ here) in
          let slots : k ≡ a.slot = cc in
          let parts : c ≡ i = cc in
          let is : y.arena ≡ a = shown_one sessions y.arena a (y.slot ∙ slots) y.shown (standing_shown z sessions life s a st) in
          let same : v ≡ w = one v (n ∙ parts) m in
          let count : given y.arena ≡ given a = ap given is in omega arith

      -- a word of another page
      apart : (c : ArenaId) (v q : ℕ) → IsStanding (life c) → maps c.slot (v / z.page_words) ≡ Some q → q ≢ p
          → put_at word a (put (word a) w x) c v ≡ put cells p (put (cells p) o x) q (v % z.page_words)
      apart c v q sc h n = at_cases word a (put (word a) w x) c (λ (f : ℕ → ℕ). f v ≡ put cells p (put (cells p) o x) q (v % z.page_words))
          (λ u. put_cases (word a) w x v (λ (y : ℕ). y ≡ put cells p (put (cells p) o x) q (v % z.page_words))
          (λ k. absurd (let m : Some q ≡ Some p = sym h ∙ ((λ j. maps (u j).slot (k j / z.page_words)) ∙ e) in let f : q ≡ p = cc in n f))
          (λ k. ap (λ (b : ArenaId). word b v) (sym u) ∙ (r.says.words c v q sc h ∙ sym (other_cell p o x q (v % z.page_words) n))))
          (λ u. r.says.words c v q sc h ∙ sym (other_cell p o x q (v % z.page_words) n))

      -- a word of the same page is one of the same arena and part
      same : (c : ArenaId) (v q : ℕ) → IsStanding (life c) → maps c.slot (v / z.page_words) ≡ Some q → q ≡ p
          → put_at word a (put (word a) w x) c v ≡ put cells p (put (cells p) o x) q (v % z.page_words)
      same c v q sc h u =
          let k : mapped c.slot (v / z.page_words) ≡ mapped a.slot i = sym (r.map_is c.slot (v / z.page_words) q h) ∙ (ap berth u ∙ here) in
          let slots : c.slot ≡ a.slot = cc in
          let parts : v / z.page_words ≡ w / z.page_words = cc in
          let is : c ≡ a = one_standing z sessions life s c a sc st slots in
          let now : put cells p (put (cells p) o x) q (v % z.page_words) ≡ put (cells p) o x (v % z.page_words) =
          (λ j. put cells p (put (cells p) o x) (u j) (v % z.page_words)) ∙ (λ j. put_here cells p (put (cells p) o x) j (v % z.page_words)) in
          at_cases word a (put (word a) w x) c (λ (f : ℕ → ℕ). f v ≡ put cells p (put (cells p) o x) q (v % z.page_words))
          (λ g. put_cases (word a) w x v (λ (y : ℕ). y ≡ put cells p (put (cells p) o x) q (v % z.page_words))
          (λ n. sym (now ∙ (ap (λ (y : ℕ). put (cells p) o x (y % z.page_words)) n ∙ put_here (cells p) o x)))
          (λ n. ap (λ (b : ArenaId). word b v) (sym g) ∙ (r.says.words c v q sc h ∙ (ap (λ (y : ℕ). cells y (v % z.page_words)) u
          ∙ sym (now ∙ put_else (cells p) o x (v % z.page_words) (λ m. n (one v parts m)))))))
          (λ g. absurd (g is))

  -- ---- what happens to arenas

  -- A session or a life is changed: a part that is mapped is of the arena that its slot shows still, one that has ended has so still, and one that stands
  -- now stood, or is new and has no page
  pub record Alters (sessions' : ℕ → Session) (life' : ArenaId → Stage) : Type 0 where
    shown : (b : ArenaId) (i p : ℕ) → maps b.slot i ≡ Some p → IsShown sessions b → IsShown sessions' b
    over : (b : ArenaId) → life b ≡ Over → life' b ≡ Over
    none : (k g i : ℕ) → sessions' k ≡ free g → maps k i ≡ None
    stood : (b : ArenaId) → IsStanding (life' b) → IsStanding (life b) ⊎ ((life b ≡ Fresh) × ((i : ℕ) → maps b.slot i ≡ None))
    fresh : (b : ArenaId) → life' b ≡ Fresh → life b ≡ Fresh

  -- the facts of pages last over such a change
  pub pages_alter : (sessions' : ℕ → Session) (life' : ArenaId → Stage) → Alters sessions' life'
      → Pages z loans bits maps cells berth sessions' life' word given
  pages_alter sessions' life' c = record {
    bit_is = r.bit_is;
    is_bit = r.is_bit;
    map_is = r.map_is;
    mapped_is = λ p k i e. let y = r.mapped_is p k i e in
        mapped_over y y.named (c.shown y.arena i p (ap (λ (x : ℕ). maps x i) y.slot ∙ y.named) y.shown) y.lent y.beyond;
    unmapped_is = λ p j i a e. let y = r.unmapped_is p j i a e in
        record { page = y.page; part = y.part; lent = y.lent; over = c.over a y.over; beyond = y.beyond };
    claimed_is = r.claimed_is;
    loose_is = r.loose_is;
    lent_is = r.lent_is;
    only_loan = r.only_loan;
    says = record {
      empty = c.none;
      words = λ b w p st e. ⊎_elim
          (λ q. r.says.words b w p q e)
          (λ (q : (life b ≡ Fresh) × ((i : ℕ) → maps b.slot i ≡ None)). absurd (let u : None ≡ Some p = sym (q.1 (w / z.page_words)) ∙ e in cc))
          (c.stood b st);
      bare = λ b w st e. ⊎_elim
          (λ q. r.says.bare b w q e)
          (λ (q : (life b ≡ Fresh) × ((i : ℕ) → maps b.slot i ≡ None)). r.says.new_words b w q.0)
          (c.stood b st);
      covered = λ b w st h. ⊎_elim
          (λ q. r.says.covered b w q h)
          (λ (q : (life b ≡ Fresh) × ((i : ℕ) → maps b.slot i ≡ None)). absurd (let e = r.says.new_given b q.0 in omega arith))
          (c.stood b st);
      new_words = λ b w f. r.says.new_words b w (c.fresh b f);
      new_given = λ b f. r.says.new_given b (c.fresh b f);
    };
  }

  -- an arena is shut
  pub pages_shut : (a : ArenaId) → life a ≡ Lives → Pages z loans bits maps cells berth (put sessions a.slot (shut a)) (put_at life a Closes) word given
  pages_shut a l = pages_alter (put sessions a.slot (shut a)) (put_at life a Closes) (record {
    shown = λ b i p e h. put_cases sessions a.slot (shut a) b.slot (λ (x : Session). (x ≡ live b) ⊎ (x ≡ shut b))
        (λ q. let y : sessions b.slot ≡ live a = ap sessions q ∙ s.alive_shown a l in
        inr (ap shut (⊎_elim (λ (w : sessions b.slot ≡ live b). cc) (λ (w : sessions b.slot ≡ shut b). absurd (cc)) h)))
        (λ n. h);
    over = λ b o. at_cases life a Closes b (λ (x : Stage). x ≡ Over) (λ e. absurd (let q : life a ≡ Over = ap life (sym e) ∙ o in cc)) (λ n. o);
    none = λ k g i. put_cases sessions a.slot (shut a) k (λ (x : Session). x ≡ free g → maps k i ≡ None) (λ e q. absurd (cc)) (λ n q. r.says.empty k g i q);
    stood = λ b. at_cases life a Closes b (λ (x : Stage). IsStanding x → IsStanding (life b) ⊎ ((life b ≡ Fresh) × ((i : ℕ) → maps b.slot i ≡ None)))
        (λ e q. inl (inl (ap life e ∙ l)))
        (λ n q. inl q);
    fresh = λ b. at_cases life a Closes b (λ (x : Stage). x ≡ Fresh → life b ≡ Fresh) (λ e q. absurd (cc)) (λ n q. q);
  })

  -- an arena ends
  pub pages_end : (a : ArenaId) → life a ≡ Closes → Pages z loans bits maps cells berth sessions (put_at life a Over) word given
  pages_end a l = pages_alter sessions (put_at life a Over) (record {
    shown = λ b i p e h. h;
    over = λ b o. at_cases life a Over b (λ (x : Stage). x ≡ Over) (λ e. refl) (λ n. o);
    none = r.says.empty;
    stood = λ b. at_cases life a Over b (λ (x : Stage). IsStanding x → IsStanding (life b) ⊎ ((life b ≡ Fresh) × ((i : ℕ) → maps b.slot i ≡ None)))
        (λ e q. absurd (unstanding Over refl q))
        (λ n q. inl q);
    fresh = λ b. at_cases life a Over b (λ (x : Stage). x ≡ Fresh → life b ≡ Fresh) (λ e q. absurd (cc)) (λ n q. q);
  })

  -- an arena is opened in a free slot
  pub pages_open : (a : ArenaId) → sessions a.slot ≡ free a.generation → life a ≡ Fresh
      → Pages z loans bits maps cells berth (put sessions a.slot (live a)) (put_at life a Lives) word given
  pages_open a f new = pages_alter (put sessions a.slot (live a)) (put_at life a Lives) (record {
    shown = λ b i p e h. put_cases sessions a.slot (live a) b.slot (λ (x : Session). (x ≡ live b) ⊎ (x ≡ shut b))
        (λ q. absurd (let y : None ≡ Some p = sym (r.says.empty a.slot a.generation i f) ∙ (ap (λ (x : ℕ). maps x i) (sym q) ∙ e) in cc))
        (λ n. h);
    over = λ b o. at_cases life a Lives b (λ (x : Stage). x ≡ Over) (λ e. absurd (let q : life a ≡ Over = ap life (sym e) ∙ o in cc)) (λ n. o);
    none = λ k g i. put_cases sessions a.slot (live a) k (λ (x : Session). x ≡ free g → maps k i ≡ None) (λ e q. absurd (cc)) (λ n q. r.says.empty k g i q);
    stood = λ b. at_cases life a Lives b (λ (x : Stage). IsStanding x → IsStanding (life b) ⊎ ((life b ≡ Fresh) × ((i : ℕ) → maps b.slot i ≡ None)))
        (λ e q. inr (ap life e ∙ new, λ i. ap (λ (x : ArenaId). maps x.slot i) e ∙ r.says.empty a.slot a.generation i f))
        (λ n q. inl q);
    fresh = λ b. at_cases life a Lives b (λ (x : Stage). x ≡ Fresh → life b ≡ Fresh) (λ e q. absurd (cc)) (λ n q. q);
  })

  -- where no part is mapped any more, the slot is free
  pub pages_retire : (a : ArenaId) (g : ℕ) → ((i : ℕ) → maps a.slot i ≡ None)
      → Pages z loans bits maps cells berth (put sessions a.slot (free g)) life word given
  pages_retire a g none = pages_alter (put sessions a.slot (free g)) life (record {
    shown = λ b i p e h. put_cases sessions a.slot (free g) b.slot (λ (x : Session). (x ≡ live b) ⊎ (x ≡ shut b))
        (λ q. absurd (let y : None ≡ Some p = sym (none i) ∙ (ap (λ (x : ℕ). maps x i) (sym q) ∙ e) in cc))
        (λ n. h);
    over = λ b o. o;
    none = λ k c i. put_cases sessions a.slot (free g) k (λ (x : Session). x ≡ free c → maps k i ≡ None)
        (λ e q. ap (λ (x : ℕ). maps x i) e ∙ none i)
        (λ n q. r.says.empty k c i q);
    stood = λ b q. inl q;
    fresh = λ b q. q;
  })

  -- more bytes are given where each of their words has a page
  pub pages_given : (a : ArenaId) (n : ℕ) → IsStanding (life a) → given a ≤ n → ((w : ℕ) → 8 * w < n → maps a.slot (w / z.page_words) ≢ None)
      → Pages z loans bits maps cells berth sessions life word (put_at given a n)
  pages_given a n st more has = record {
    bit_is = r.bit_is;
    is_bit = r.is_bit;
    map_is = r.map_is;
    mapped_is = λ q k c h. mapped_with (r.mapped_is q k c h)
        (λ w u. at_cases given a n (r.mapped_is q k c h).arena (λ (x : ℕ). x ≤ 8 * w → cells q (w % z.page_words) ≡ 0)
        (λ e g. (r.mapped_is q k c h).beyond w u (let y = ap given e in omega arith))
        (λ e g. (r.mapped_is q k c h).beyond w u g));
    unmapped_is = λ q k c b h. unmapped_with (r.unmapped_is q k c b h)
        (λ w u. at_cases given a n b (λ (x : ℕ). x ≤ 8 * w → cells q (w % z.page_words) ≡ 0)
        (λ e g. absurd (unstanding (life b) (r.unmapped_is q k c b h).over (subst (λ (y : ArenaId). IsStanding (life y)) (sym e) st)))
        (λ e g. (r.unmapped_is q k c b h).beyond w u g));
    claimed_is = r.claimed_is;
    loose_is = r.loose_is;
    lent_is = r.lent_is;
    only_loan = r.only_loan;
    says = saying;
  }
    where
      saying : Says z maps cells sessions life word (put_at given a n)
      saying = record {
        empty = r.says.empty;
        words = r.says.words;
        bare = r.says.bare;
        covered = λ b w sb. at_cases given a n b (λ (x : ℕ). 8 * w < x → maps b.slot (w / z.page_words) ≢ None)
            (λ e h. subst (λ (c : ArenaId). maps c.slot (w / z.page_words) ≢ None) (sym e) (has w h))
            (λ ne h. r.says.covered b w sb h);
        new_words = r.says.new_words;
        new_given = λ b f. at_cases given a n b (λ (x : ℕ). x ≡ 0) (λ e. absurd (standing_known (life a) st (ap life (sym e) ∙ f))) (λ ne. r.says.new_given b f);
      }
