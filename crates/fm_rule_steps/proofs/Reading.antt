-- What a session word that was read says of an arena, and a map word of a page.
use Rattle.fm_words.{proofs.Maps.{map_word-some}, specs.{Maps.{map_word}, declared.shape.Shape.{Shape}, Sessions.{session_word}, Places.{at as place_at, map}}}
use Rattle.fm_words.specs.Bits.{IsWithout}
use Rattle.std.proofs.Common.{◌≡◌, ◌≢◌, ℕ, ◌%◌, ◌^◌, ◌<◌, ◌≤◌, ◌==◌, Bool, true, false, if◌then◌else◌, Option, Some, None, refl, sym, ap, ◌∙◌, arith, inl, eq-eqb, ne_eqb, ◌-◌, subst, List, get_or}
use Rattle.std.{specs.Int.{bit_at}, proofs.lemmas.Nat.Bits.{bit_at-lt}}
use mathlib.Core.Logic.{dite}
use native.Mathlib.Decide.{ℕ_discrete}
use Rattle.fm_base.specs.{declared.{arena_id.ArenaId.{ArenaId}, kind.Kind.{Kind, TheVariants.{Global, Automatic, Confined, Shared}}}, Arenas.{kind_number}}
use Rattle.fm_base.specs.Calls.{Closed}
use Rattle.fm_base_machine.{specs.Functions.{Stage, Fresh, Lives, Closes, Over, Machine, enter_stage, hold_stage, shut_stage}, proofs.Putting.{one_arena}}
use Rattle.fm_rule_facts.specs.Words.{alive_word, closing_word, free_word, alive_holds, enter_found, hold_found, hold_by, shut_found, shut_by}
use Rattle.fm_rule_facts.specs.{Facts.{Session, free, live, shut, PoolWords, session_code, World, own_map, Rule}, Views.{View}}
use prog.Atomic.{either}

pub kind_below : (k : Kind) → kind_number k ≤ 3
kind_below Global = omega arith
kind_below Automatic = omega arith
kind_below Confined = omega arith
kind_below Shared = omega arith

pub eqb_true : (a b : ℕ) → (a == b) ≡ true → a ≡ b
eqb_true a b e = dite (ℕ_discrete a b) (λ p. p) (λ n. absurd (let f : (a == b) ≡ false = ne_eqb a b n in cc))

pub eqb_false : (a b : ℕ) → (a == b) ≡ false → a ≢ b
eqb_false a b e p = let t : (a == b) ≡ true = eq-eqb a b p in absurd (cc)

-- a word of an arena that is alive tells its holds
pub reads_alive : (a : ArenaId) (n : ℕ) → n ≤ 65535 → alive_holds a (alive_word a n) ≡ Some n
unfolding alive_holds alive_word session_word
reads_alive a n h =
    let w : ℕ = alive_word a n in
    let r : w % 2 ^ 16 ≡ n = omega arith in
    let e : (w == alive_word a (w % 2 ^ 16)) ≡ true = eq-eqb w (alive_word a (w % 2 ^ 16)) (ap (alive_word a) (sym r)) in
    ap (λ (b : Bool). if b then Some (w % 2 ^ 16) else None) e ∙ ap Some r

-- and a word that tells holds is that of the arena alive with so many
pub alive_read : (a : ArenaId) (x n : ℕ) → alive_holds a x ≡ Some n → x ≡ alive_word a n
unfolding alive_holds
alive_read a x n e =
    let P : Bool → Type 0 = λ b. (x == alive_word a (x % 2 ^ 16)) ≡ b → (if b then Some (x % 2 ^ 16) else None) ≡ Some n → x ≡ alive_word a n in
    let go : (b : Bool) → P b = λ b. elim b as P [
      | true ↦ (λ q s. let r : x % 2 ^ 16 ≡ n = cc in eqb_true x (alive_word a (x % 2 ^ 16)) q ∙ ap (alive_word a) r)
      | false ↦ (λ q s. absurd (cc))
    ] in
    go (x == alive_word a (x % 2 ^ 16)) refl e

-- words of one arena alive differ by the holds alone
pub alive_one : (a : ArenaId) (n k : ℕ) → alive_word a n ≡ alive_word a k → n ≡ k
unfolding alive_word session_word
alive_one a n k e = omega arith

alive_rest : (a : ArenaId) (n : ℕ) → n ≤ 65535 → alive_word a n % 2 ^ 16 ≡ n
unfolding alive_word session_word
alive_rest a n h = omega arith

-- what was read of an arena's holds is so
abbrev pub Says : Machine → ArenaId → Option ℕ → Type 0
Says t a None = t.life a ≢ Lives
Says t a (Some n) = (t.life a ≡ Lives) × (n ≡ t.holds a)

module _ (z : Shape) (m : PoolWords) (t : Machine) (r : World z m t) (few : z.passes ≤ 4096) (a : ArenaId) (known : t.life a ≢ Fresh) where
  live_bound : (b : ArenaId) → m.sessions a.slot ≡ live b → m.counts a.slot ≤ 65535
  live_bound b e =
      let y = r.sessions.live_is a.slot b e in
      let c : m.counts a.slot ≡ t.holds b = ap m.counts (sym y.0) ∙ r.counts.shown b y.1 in
      let f = r.counts.few b in omega arith

  -- a session of the slot whose word shows the arena alive
  is_alive : (s : Session) (h : ℕ) → m.sessions a.slot ≡ s → h < 65536 → session_code z.generations s (m.counts a.slot) ≡ alive_word a h → t.life a ≡ Lives
  unfolding alive_word closing_word free_word session_word
  is_alive (free g) h e l q = let k = kind_below a.kind in let f = (r.sessions.fits a known).owner in absurd (omega arith)
  is_alive (shut b) h e l q =
      let k = kind_below a.kind in let i = kind_below b.kind in
      let f = (r.sessions.fits a known).owner in
      let g = (r.sessions.fits b (r.sessions.shut_is a.slot b e).1).owner in
      absurd (omega arith)
  is_alive (live b) h e l q =
      let y = r.sessions.live_is a.slot b e in
      let k = kind_below a.kind in let i = kind_below b.kind in
      let c = live_bound b e in
      let f = (r.sessions.fits a known).owner in
      let g = (r.sessions.fits b (λ o. let f : Lives ≡ Fresh = sym y.1 ∙ o in absurd (cc))).owner in
      let same : b.generation ≡ a.generation = omega arith in
      dite (one_arena a b)
      (λ p. ap t.life p ∙ y.1)
      (λ n. absurd (known (r.sessions.newest a.slot b (inl e) a refl (omega arith) n)))

  below_holds : (x : ℕ) → x % 2 ^ 16 < 65536
  below_holds x = omega arith

  -- what is read of the session word of the arena's slot is so
  pub says : (x : ℕ) → x ≡ session_code z.generations (m.sessions a.slot) (m.counts a.slot) → Says t a (alive_holds a x)
  unfolding alive_holds
  says x e = go (x == alive_word a (x % 2 ^ 16)) refl
    where
      go : (b : Bool) → (x == alive_word a (x % 2 ^ 16)) ≡ b → Says t a (if b then Some (x % 2 ^ 16) else None)
      go true q =
          let w : x ≡ alive_word a (x % 2 ^ 16) = eqb_true x (alive_word a (x % 2 ^ 16)) q in
          let l = is_alive (m.sessions a.slot) (x % 2 ^ 16) refl (below_holds x) (sym e ∙ w) in
          let s : x ≡ alive_word a (t.holds a) = e ∙ ((λ j. session_code z.generations (r.sessions.alive_shown a l j) (r.counts.shown a l j))) in
          (l, alive_one a (x % 2 ^ 16) (t.holds a) (sym w ∙ s))
      go false q = λ l.
          let s : x ≡ alive_word a (t.holds a) = e ∙ ((λ j. session_code z.generations (r.sessions.alive_shown a l j) (r.counts.shown a l j))) in
          let h : x % 2 ^ 16 ≡ t.holds a = ap (λ (y : ℕ). y % 2 ^ 16) s ∙ alive_rest a (t.holds a) (r.counts.few a) in
          eqb_false x (alive_word a (x % 2 ^ 16)) q (s ∙ ap (alive_word a) (sym h))

-- what holds at each stage but that of an arena that is alive
unless_alive : (P : Stage → Type 0) (l : Stage) → l ≢ Lives → P Fresh → P Closes → P Over → P l
unless_alive P Fresh n f c o = f
unless_alive P Lives n f c o = absurd (n refl)
unless_alive P Closes n f c o = c
unless_alive P Over n f c o = o

-- what is answered by what was read is what the machine answers
pub enter_says : (t : Machine) (a : ArenaId) (o : Option ℕ) → Says t a o → enter_found o ≡ enter_stage (t.life a)
enter_says t a None s = unless_alive (λ l. Closed ≡ enter_stage l) (t.life a) s refl refl refl
enter_says t a (Some n) s = ap enter_stage (sym s.0)

pub shut_says : (t : Machine) (a : ArenaId) (o : Option ℕ) → Says t a o → shut_found o ≡ shut_stage (t.life a) (t.holds a)
shut_says t a None s = unless_alive (λ l. Closed ≡ shut_stage l (t.holds a)) (t.life a) s refl refl refl
shut_says t a (Some n) s = ap shut_by s.1 ∙ ap (λ (l : Stage). shut_stage l (t.holds a)) (sym s.0)

pub hold_says : (t : Machine) (a : ArenaId) (o : Option ℕ) → Says t a o → hold_found o ≡ hold_stage (t.life a) (t.holds a)
hold_says t a None s = unless_alive (λ l. Closed ≡ hold_stage l (t.holds a)) (t.life a) s refl refl refl
hold_says t a (Some n) s = ap hold_by s.1 ∙ ap (λ (l : Stage). hold_stage l (t.holds a)) (sym s.0)

-- ---- bit words

-- A bit is taken where the expected word is found and has it; else the word stays, also where the bit was 0 already.
pub by_bit : (P : ℕ → Bool → Type 0) (e bit next found : ℕ) → IsWithout e bit next → (found ≡ e → bit_at e bit ≡ 1 → P next true) → P found false
    → (b c : Bool) → (found == e) ≡ b → (bit_at e bit == 1) ≡ c → P (either b next found) (if b then c else false)
by_bit P e bit next found without take stay true true p q = take (eqb_true found e p) (eqb_true (bit_at e bit) 1 q)
by_bit P e bit next found without take stay true false p q =
    let zero : bit_at e bit ≡ 0 = (let y = bit_at-lt e bit in let n = eqb_false (bit_at e bit) 1 q in omega arith) in
    subst (λ (w : ℕ). P w false) (eqb_true found e p ∙ sym (without.same zero)) stay
by_bit P e bit next found without take stay false c p q = stay

-- ---- map words

-- the page of a map word is one less
pub page_back : (p x : ℕ) → x ≡ map_word p → p ≡ x - 1
unfolding map_word
page_back p x e = omega arith

-- the word 0 names none
pub none_read : (o : Option ℕ) → own_map o ≡ 0 → o ≡ None
none_read None e = refl
none_read (Some p) e = absurd (map_word-some p e)

-- and each other word names its page
page_read : (o : Option ℕ) (x : ℕ) → x ≡ own_map o → x ≢ 0 → o ≡ Some (x - 1)
page_read None x e n = absurd (n e)
page_read (Some p) x e n = ap Some (page_back p x e)

-- where its page is one of these, so is what names it
map_below : (pages x : ℕ) (o : Option ℕ) → x ≡ own_map o → ((p : ℕ) → o ≡ Some p → p < pages) → x ≤ pages
map_below pages x None e low = let f : x ≡ 0 = e in omega arith
map_below pages x (Some p) e low = let f = page_back p x e in let l = low p refl in omega arith

-- ---- what a map word says

module _ (z : Shape) (ws : List ℕ) (vs : List View) (r : Rule z ws vs) (s i : ℕ) (slot : s < z.slots) (low : i < z.reach) where
  abbrev there : ℕ
  there = get_or ws (place_at z (map s i)) 0

  is_map : there ≡ own_map (r.memory.maps s i)
  is_map = r.shows.maps s i slot low

  pub says_none : there ≡ 0 → r.memory.maps s i ≡ None
  says_none e = none_read (r.memory.maps s i) (sym is_map ∙ e)

  pub says_page : there ≢ 0 → r.memory.maps s i ≡ Some (there - 1)
  says_page n = page_read (r.memory.maps s i) there is_map n

  -- it names a page of the pool
  pub says_low : {y : Shape} → y ≡ z → there ≤ y.pages
  says_low e = subst (λ (x : Shape). there ≤ x.pages) (sym e)
      (map_below z.pages there (r.memory.maps s i) is_map (λ p h. (r.pages.mapped_is p s i (r.pages.map_is s i p h)).page))
