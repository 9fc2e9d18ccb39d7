-- What a pass of a pool knows at the call of a step.
use Rattle.std.proofs.Common.{◌≡◌, ℕ, ◌+◌, ◌-◌, ◌*◌, ◌/◌, ◌%◌, ◌^◌, ◌<◌, ◌≤◌, List, [], ◌∷◌, inl, true, refl, Option, Some, sym, ap, ◌∙◌, subst, arith}
use Rattle.std.proofs.{Math.Nat.{mod-lt}, lemmas.Nat.{div-mul-add, mod-mul-add}}
use Rattle.fm_words.specs.{declared.shape.Shape.{Shape}, Shapes.{IsValid}, Places.{Place, IsPlace, at, page_word, groups, page_groups, words}}
use Rattle.fm_words.proofs.Tables.{at-within, words-le}
use Rattle.atomic_table.specs.{declared.shared.Seat.{Seat}, Seated.{TableId}, Table.{Me}}
use Rattle.fm_base.specs.declared.{caller.Caller.{Caller}, arena_id.ArenaId.{ArenaId}}
use Rattle.fm_rule_facts.specs.{Hands.{Hand, HasSlot}, Views.{View, Fits, In, IsKnown, IsOver, IsSound}, Closes.{passed_of}}
use Rattle.fm_rule_facts.{specs.{Steps.{HasPlace, number_at, CanDraw, can_draw, can_look}, Parts.{wiping, mapping_of}}, proofs.Groups.{page_group}}
use Rattle.fm_rule_steps.proofs.Closes.{Found, passed_of-found}
use Rattle.fm_rule.specs.{declared.{pass.Part.{Part}, pool.Pool.{Pool}, seen.Seen.{Seen}}, Passes.{IsOf}, Views.{homed, numbers_of, IsPart, Keeps}}

-- ---- the table

table_of : List ℕ → TableId
table_of (w ∷ s ∷ v ∷ a ∷ b ∷ o ∷ names) = record { words = w; slots = s; views_name = v; atom = a; block = b; offset = o; slot_names = names }
table_of other = record { words = 0; slots = 0; views_name = 0; atom = 0; block = 0; offset = 0; slot_names = [] }

-- numbers tell one table
pub one_table : (s t : TableId) → numbers_of s ≡ numbers_of t → s ≡ t
unfolding table_of
one_table s t e = ap table_of e

-- a pass of a pool has a seat at its table
pub in_pool : (t : TableId) (v now : View) (pool : Pool) → homed (numbers_of t) v ≡ now → IsOf pool now → t ≡ pool.table.shared.table_id
in_pool t v now pool is of = one_table t pool.table.shared.table_id (ap (λ (x : View). x.home) is ∙ of.0)

-- ---- places

pub place_below : (z : Shape) (p : Place) {i : ℕ} → IsPlace z p → i ≡ at z p → i < words z
place_below z p h e = subst (λ (n : ℕ). n < words z) (sym e) (at-within z p h)

-- the word and the bit of a number
pub group_low : (z : Shape) (n : ℕ) → n < z.passes → n / 64 < groups z
group_low z n h = let p : ℕ = z.passes in let l : n < p = h in omega arith

pub group_of_low : (z : Shape) (g bit : ℕ) → number_at g bit < z.passes → g < groups z
group_of_low z g bit h = let p : ℕ = z.passes in let l : g * 64 + bit < p = h in omega arith

pub at_number : (n : ℕ) → n ≡ number_at (n / 64) (n % 64)
at_number n = omega arith

-- a table is small
pub words_small : (z : Shape) → IsValid z → words z < 2 ^ 32
words_small z v = let h = words-le z v in omega arith

-- the place of a word is one of the table
pub record WordPlace (z : Shape) (v : View) (word place : ℕ) : Type 0 where
  pub page : ℕ
  pub read : In (mapping_of (word / z.page_words) page) v.reads
  pub is : place ≡ at z (page_word page (word % z.page_words))
  pub low : (page < z.pages) × (word % z.page_words < z.page_words)

-- ---- a pass of a pool

-- a sound pass of the pool that the numbers tell, which contracts see as `now`: the table has its view v
pub record Sees (z : Shape) (now : View) (home : List ℕ) (v : View) : Type 0 where
  pub is : homed home v ≡ now
  pub of : now.shape ≡ z
  pub sound : IsSound v

-- a pass of the pool whose seat is open
pub record IsOpen (pool : Pool) (now : View) (seat : Seat (Unit {0}) Seen) : Type 0 where
  pub sees : Sees pool.shape now (numbers_of seat.table_id) seat.me.0
  pub table : seat.table_id ≡ pool.table.shared.table_id
  pub live : seat.me.0.live ≡ true
  pub met : seat.me.0.met ≡ []

module _ {now : View} {c : Caller} {i : Option ArenaId} {part : Part × Part} {count : ℕ} where
  pub sees : {z : Shape} {home : List ℕ} {me : Me (Unit {0}) View} → homed home me.0 ≡ now → now.shape ≡ z → Keeps c i part count me
      → Sees z now home me.0
  sees is of k = record { is = is; of = of; sound = k.sound }

  pub opened : {pool : Pool} {seat : Seat (Unit {0}) Seen} → homed (numbers_of seat.table_id) seat.me.0 ≡ now → IsOf pool now
      → Keeps c i part count seat.me → IsOpen pool now seat
  opened {pool = pool} {seat = seat} is of k =
      record { sees = sees is of.1 k; table = in_pool seat.table_id seat.me.0 now pool is of; live = k.live; met = k.met }

module _ {z : Shape} {now : View} {home : List ℕ} {v : View} (k : Sees z now home v) where
  -- what contracts say of the pass is true of the view in the table
  pub inner : (P : View → Type 0) → P now → P (homed home v)
  inner P h = subst P (sym k.is) h

  pub shape_is : v.shape ≡ z
  shape_is = ap (λ (x : View). x.shape) k.is ∙ k.of

  -- and what is said of its shape of the pool's
  pub in_shape : (P : Shape → Type 0) → P v.shape → P z
  in_shape P h = subst P shape_is h

  pub knows : (a : ArenaId) → IsKnown now a → IsKnown v a
  knows a known = inner (λ (x : View). IsKnown x a) known

  pub fits : (a : ArenaId) → IsKnown now a → Fits z a
  fits a known = in_shape (λ (x : Shape). Fits x a) (k.sound.fits a (knows a known))

  pub valid : IsValid z
  valid = in_shape IsValid k.sound.valid

  pub owner_below : (a : ArenaId) → IsKnown now a → a.owner < 4096
  owner_below a known = let f = (fits a known).owner in let p = valid.passes.1 in omega arith

  pub number_below : v.caller.number < z.passes
  number_below = in_shape (λ (x : Shape). v.caller.number < x.passes) k.sound.number

  -- the slot in its hand is one of the pool's
  pub slot_in_hand : {s : ℕ} {hand : Hand} → now.hand ≡ hand → HasSlot s hand → s < z.slots
  slot_in_hand {s = s} h i =
      in_shape (λ (x : Shape). s < x.slots) (k.sound.hand s (subst (HasSlot s) (sym (ap (λ (x : View). x.hand) k.is ∙ h)) i))

  module _ {a : ArenaId} {step : ℕ} (at : passed_of now.sweeps a ≡ Some step) where
    found : Found a step v.sweeps
    found = passed_of-found v.sweeps a step (ap (λ (x : View). passed_of x.sweeps a) k.is ∙ at)

    -- an arena that it sweeps fits the pool
    pub swept_fits : Fits z a
    swept_fits =
        let f = found in
        subst (λ (b : ArenaId). Fits z b) f.arena (in_shape (λ (x : Shape). Fits x f.walk.arena) (k.sound.fits f.walk.arena (k.sound.swept f.walk f.there).known))

    -- and is over
    pub swept_over : IsOver v a
    swept_over = let f = found in subst (IsOver v) f.arena (k.sound.swept f.walk f.there)

  -- the arena that it is inside has a slot
  pub inside_slot : {a : ArenaId} → now.inside ≡ Some a → a.slot < z.slots
  inside_slot {a = a} i =
      let here : v.inside ≡ Some a = ap (λ (x : View). x.inside) k.is ∙ i in
      let known : IsKnown v a = Rattle.fm_base.proofs.Placing.there_by_way _ _ _ (k.sound.inside a here) in
      (in_shape (λ (x : Shape). Fits x a) (k.sound.fits a known)).slot

  -- where a word stands of the arena that it is inside
  pub word_place : {word place : ℕ} → HasPlace now word place → WordPlace z v word place
  word_place {word = word} {place = place} h =
      let y = inner (λ (x : View). HasPlace x word place) h in
      record {
        page = y.page;
        read = in_shape (λ (x : Shape). In (mapping_of (word / x.page_words) y.page) v.reads) y.read;
        is = y.is ∙ ap (λ (x : Shape). at x (page_word y.page (word % x.page_words))) shape_is;
        low = (in_shape (λ (x : Shape). y.page < x.pages) y.low, mod-lt word valid.page_words.0);
      }

  -- the page in its hand is one of the pool's
  pub page_in_hand : {p : ℕ} → now.pages ≡ p ∷ [] → p < z.pages
  page_in_hand {p = p} e =
      in_shape (λ (x : Shape). p < x.pages) (k.sound.own_pages p (subst (In p) (sym (ap (λ (x : View). x.pages) k.is ∙ e)) (inl refl)))

  pub group_in_hand : {p : ℕ} → now.pages ≡ p ∷ [] → p / 64 < page_groups z
  group_in_hand {p = p} e = page_group z p (page_in_hand e)

  -- and that of its sweep
  pub page_in_sweep : {a : ArenaId} {i p w : ℕ} → now.swept ≡ wiping a i p w → p < z.pages
  page_in_sweep {a = a} {i = i} {p = p} {w = w} e =
      in_shape (λ (x : Shape). p < x.pages) (k.sound.swept_page a i p w (ap (λ (x : View). x.swept) k.is ∙ e))

  pub group_in_sweep : {a : ArenaId} {i p w : ℕ} → now.swept ≡ wiping a i p w → p / 64 < page_groups z
  group_in_sweep {p = p} e = page_group z p (page_in_sweep e)

-- what an open pass knows of an arena: its slot and its owner are the pool's
module _ {z : Shape} {now : View} {home : List ℕ} {c : Caller} {i : Option ArenaId} {part : Part × Part} {count : ℕ} {me : Me (Unit {0}) View} (a : ArenaId) where
  pub known_slot : homed home me.0 ≡ now → now.shape ≡ z → Keeps c i part count me → IsKnown now a → a.slot < z.slots
  known_slot is of k known = (fits (sees is of k) a known).slot

  pub known_owner : homed home me.0 ≡ now → now.shape ≡ z → Keeps c i part count me → IsKnown now a → a.owner < 4096
  known_owner is of k known = owner_below (sees is of k) a known

-- what it may draw is the same in every pool
pub can_draw_in : {z : Shape} {now : View} {home : List ℕ} {v : View} {e : ℕ} → Sees z now home v → CanDraw now e → CanDraw v e
can_draw_in k (can_draw n t h) = can_draw n t (ap (λ (x : View). x.number) k.is ∙ h)
can_draw_in k (can_look h z) = can_look (ap (λ (x : View). x.number) k.is ∙ h) z

-- ---- places that are known

-- a word of the part that was read last
pub record KnownPlace (v : View) (part : Part) (word : ℕ) : Type 0 where
  pub place : HasPlace v word (part.from + (word - part.first))
  pub small : part.from + (word - part.first) < 2 ^ 32

pub page_word_from : (z : Shape) (p o : ℕ) → at z (page_word p 0) + o ≡ at z (page_word p o)
unfolding at
page_word_from z p o = let x : ℕ = p * z.page_words in omega arith

pub known_place : (v : View) (part : Part) (word : ℕ) → IsSound v → (0 < part.words → IsPart v part) → part.first ≤ word → word - part.first < part.words
    → KnownPlace v part word
known_place v part word sound is low high =
    let k = is (omega arith) in
    let z : Shape = v.shape in
    let size : ℕ = z.page_words in
    let o : ℕ = word - part.first in
    let fits : o < size = (let a = k.words in omega arith) in
    let whole : word ≡ k.mapping.part * size + o = (let a = k.first in omega arith) in
    let in_part : word / size ≡ k.mapping.part = ap (λ (n : ℕ). n / size) whole ∙ div-mul-add k.mapping.part size o fits in
    let in_page : word % size ≡ o = ap (λ (n : ℕ). n % size) whole ∙ mod-mul-add k.mapping.part size o fits in
    let place : part.from + o ≡ at z (page_word k.mapping.page o) = ap (λ (n : ℕ). n + o) k.from ∙ page_word_from z k.mapping.page o in
    let below = at-within z (page_word k.mapping.page o) (k.low, fits) in
    let small = words_small z sound.valid in
    record {
      place = record {
        page = k.mapping.page;
        low = k.low;
        read = subst (λ (n : ℕ). In (mapping_of n k.mapping.page) v.reads) (sym in_part) k.read;
        is = place ∙ ap (λ (n : ℕ). at z (page_word k.mapping.page n)) (sym in_page);
      };
      small = omega arith;
    }

pub place_now : (now v : View) (home : List ℕ) (word place : ℕ) → homed home v ≡ now → HasPlace v word place → HasPlace now word place
place_now now v home word place is h = subst (λ (x : View). HasPlace x word place) is (record { page = h.page; low = h.low; read = h.read; is = h.is })
