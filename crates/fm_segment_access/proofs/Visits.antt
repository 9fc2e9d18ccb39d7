-- What one visit of the only caller does to the bytes of an arena.
use Rattle.std.proofs.Common.{◌≡◌, ℕ, ◌+◌, ◌*◌, ◌/◌, ◌%◌, ◌^◌, ◌<◌, ◌≤◌, ◌==◌, suc, true, false, List, [], ◌∷◌, ◌++◌, length, take, drop, slice_index, slice_set, refl, sym, ap, subst, ◌∙◌, arith}
use Rattle.std.{specs.Prelude.{Contains, filter, not}, proofs.lemmas.Bool.{eq-eqb, ne_eqb}}
use Rattle.fm_base.specs.declared.{caller.Caller.{Caller}, arena_id.ArenaId.{ArenaId}}
use Rattle.fm_base.specs.Arenas.{are_one, Life, Alive, State, Arena, arena_of, has_arena, changed, word_in}
use Rattle.fm_base.specs.{Calls.{Read, Leave, Fine, Found, Closed, Entry, entry_of}, Machine.{entered, left, written, enter_reply}}
use Rattle.fm_base.specs.{Histories.{IsLegal, state_after}, Visits.{Acts, entries_of, visit, refused_visit, Tries, looked, missed, hit}}
use Rattle.fm_base.proofs.{Names.{are_one-self, are_one-not}, Lookup.{changed_twice, changed_same, changed_alike, lookup_changed, swapped_hit, swapped_miss}}
use Rattle.fm_base.proofs.{Making.{IsLegal-split, state_after-append}, Placing.{there_by_way}}
use Rattle.fm_base_bytes.{specs.{Bytes.{bytes_of, lane, replaced}, Words.{bytes_in}}, proofs.Words.{bytes_in-lane, bytes_in-set, bytes_in-replaced}}
use Rattle.fm_segment_access.specs.{Alone.{bytes_of_arena, with_words}, Pieces.{ReadsPiece, PutsBytes, whole, narrow, PutsPiece}}

-- Numbers that differ, by the test.
pub not_same : (a b : ℕ) → ¬ (a ≡ b) → (a == b) ≡ false
not_same a b h = ne_eqb a b h

-- ---- coming in and going out

-- Callers but one that isn't among them.
gone : (c : Caller) (callers : List Caller) → ¬ (Contains callers c) → filter (λ x. not (are_one x c)) callers ≡ callers
gone c [] h = refl
gone c (x ∷ xs) h =
    let other : are_one x c ≡ false = are_one-not x c (λ e. h (0, omega arith, e)) in
    let rest : filter (λ y. not (are_one y c)) xs ≡ xs = gone c xs (λ k. h (suc k.0, (let below = k.1 in omega arith), k.2)) in
    rw (other, rest) refl

-- A visit leaves an arena as it was but for its words.
around : (c : Caller) (words : List ℕ) (a : Arena) → ¬ (Contains a.under_way c) → left c (with_words words (entered c a)) ≡ with_words words a
around c words a h = rw (are_one-self c, gone c a.under_way h) refl

-- Who comes in finds the arena alive, and who is refused doesn't.
alive_by : (life : Life) → Fine ≡ enter_reply life → life ≡ Alive
alive_by Alive e = refl
alive_by life e = absurd (cc)

over_by : (life : Life) → Closed ≡ enter_reply life → ¬ (life ≡ Alive)
over_by Alive e = absurd (cc)
over_by life e = λ h. (cc)

pub record VisitRefused (s t : State) (id : ArenaId) : Type 0 where
  pub over : ¬ ((arena_of s id).life ≡ Alive)
  pub same : t ≡ s

-- A refused visit changes nothing, and the arena isn't alive.
pub visit_refused : (limit : ℕ) (c : Caller) (s : State) (id : ArenaId) (own : List Entry) → own ≡ refused_visit c id → IsLegal limit s own
    → VisitRefused s (state_after limit s own) id
visit_refused limit c s id own e legal =
    let refused = subst (λ (es : List Entry). IsLegal limit s es) e legal in
    record { over = over_by (arena_of s id).life refused.1; same = ap (state_after limit s) e }

-- what a legal visit tells: its arena was known and alive, and its acts are legal once the caller is in
pub record VisitIs (limit : ℕ) (c : Caller) (s : State) (id : ArenaId) (acts : Acts) : Type 0 where
  pub known : has_arena s id ≡ true
  pub alive : (arena_of s id).life ≡ Alive
  pub words : (arena_of (changed s id (entered c)) id).words ≡ (arena_of s id).words
  pub legal : IsLegal limit (changed s id (entered c)) (entries_of c acts)
  -- the words that the acts leave are those that it leaves
  pub leaves : (words : List ℕ)
      → state_after limit (changed s id (entered c)) (entries_of c acts) ≡ changed (changed s id (entered c)) id (with_words words)
      → state_after limit s (visit c id acts) ≡ changed s id (with_words words)

pub visit_is : (limit : ℕ) (c : Caller) (s : State) (id : ArenaId) (acts : Acts) → IsLegal limit s (visit c id acts) → VisitIs limit c s id acts
visit_is limit c s id acts legal =
    let es = entries_of c acts in
    let out = entry_of c (Leave id) Fine ∷ [] in
    record {
      known = legal.0.0;
      alive = alive_by (arena_of s id).life legal.1;
      words = ap (λ (a : Arena). a.words) (lookup_changed s id (entered c) (λ a. refl) legal.0.0);
      legal = (IsLegal-split limit (changed s id (entered c)) (entries_of c acts) (entry_of c (Leave id) Fine ∷ []) legal.2).0;
      leaves = λ words after.
          state_after-append limit (changed s id (entered c)) es out
          ∙ ap (λ (t : State). changed t id (left c)) (after ∙ changed_twice s id (entered c) (with_words words) (λ a. refl))
          ∙ changed_twice s id (λ a. with_words words (entered c a)) (left c) (λ a. refl)
          ∙ changed_alike s id (λ a. left c (with_words words (entered c a))) (with_words words) (around c words (arena_of s id) (legal.0.2 id));
    }

-- A visit whose acts leave the state leaves it.
pub visit_stays : (limit : ℕ) (c : Caller) (s : State) (id : ArenaId) (acts : Acts)
    → (IsLegal limit (changed s id (entered c)) (entries_of c acts)
    → state_after limit (changed s id (entered c)) (entries_of c acts) ≡ changed s id (entered c))
    → IsLegal limit s (visit c id acts) → state_after limit s (visit c id acts) ≡ s
visit_stays limit c s id acts stay legal =
    let v = visit_is limit c s id acts legal in
    let inside = changed s id (entered c) in
    let words = (arena_of s id).words in
    let rests = changed_same inside id (with_words words) (ap (λ ws. with_words ws (arena_of inside id)) (sym v.words)) in
    v.leaves words (stay v.legal ∙ sym rests) ∙ changed_same s id (with_words words) refl

-- A place, by its word.
pub place_is : (place : ℕ) → 8 * (place / 8) + place % 8 ≡ place
place_is place = omega arith

-- ---- reading

pub record VisitReads (s t : State) (id : ArenaId) (place width v : ℕ) : Type 0 where
  pub value : bytes_of width v ≡ take width (drop place (bytes_of_arena s id))
  pub same : t ≡ s
  pub alive : (arena_of s id).life ≡ Alive

-- The bytes of a lane of a word.
pub lane_bytes : (words : List ℕ) (place width v word : ℕ) → place / 8 < length words → place % 8 + width ≤ 8 → word ≡ slice_index words (place / 8)
    → v ≡ lane word (place % 8) width
    → bytes_of width v ≡ take width (drop place (bytes_in words))
lane_bytes words place width v word h fits e d =
    ap (bytes_of width) (d ∙ ap (λ n. lane n (place % 8) width) e)
    ∙ sym (bytes_in-lane words (place / 8) (place % 8) width h fits)
    ∙ ap (λ n. take width (drop n (bytes_in words))) (place_is place)

-- A visit with one Read finds the bytes that stand there, and changes nothing.
pub visit_reads : (limit : ℕ) (c : Caller) (s : State) (id : ArenaId) (place width v : ℕ) (own : List Entry) → ReadsPiece c id place width v own
    → place % 8 + width ≤ 8
    → IsLegal limit s own → VisitReads s (state_after limit s own) id place width v
visit_reads limit c s id place width v own p fits legal =
    let here = subst (λ (es : List Entry). IsLegal limit s es) p.visits legal in
    let i = visit_is limit c s id ((Read id (place / 8), Found p.word) ∷ []) here in
    let is : Found p.word ≡ Found (word_in (changed s id (entered c)) id (place / 8)) = i.legal.1 in
    let found : p.word ≡ slice_index (arena_of (changed s id (entered c)) id).words (place / 8) = cc in
    record {
      value = lane_bytes (arena_of (changed s id (entered c)) id).words place width v p.word i.legal.0.within fits found p.value
          ∙ ap (λ ws. take width (drop place (bytes_in ws))) i.words;
      same = ap (state_after limit s) p.visits ∙ visit_stays limit c s id ((Read id (place / 8), Found p.word) ∷ []) (λ l. refl) here;
      alive = i.alive;
    }

-- ---- putting

-- all with the `width` bytes of v from the place on
abbrev pub with_number : List ℕ → ℕ → ℕ → ℕ → List ℕ
with_number all place width v = take place all ++ (bytes_of width v ++ drop (place + width) all)

-- the word of these acts is set, so that these bytes stand at the place
pub record ActsPut (s t : State) (c : Caller) (id : ArenaId) (place width v : ℕ) : Type 0 where
  pub word : ℕ
  pub known : has_arena s id ≡ true
  pub within : place / 8 < length (arena_of s id).words
  pub after : t ≡ changed s id (written (place / 8) word)
  pub bytes : bytes_in (slice_set (arena_of s id).words (place / 8) word) ≡ with_number (bytes_of_arena s id) place width v

-- what tries leave
pub record TriesLeave (s t : State) (c : Caller) (id : ArenaId) (word found n : ℕ) : Type 0 where
  pub known : has_arena s id ≡ true
  pub within : word < length (arena_of s id).words
  pub is : found ≡ word_in s id word
  pub after : t ≡ changed s id (written word n)

-- Tries set the word once, at their last step.
pub tries_leave : (limit : ℕ) (c : Caller) (s : State) (id : ArenaId) (word : ℕ) (f : ℕ → ℕ) (found : ℕ) (acts : Acts) → Tries id word f found acts
    → IsLegal limit s (entries_of c acts) → TriesLeave s (state_after limit s (entries_of c acts)) c id word found (f found)
tries_leave limit c s id word f found acts (looked now rest t) legal = tries_leave limit c s id word f found rest t legal.2
tries_leave limit c s id word f found acts (missed now old new rest n t) legal =
    let Here : State → Type 0 = λ u. IsLegal limit u (entries_of c rest) → TriesLeave s (state_after limit u (entries_of c rest)) c id word found (f found) in
    subst Here (sym (swapped_miss s id word old new now (not_same now old n))) (λ l. tries_leave limit c s id word f found rest t l) legal.2
tries_leave limit c s id word f found acts hit legal =
    let reach = legal.0 in
    let is : Found found ≡ Found (word_in s id word) = legal.1 in
    record {
      known = there_by_way s c id reach.under_way;
      within = reach.within;
      is = (cc);
      after = swapped_hit s id word found (f found) found (eq-eqb found found refl);
    }

-- Eight bytes fill a word.
pub whole_word : (words : List ℕ) (place v : ℕ) → place / 8 < length words → place % 8 + 8 ≤ 8
    → bytes_in (slice_set words (place / 8) v) ≡ with_number (bytes_in words) place 8 v
whole_word words place v h fits =
    let e : 8 * (place / 8) ≡ place = omega arith in
    bytes_in-set words (place / 8) v h ∙ ap (λ n. with_number (bytes_in words) n 8 v) e

-- What tries that change just these bytes of a word do.
pub tries_put : (limit : ℕ) (c : Caller) (s : State) (id : ArenaId) (place width v found : ℕ) (acts : Acts)
    → Tries id (place / 8) (λ word. replaced word (place % 8) width v) found acts
    → place % 8 + width ≤ 8 → v < 2 ^ (8 * width) → IsLegal limit s (entries_of c acts) → ActsPut s (state_after limit s (entries_of c acts)) c id place width v
tries_put limit c s id place width v found acts t fits small legal =
    let l = tries_leave limit c s id (place / 8) (λ word. replaced word (place % 8) width v) found acts t legal in
    let words = (arena_of s id).words in
    record {
      word = replaced found (place % 8) width v;
      known = l.known;
      within = l.within;
      after = l.after;
      bytes = ap (λ n. bytes_in (slice_set words (place / 8) (replaced n (place % 8) width v))) l.is
          ∙ bytes_in-replaced words (place / 8) (place % 8) width v l.within fits small
          ∙ ap (λ n. with_number (bytes_in words) n width v) (place_is place);
    }

-- What the acts of one visit do.
pub acts_put : (limit : ℕ) (c : Caller) (s : State) (id : ArenaId) (place width v : ℕ) (acts : Acts) → PutsBytes id place width v acts → place % 8 + width ≤ 8
    → v < 2 ^ (8 * width)
    → IsLegal limit s (entries_of c acts) → ActsPut s (state_after limit s (entries_of c acts)) c id place width v
acts_put limit c s id place width v acts (whole e) fits small legal = record {
  word = v;
  known = there_by_way s c id legal.0.under_way;
  within = legal.0.within;
  after = refl;
  bytes = rw e (whole_word (arena_of s id).words place v legal.0.within (omega arith));
}
acts_put limit c s id place width v acts (narrow found tried few t) fits small legal = tries_put limit c s id place width v found acts t fits small legal

-- a visit to an arena that is alive, whose bytes from the place on are put
pub record VisitPuts (s t : State) (id : ArenaId) (place width v : ℕ) : Type 0 where
  pub words : List ℕ
  pub state : t ≡ changed s id (with_words words)
  pub bytes : bytes_in words ≡ with_number (bytes_of_arena s id) place width v
  pub within : place / 8 < length (arena_of s id).words
  pub known : has_arena s id ≡ true
  pub alive : (arena_of s id).life ≡ Alive

-- A word that is written, as the arena's words.
pub written_is : (s : State) (id : ArenaId) (w v : ℕ) → changed s id (written w v) ≡ changed s id (with_words (slice_set (arena_of s id).words w v))
written_is s id w v = changed_alike s id (written w v) (with_words (slice_set (arena_of s id).words w v)) refl

-- A visit whose acts put bytes puts just these.
pub acts_visit : (limit : ℕ) (c : Caller) (s : State) (id : ArenaId) (place width v : ℕ) (acts : Acts)
    → (IsLegal limit (changed s id (entered c)) (entries_of c acts)
    → ActsPut (changed s id (entered c)) (state_after limit (changed s id (entered c)) (entries_of c acts)) c id place width v)
    → IsLegal limit s (visit c id acts) → VisitPuts s (state_after limit s (visit c id acts)) id place width v
acts_visit limit c s id place width v acts put legal =
    let i = visit_is limit c s id acts legal in
    let a = put i.legal in
    let words = slice_set (arena_of (changed s id (entered c)) id).words (place / 8) a.word in
    record {
      words = words;
      state = i.leaves words (a.after ∙ written_is (changed s id (entered c)) id (place / 8) a.word);
      bytes = a.bytes ∙ ap (λ ws. with_number (bytes_in ws) place width v) i.words;
      within = subst (λ (ws : List ℕ). place / 8 < length ws) i.words a.within;
      known = i.known;
      alive = i.alive;
    }

-- A visit that puts bytes puts just these.
pub visit_puts : (limit : ℕ) (c : Caller) (s : State) (id : ArenaId) (place width v : ℕ) (own : List Entry) → PutsPiece c id place width v own
    → place % 8 + width ≤ 8 → v < 2 ^ (8 * width)
    → IsLegal limit s own → VisitPuts s (state_after limit s own) id place width v
visit_puts limit c s id place width v own p fits small legal =
    rw p.visits
    (acts_visit limit c s id place width v p.acts (λ l. acts_put limit c (changed s id (entered c)) id place width v p.acts p.puts fits small l)
    (rw p.visits at legal))
