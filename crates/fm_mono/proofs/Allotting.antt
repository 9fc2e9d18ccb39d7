-- An arena that gives more bytes, and one that ends.
use Rattle.std.proofs.Common.{◌≡◌, ℕ, ◌+◌, ◌-◌, ◌<◌, ◌≤◌, true, false, List, ◌++◌, length, set, take, replicate, get_or, refl, ap, sym, ◌∙◌, subst, arith, append_assoc, length-append, Option, Some, None, slice_get}
use Rattle.std.{specs.Prelude.{nat_le, vec_capacity}, proofs.lemmas.Bool.Decides.{nat_tests}}
use Rattle.std.proofs.lemmas.List.{length-set, length-replicate, replicate-append-replicate, set-get_or, take_all}
use Rattle.fm_base.specs.{declared.arena_id.ArenaId.{ArenaId}, Arenas.{Arena, Alive, arena_of, changed, has_arena}, Calls.{Given, NoRoom}}
use Rattle.fm_base.{specs.Machine.{words_within, rounded_up, allocate_reply, given_up_to, ended}, proofs.{Growing.{le-rounded_up}, Lookup.{changed_same}}}
use Rattle.fm_mono.specs.{declared.arena.MonoArena.{MonoArena}, Shown.{Arenas, shown, shown_all, seen_of, IsKept, IsSoundMono, filled, WantsWords}}
use Rattle.fm_mono.{specs.declared.mono.Mono.TheInside.{Inside}, proofs.{Inside.{entered_of}, Showing.{change_shown, CountFrom-set}}}
use Rattle.fm_mono.proofs.Steps.{IsPlaced, placed, placed_read, life_true, fit_set, sound_set}

-- zeros behind the words are not seen
fill_padded : (n k : ℕ) (ws : List ℕ) → length ws + k ≤ n → filled n (ws ++ replicate k 0) ≡ filled n ws
fill_padded n k ws h =
    let len : length (ws ++ replicate k 0) ≡ length ws + k = rw (length-append, length-replicate) refl in
    let e : replicate k 0 ++ replicate (n - (length ws + k)) 0 ≡ replicate (n - length ws) 0 =
    replicate-append-replicate k (n - (length ws + k)) 0 ∙ ap (λ m. replicate m 0) (let q : k + (n - (length ws + k)) ≡ n - length ws = omega arith in q) in
    rw (len, append_assoc) (ap (λ (t : List ℕ). ws ++ t) e)

-- the arena that a call named, as it was read
pub record IsRead (limit : ℕ) (inside : Option ArenaId) (os : List MonoArena) (a : ArenaId) (o : MonoArena) : Type 0 where
  pub place : slice_get os a.slot ≡ Some o
  pub id : o.id ≡ a
  pub alive : o.is_alive ≡ true
  pub read : o ≡ get_or os a.slot o
  pub looked : arena_of (shown_all limit inside os) a ≡ shown limit inside o

pub is_read : (limit : ℕ) (inside : Option ArenaId) (os : List MonoArena) (a : ArenaId) (o : MonoArena) → IsPlaced limit inside os a → o ≡ get_or os a.slot o
    → (arena_of (shown_all limit inside os) a).life ≡ Alive → IsRead limit inside os a o
is_read limit inside os a o p r l =
    let same = placed_read os a.slot p.arena o p.place r in
    let looked : arena_of (shown_all limit inside os) a ≡ shown limit inside o = p.looked ∙ ap (λ x. shown limit inside x) same in
    record {
      place = p.place ∙ ap Some same;
      id = sym (ap (λ (x : MonoArena). x.id) same) ∙ p.id;
      alive = life_true o.is_alive (sym (ap (λ (x : Arena). x.life) looked) ∙ l);
      read = r;
      looked = looked;
    }

module _ (f : Inside) {m : Arenas} {a : ArenaId} (kept : IsKept f.limit (entered_of f) f.current f.arenas.items)
    (is : seen_of f.limit (entered_of f) f.arenas.items ≡ m) (known : has_arena m.state a ≡ true) where
  -- the arena that a call names has its place
  pub placed_for : IsPlaced f.limit (entered_of f) f.arenas.items a
  placed_for = placed f.limit (entered_of f) f.arenas.items a kept.arenas.names (subst (λ (n : Arenas). has_arena n.state a ≡ true) (sym is) known)

  -- and is read there
  pub read_for : (o : MonoArena) → o ≡ get_or f.arenas.items a.slot o → (arena_of m.state a).life ≡ Alive → IsRead f.limit (entered_of f) f.arenas.items a o
  read_for o r l =
      is_read f.limit (entered_of f) f.arenas.items a o placed_for r (subst (λ (n : Arenas). (arena_of n.state a).life ≡ Alive) (sym is) l)

-- words that were grown to so many
pub record IsGrown (old new : List ℕ) (n : ℕ) : Type 0 where
  pub words : new ≡ old ++ replicate (n - length old) 0
  pub count : length new ≡ n

pub is_grown : (old new : List ℕ) (n : ℕ) → length old ≤ n → new ≡ take n old ++ replicate (n - length old) 0 → IsGrown old new n
is_grown old new n h e =
    let words : new ≡ old ++ replicate (n - length old) 0 = e ∙ ap (λ (t : List ℕ). t ++ replicate (n - length old) 0) (take_all n old h) in
    record {
      words = words;
      count = rw (words, length-append, length-replicate) (omega arith);
    }

module _ (limit : ℕ) (inside : Option ArenaId) (os : List MonoArena) (a : ArenaId) (o : MonoArena) (s : IsSoundMono limit inside os)
    (r : IsRead limit inside os a o) where
  -- there is no room
  pub no_room : (size align : ℕ) → limit < rounded_up o.given align + size
      → NoRoom o.given ≡ allocate_reply limit (arena_of (shown_all limit inside os) a).given size align
  no_room size align h =
      let no : nat_le (rounded_up o.given align + size) limit ≡ false = grind (arith, nat_tests) in
      rw (r.looked, no) refl

  -- the place that is given
  pub gives_place : (size align : ℕ) → rounded_up o.given align + size ≤ limit
      → Given (rounded_up o.given align) ≡ allocate_reply limit (arena_of (shown_all limit inside os) a).given size align
  gives_place size align h =
      let yes : nat_le (rounded_up o.given align + size) limit ≡ true = grind (arith, nat_tests) in
      rw (r.looked, yes) refl

  -- the words that hold the given bytes are fewer than those that will
  pub grows : (size align : ℕ) → 0 < align → length o.words.items ≤ words_within (rounded_up o.given align + size)
  grows size align h =
      let w = (s.fit a.slot o r.place).words r.alive in
      let up = le-rounded_up o.given align h in
      omega arith

  -- words are wanted that a vector with this room for words has not
  pub wants_words : (size align capacity : ℕ) → length o.words.items ≤ capacity → capacity < words_within (rounded_up o.given align + size)
      → rounded_up o.given align + size ≤ limit → WantsWords (seen_of limit inside os) a size align
  wants_words size align capacity most more room =
      let w = (s.fit a.slot o r.place).words r.alive in
      let grows : words_within o.given < words_within (rounded_up o.given align + size) = omega arith in
      record { alive = rw (r.looked, r.alive) refl; room = rw r.looked room; grows = rw r.looked grows }

  -- bytes are given
  pub allotted_shown : (end : ℕ) (o' : MonoArena) → end ≤ limit → o'.id ≡ o.id → o'.is_alive ≡ o.is_alive → o'.given ≡ end
      → length o.words.items ≤ words_within end
      → IsGrown o.words.items o'.words.items (words_within end)
      → (shown_all limit inside (set os a.slot o') ≡ changed (shown_all limit inside os) a (given_up_to end)) × IsSoundMono limit inside (set os a.slot o')
  allotted_shown end o' f id alive given fewer grown =
      let k = words_within end - length o.words.items in
      let w : filled (words_within limit) o'.words.items ≡ filled (words_within limit) o.words.items =
      rw grown.words (fill_padded (words_within limit) k o.words.items (omega arith)) in
      let e : shown limit inside o' ≡ given_up_to end (shown limit inside o) = rw (id, alive, given, r.alive, w) refl in (
        subst (λ (x : ArenaId). shown_all limit inside (set os a.slot o') ≡ changed (shown_all limit inside os) x (given_up_to end)) r.id
            (change_shown limit inside (given_up_to end) 0 a.slot os o o' s.names r.place e),
        sound_set limit inside os a.slot o o' s r.place id alive (record {
          given = omega arith;
          words = λ l. grown.count ∙ ap words_within (sym given);
          freed = λ l. absurd (cc (l, alive, r.alive));
        }),
      )

  -- the arena as it was, written back
  pub unchanged : IsSoundMono limit inside (set os a.slot o) × (shown_all limit inside (set os a.slot o) ≡ shown_all limit inside os)
  unchanged =
      let same : set os a.slot o ≡ os = ap (λ x. set os a.slot x) r.read ∙ set-get_or os a.slot o in
      (rw same s, rw same refl)

  -- the arena with other words that hold the same
  pub same_shown : (o' : MonoArena) → o'.id ≡ o.id → o'.is_alive ≡ o.is_alive → o'.given ≡ o.given → o'.words.items ≡ o.words.items
      → IsSoundMono limit inside (set os a.slot o') × (shown_all limit inside (set os a.slot o') ≡ shown_all limit inside os)
  same_shown o' id alive given words =
      let e : shown limit inside o' ≡ shown limit inside o = rw (id, alive, given, r.alive, words) refl in
      let f = s.fit a.slot o r.place in (
        sound_set limit inside os a.slot o o' s r.place id alive (record {
          given = rw given f.given;
          words = λ l. rw (words, given) (f.words r.alive);
          freed = λ l. absurd (cc (l, alive, r.alive));
        }),
        change_shown limit inside (λ x. x) 0 a.slot os o o' s.names r.place e ∙ changed_same (shown_all limit inside os) o.id (λ x. x) refl,
      )

  -- an arena whose words are given back
  pub ended_shown : (o' : MonoArena) → inside ≡ None → o'.id ≡ o.id → o'.is_alive ≡ false → o'.given ≡ o.given → o'.past.numbers ≡ o.words.items
      → vec_capacity o'.words ≡ 0
      → (shown_all limit inside (set os a.slot o') ≡ changed (shown_all limit inside os) a ended) × IsSoundMono limit inside (set os a.slot o')
  ended_shown o' out id dead given past freed =
      let e : shown limit inside o' ≡ ended (shown limit inside o) = rw (id, dead, given, past, r.alive) refl in
      let f = s.fit a.slot o r.place in (
        subst (λ (x : ArenaId). shown_all limit inside (set os a.slot o') ≡ changed (shown_all limit inside os) x ended) r.id
            (change_shown limit inside ended 0 a.slot os o o' s.names r.place e),
        record {
          small = s.small;
          few = rw length-set s.few;
          names = CountFrom-set 0 a.slot os o o' s.names r.place id;
          fit = fit_set limit os a.slot o' (record { given = rw given f.given; words = λ l. absurd (cc (l, dead)); freed = λ l. freed }) s.fit;
          there = rw out tt;
        },
      )
