-- What the fields say of the arena that a call names.
use Rattle.std.proofs.Common.{◌≡◌, ℕ, zero, suc, ◌+◌, ◌-◌, ◌*◌, ◌<◌, ◌≤◌, ◌++◌, replicate, Bool, true, false, if◌then◌else◌, List, [], ◌∷◌, length, set, get_or, refl, ap, sym, ◌∙◌, subst, arith, Option, Some, None, ◌⊎◌, inl, inr, slice_get, slice_index, length-append}
use Rattle.std.{specs.Prelude.{IsSome}, proofs.{lemmas.List.{get_or_append_left, set-append_left, length-set, Edits.{sets}}, Math.Seq.{length-sets}}}
use Rattle.std.proofs.lemmas.Option.{get_or_from_slice_get, slice_get_within}
use Rattle.fm_base.specs.declared.arena_id.ArenaId.{ArenaId}
use Rattle.fm_base.specs.Arenas.{owner_of, only_caller, State, Arena, Alive, Ended, arena_of, has_arena, changed, IsUnderWay}
use Rattle.fm_base.{specs.{Machine.{entered, left, words_within, MayReach}, Does.{CanReach, CanReachAll}}, proofs.Names.{same_id-self}}
use Rattle.fm_mono.specs.declared.arena.MonoArena.{MonoArena}
use Rattle.fm_mono.specs.Shown.{view_of, seen_of, inside_of, shown, shown_all, CountFrom, IsSoundMono, IsKept, IsThere, FitsIn, filled, GoesOut}
use Rattle.fm_mono.proofs.{Inside.{inside_of-set}, Showing.{slot_at, found_shown, place_of, change_shown, CountFrom-set, enter_shown, leave_shown, nobody}}

-- the arena that was entered
pub record IsActed (limit : ℕ) (inside : Option ArenaId) (current : ℕ) (os : List MonoArena) (o : MonoArena) : Type 0 where
  pub id : ArenaId
  pub inside_is : inside ≡ Some id
  pub is_current : current ≡ id.slot
  pub named : o.id ≡ id
  pub alive : o.is_alive ≡ true
  pub place : slice_get os id.slot ≡ Some o
  pub looked : arena_of (shown_all limit inside os) id ≡ shown limit inside o
  pub fits : FitsIn limit o

is_acted : (limit : ℕ) (inside : Option ArenaId) (current : ℕ) (os : List MonoArena) (o : MonoArena) (id : ArenaId) → IsKept limit inside current os
    → inside ≡ Some id → o ≡ get_or os current o → IsActed limit inside current os o
is_acted limit inside current os o id k i e =
    let s = k.arenas in
    let place : current ≡ id.slot = rw i at k.place in
    let t : IsThere (Some id) os = rw i at s.there in
    let same : t.0 ≡ o = sym (get_or_from_slice_get os id.slot t.0 o t.1) ∙ sym (e ∙ ap (λ n. get_or os n o) place) in
    let h : slice_get os id.slot ≡ Some o = t.1 ∙ ap Some same in
    let named : o.id ≡ id = rw same at t.2 in
    record {
      id = id;
      inside_is = i;
      is_current = place;
      named = named;
      alive = rw same at t.3;
      place = h;
      looked = ap (λ x. arena_of (shown_all limit inside os) x) (sym named) ∙ (found_shown limit inside 0 id.slot os o s.names h).0;
      fits = s.fit id.slot o h;
    }

-- the words of an arena that is alive
words_shown : (limit : ℕ) (inside : Option ArenaId) (o : MonoArena) → o.is_alive ≡ true
    → (shown limit inside o).words ≡ filled (words_within limit) o.words.items
words_shown limit inside o h = rw h refl

module _ {limit : ℕ} {inside : Option ArenaId} {current : ℕ} {os : List MonoArena} {o : MonoArena} (h : IsActed limit inside current os o) where
  -- The words with a given byte are there.
  there_if_given : (n : ℕ) → 8 * n < (arena_of (shown_all limit inside os) h.id).given + 8 → n ≤ length o.words.items
  there_if_given n g =
      let given : 8 * n < o.given + 8 = rw h.looked at g in
      let words = h.fits.words h.alive in
      omega arith

  pub word_shown : (word : ℕ) → word < length o.words.items
      → slice_index o.words.items word ≡ slice_index (arena_of (shown_all limit inside os) h.id).words word
  word_shown word within = rw (h.looked, words_shown limit inside o h.alive) (sym (get_or_append_left o.words.items _ 0 word within))

  pub way_shown : IsUnderWay (shown_all limit inside os) only_caller h.id
  way_shown = rw (h.looked, h.named, h.inside_is, same_id-self h.id) (0, omega arith, refl)

  pub known_shown : CountFrom 0 os → has_arena (shown_all limit inside os) h.id ≡ true
  known_shown c = subst (λ (x : ArenaId). has_arena (shown_all limit inside os) x ≡ true) h.named (found_shown limit inside 0 h.id.slot os o c h.place).1

  pub within_shown : (n : ℕ) → n ≤ length o.words.items → n ≤ length (arena_of (shown_all limit inside os) h.id).words
  within_shown n within = rw (h.looked, words_shown limit inside o h.alive) (rw length-append (omega arith))

  pub reach_shown : (word : ℕ) → word < length o.words.items → MayReach (shown_all limit inside os) only_caller h.id word
  reach_shown word within = record { under_way = way_shown; within = (let w = within_shown (word + 1) (omega arith) in omega arith) }

-- the arena that was entered has the words that can be reached
pub acts_on : (limit : ℕ) (inside : Option ArenaId) (current : ℕ) (os : List MonoArena) (o : MonoArena) (first count : ℕ) → IsKept limit inside current os
    → CanReachAll (view_of (seen_of limit inside os)) first count → o ≡ get_or os current o
    → (h : IsActed limit inside current os o) × (first + count ≤ length o.words.items)
unfolding is_acted
acts_on limit inside current os o first count k r e =
    let h = is_acted limit inside current os o r.id k r.inside e in
    let given : 8 * first + 8 * count ≤ (arena_of (shown_all limit inside os) r.id).given = r.given in
    let more : 8 * (first + count) < (arena_of (shown_all limit inside os) r.id).given + 8 = omega arith in
    (h, there_if_given h (first + count) more)

-- the same of one word
pub acts_at : (limit : ℕ) (inside : Option ArenaId) (current : ℕ) (os : List MonoArena) (o : MonoArena) (word : ℕ) → IsKept limit inside current os
    → CanReach (view_of (seen_of limit inside os)) word → o ≡ get_or os current o
    → (h : IsActed limit inside current os o) × (word < length o.words.items)
unfolding is_acted
acts_at limit inside current os o word k r e =
    let h = is_acted limit inside current os o r.id k r.inside e in
    let given : 8 * word < (arena_of (shown_all limit inside os) r.id).given = r.given in
    let more : 8 * (word + 1) < (arena_of (shown_all limit inside os) r.id).given + 8 = omega arith in
    (h, (let within = there_if_given h (word + 1) more in omega arith))

-- these words put one after the other, the first at this index
abbrev pub written_all : ℕ → List ℕ → Arena → Arena
written_all first vs a = record a { words = sets a.words first vs }

sets-append : (vs xs zs : List ℕ) (first : ℕ) → first + length vs ≤ length xs → sets (xs ++ zs) first vs ≡ sets xs first vs ++ zs
sets-append [] xs zs first h = refl
sets-append (v ∷ vs) xs zs first h =
    ap (λ ws. sets ws (suc first) vs) (set-append_left xs zs first v (omega arith))
    ∙ sets-append vs (set xs first v) zs (suc first) (rw length-set (omega arith))

-- what is shown where words are put
words_put : (limit : ℕ) (inside : Option ArenaId) (first : ℕ) (vs : List ℕ) (o o' : MonoArena) → o.is_alive ≡ true
    → first + length vs ≤ length o.words.items
    → o'.id ≡ o.id → o'.is_alive ≡ o.is_alive → o'.given ≡ o.given → o'.words.items ≡ sets o.words.items first vs
    → shown limit inside o' ≡ written_all first vs (shown limit inside o)
words_put limit inside first vs o o' alive within id same given words =
    let n = words_within limit in
    let fills : filled n o'.words.items ≡ sets (filled n o.words.items) first vs =
    rw (words, length-sets) (sym (sets-append vs o.words.items (replicate (n - length o.words.items) 0) first within)) in
    rw (id, same, given, alive, fills) refl

-- an element after a write
set_cases : {X : Type 0} (xs : List X) (k i : ℕ) (x p : X) → slice_get (set xs k x) i ≡ Some p → (p ≡ x) ⊎ (slice_get xs i ≡ Some p)
set_cases [] k i x p h = inr h
set_cases (y ∷ ys) zero zero x p h = inl (cc)
set_cases (y ∷ ys) zero (suc i) x p h = inr h
set_cases (y ∷ ys) (suc k) zero x p h = inr h
set_cases (y ∷ ys) (suc k) (suc i) x p h = set_cases ys k i x p h

pub fit_set : (limit : ℕ) (os : List MonoArena) (k : ℕ) (o' : MonoArena) → FitsIn limit o'
    → ((i : ℕ) (o : MonoArena) → slice_get os i ≡ Some o → FitsIn limit o)
    → (i : ℕ) (p : MonoArena) → slice_get (set os k o') i ≡ Some p → FitsIn limit p
fit_set limit os k o' fit all i p h = elim (set_cases os k i o' p h) [ inl e ↦ subst (λ x. FitsIn limit x) (sym e) fit | inr e ↦ all i p e ]

-- an arena that is looked for after a write
set_there : {X : Type 0} (xs : List X) (k i : ℕ) (o x p : X) → slice_get xs k ≡ Some o → slice_get xs i ≡ Some p
    → ((slice_get (set xs k x) i ≡ Some x) × (p ≡ o)) ⊎ (slice_get (set xs k x) i ≡ Some p)
set_there [] k i o x p h g = absurd (cc)
set_there (y ∷ ys) zero zero o x p h g = inl (refl, cc)
set_there (y ∷ ys) zero (suc i) o x p h g = inr g
set_there (y ∷ ys) (suc k) zero o x p h g = inr g
set_there (y ∷ ys) (suc k) (suc i) o x p h g = set_there ys k i o x p h g

there_set : (inside : Option ArenaId) (os : List MonoArena) (k : ℕ) (o o' : MonoArena) → slice_get os k ≡ Some o → o'.id ≡ o.id → o'.is_alive ≡ o.is_alive
    → IsThere inside os → IsThere inside (set os k o')
there_set None os k o o' h id alive t = tt
there_set (Some a) os k o o' h id alive t = elim (set_there os k a.slot o o' t.0 h t.1) [
  | inl e ↦ (o', e.0, id ∙ (ap (λ (x : MonoArena). x.id) (sym e.1) ∙ t.2), alive ∙ (ap (λ (x : MonoArena). x.is_alive) (sym e.1) ∙ t.3))
  | inr e ↦ (t.0, e, t.2, t.3)
]

-- the fields stay sound when an arena keeps its name, its life, its given count and the length of its words
pub sound_set : (limit : ℕ) (inside : Option ArenaId) (os : List MonoArena) (k : ℕ) (o o' : MonoArena) → IsSoundMono limit inside os → slice_get os k ≡ Some o
    → o'.id ≡ o.id → o'.is_alive ≡ o.is_alive → FitsIn limit o' → IsSoundMono limit inside (set os k o')
sound_set limit inside os k o o' s h id alive fit = record {
  small = s.small;
  few = rw length-set s.few;
  names = CountFrom-set 0 k os o o' s.names h id;
  fit = λ i p q. fit_set limit os k o' fit s.fit i p q;
  there = there_set inside os k o o' h id alive s.there;
}

-- the arena that was entered is altered, and keeps its name, its life, its given count and the number of its words
alter_kept : (limit : ℕ) (b : Bool) (current : ℕ) (os : List MonoArena) (f : Arena → Arena) (o o' : MonoArena)
    → IsKept limit (inside_of b current os) current os
    → (h : IsActed limit (inside_of b current os) current os o)
    → o'.id ≡ o.id → o'.is_alive ≡ o.is_alive → o'.given ≡ o.given → length o'.words.items ≡ length o.words.items
    → shown limit (inside_of b current os) o' ≡ f (shown limit (inside_of b current os) o)
    → (seen_of limit (inside_of b current (set os current o')) (set os current o') ≡ record {
      limit = limit;
      state = changed (shown_all limit (inside_of b current os) os) h.id f;
      inside = inside_of b current os;
    }) × IsKept limit (inside_of b current (set os current o')) current (set os current o')
alter_kept limit b current os f o o' k h id alive given same e =
    let i = inside_of b current os in
    let at : slice_get os current ≡ Some o = subst (λ (n : ℕ). slice_get os n ≡ Some o) (sym h.is_current) h.place in
    let fit : FitsIn limit o' = record {
      given = rw given h.fits.given;
      words = λ l. same ∙ h.fits.words h.alive ∙ ap words_within (sym given);
      freed = λ l. absurd (cc (l, alive, h.alive));
    } in
    let shown : shown_all limit i (set os current o') ≡ changed (shown_all limit i os) h.id f =
    subst (λ (x : ArenaId). shown_all limit i (set os current o') ≡ changed (shown_all limit i os) x f) h.named
    (change_shown limit i f 0 current os o o' k.arenas.names at e) in
    rw (inside_of-set b current current os o o' at id) (
      ap (λ (s : State). record { limit = limit; state = s; inside = i }) shown,
      record { arenas = sound_set limit i os current o o' k.arenas at id alive fit; place = k.place },
    )

-- words are put in the arena that was entered
pub put_kept : (limit : ℕ) (b : Bool) (current : ℕ) (os : List MonoArena) (first : ℕ) (vs : List ℕ) (o o' : MonoArena)
    → IsKept limit (inside_of b current os) current os
    → (h : IsActed limit (inside_of b current os) current os o) → first + length vs ≤ length o.words.items
    → o'.id ≡ o.id → o'.is_alive ≡ o.is_alive → o'.given ≡ o.given → o'.words.items ≡ sets o.words.items first vs
    → (seen_of limit (inside_of b current (set os current o')) (set os current o') ≡ record {
      limit = limit;
      state = changed (shown_all limit (inside_of b current os) os) h.id (written_all first vs);
      inside = inside_of b current os;
    }) × IsKept limit (inside_of b current (set os current o')) current (set os current o')
put_kept limit b current os first vs o o' k h within id alive given words =
    alter_kept limit b current os (written_all first vs) o o' k h id alive given (ap length words ∙ length-sets o.words.items first vs)
    (words_put limit (inside_of b current os) first vs o o' h.alive within id alive given words)

-- the place of an arena that is known
pub record IsPlaced (limit : ℕ) (inside : Option ArenaId) (os : List MonoArena) (a : ArenaId) : Type 0 where
  pub arena : MonoArena
  pub in_range : a.slot < length os
  pub place : slice_get os a.slot ≡ Some arena
  pub id : arena.id ≡ a
  pub owner : owner_of a ≡ only_caller
  pub looked : arena_of (shown_all limit inside os) a ≡ shown limit inside arena

pub placed : (limit : ℕ) (inside : Option ArenaId) (os : List MonoArena) (a : ArenaId) → CountFrom 0 os → has_arena (shown_all limit inside os) a ≡ true
    → IsPlaced limit inside os a
placed limit inside os a c h =
    let p = place_of limit inside 0 os a c h in
    let k : p.0 ≡ a.slot = (let e = p.2 in omega arith) in
    let at : slice_get os a.slot ≡ Some p.1 = subst (λ (i : ℕ). slice_get os i ≡ Some p.1) k p.3 in
    record {
      arena = p.1;
      in_range = slice_get_within os a.slot p.1 at;
      place = at;
      id = p.4;
      owner = sym (ap (λ (x : ArenaId). owner_of x) p.4) ∙ (slot_at 0 p.0 os p.1 c p.3).1;
      looked = ap (λ x. arena_of (shown_all limit inside os) x) (sym p.4) ∙ (found_shown limit inside 0 p.0 os p.1 c p.3).0;
    }

pub placed_read : (os : List MonoArena) (k : ℕ) (o p : MonoArena) → slice_get os k ≡ Some o → p ≡ get_or os k p → o ≡ p
placed_read os k o p h r = sym (get_or_from_slice_get os k o p h) ∙ sym r

pub life_true : (b : Bool) → (if b then Alive else Ended) ≡ Alive → b ≡ true
life_true true e = refl
life_true false e = absurd (cc)

pub enters_shown : (limit : ℕ) (inside : Option ArenaId) (os : List MonoArena) (a : ArenaId) → CountFrom 0 os → inside ≡ None
    → has_arena (shown_all limit inside os) a ≡ true
    → (arena_of (shown_all limit inside os) a).life ≡ Alive
    → (shown_all limit (Some a) os ≡ changed (shown_all limit inside os) a (entered only_caller)) × IsThere (Some a) os
enters_shown limit inside os a c out h l =
    let p = placed limit inside os a c h in
    let alive : p.arena.is_alive ≡ true = life_true p.arena.is_alive (sym (ap (λ (x : Arena). x.life) p.looked) ∙ l) in (
      rw out (subst (λ (x : ArenaId). shown_all limit (Some x) os ≡ changed (shown_all limit None os) x (entered only_caller)) p.id
          (enter_shown limit 0 a.slot os p.arena c p.place alive)),
      (p.arena, p.place, p.id, alive),
    )

-- the arena that was entered is left
pub goes_out : (limit : ℕ) (inside : Option ArenaId) (os : List MonoArena) → IsSoundMono limit inside os → IsSome inside
    → GoesOut (seen_of limit inside os) (seen_of limit None os)
goes_out limit None os s is = absurd (cc)
goes_out limit (Some a) os s is =
    let u = s.there in
    let looked : arena_of (shown_all limit (Some a) os) a ≡ shown limit (Some a) u.0 = ap (λ x. arena_of (shown_all limit (Some a) os) x) (sym u.2)
    ∙ (found_shown limit (Some a) 0 a.slot os u.0 s.names u.1).0 in
    let left_is : shown_all limit None os ≡ changed (shown_all limit (Some a) os) a (left only_caller) =
    subst (λ (x : ArenaId). shown_all limit None os ≡ changed (shown_all limit (Some x) os) x (left only_caller)) u.2
    (leave_shown limit 0 a.slot os u.0 s.names u.1) in
    record {
      id = a;
      inside = refl;
      under_way = rw (looked, u.2, same_id-self a) (0, omega arith, refl);
      after = ap (λ (t : State). record { limit = limit; state = t; inside = None }) left_is;
      small = s.small;
    }

pub nobody_shown : (limit : ℕ) (inside : Option ArenaId) (os : List MonoArena) → inside ≡ None → (other : ArenaId)
    → ¬ (IsUnderWay (shown_all limit inside os) only_caller other)
nobody_shown limit inside os out other u =
    let e : (arena_of (shown_all limit inside os) other).under_way ≡ [] = rw out (nobody limit os other) in
    let n : length (arena_of (shown_all limit inside os) other).under_way ≡ 0 = rw e refl in
    let l = u.1 in absurd (omega arith)
