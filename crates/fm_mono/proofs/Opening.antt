-- One arena more.
use Rattle.std.proofs.Common.{◌≡◌, ℕ, zero, suc, ◌+◌, ◌-◌, ◌≤◌, true, false, if◌then◌else◌, List, [], ◌∷◌, ◌++◌, length, refl, ap, sym, ◌∙◌, subst, arith, Option, Some, None, ◌⊎◌, inl, inr, slice_get, ◌<◌, length-append}
use Rattle.fm_base.specs.{declared.arena_id.ArenaId.{ArenaId}, Arenas.{owner_of, only_caller, State, Arena, has_arena}, Calls.{Open, Fine, entry_of}}
use Rattle.fm_base.{specs.{View.{Makes}, Machine.{words_within, opened}}, proofs.Names.{same_id-slot}}
use Rattle.fm_mono.specs.{declared.arena.MonoArena.{MonoArena}, Shown.{shown, shown_all, CountFrom, IsSoundMono, FitsIn, most_arenas, seen_of, view_of}}
use Rattle.fm_mono.proofs.Alone.{makes_one}

pub shown_push : (limit : ℕ) (i : Option ArenaId) (os : List MonoArena) (o : MonoArena)
    → shown_all limit i (os ++ o ∷ []) ≡ shown_all limit i os ++ shown limit i o ∷ []
shown_push limit i [] o = refl
shown_push limit i (p ∷ os) o = ap (λ (s : State). shown limit i p ∷ s) (shown_push limit i os o)

pub CountFrom-push : (n : ℕ) (os : List MonoArena) (o : MonoArena) → CountFrom n os → o.id.slot ≡ n + length os → owner_of o.id ≡ only_caller
    → CountFrom n (os ++ o ∷ [])
CountFrom-push n [] o c s w = (omega arith, w, tt)
CountFrom-push n (p ∷ os) o c s w = (c.0, c.1, CountFrom-push (n + 1) os o c.2 (omega arith) w)

pub has_none : (limit : ℕ) (i : Option ArenaId) (n : ℕ) (os : List MonoArena) (a : ArenaId) → CountFrom n os → n + length os ≤ a.slot
    → has_arena (shown_all limit i os) a ≡ false
has_none limit i n [] a c h = refl
has_none limit i n (p ∷ os) a c h =
    ap (λ b. if b then true else has_arena (shown_all limit i os) a) (same_id-slot p.id a (let e = c.0 in omega arith))
    ∙ has_none limit i (n + 1) os a c.2 (omega arith)

push_cases : {X : Type 0} (xs : List X) (x : X) (i : ℕ) (p : X) → slice_get (xs ++ x ∷ []) i ≡ Some p → (p ≡ x) ⊎ (slice_get xs i ≡ Some p)
push_cases [] x zero p h = inl (cc)
push_cases [] x (suc i) p h = absurd (cc)
push_cases (y ∷ ys) x zero p h = inr h
push_cases (y ∷ ys) x (suc i) p h = push_cases ys x i p h

pub sound_push : (limit : ℕ) (inside : Option ArenaId) (os : List MonoArena) (o : MonoArena) → IsSoundMono limit inside os → inside ≡ None
    → o.id.slot ≡ length os → owner_of o.id ≡ only_caller → FitsIn limit o
    → length os < most_arenas → IsSoundMono limit inside (os ++ o ∷ [])
sound_push limit inside os o s out slot owner fit few = record {
  small = s.small;
  few = rw length-append (omega arith);
  names = CountFrom-push 0 os o s.names (omega arith) owner;
  fit = λ i p h. elim (push_cases os o i p h) [ inl e ↦ subst (λ x. FitsIn limit x) (sym e) fit | inr e ↦ s.fit i p e ];
  there = rw out tt;
}

-- an arena with nothing in it is the machine's new one
pub shown_fresh : (limit : ℕ) (inside : Option ArenaId) (o : MonoArena) → inside ≡ None → o.is_alive ≡ true → o.given ≡ 0 → o.words.items ≡ []
    → shown limit inside o ≡ opened limit o.id
shown_fresh limit inside o out alive given words =
    let n : words_within limit - 0 ≡ words_within limit = omega arith in
    rw (out, alive, given, words, n) refl

-- as many arenas are seen as there are
pub length-shown_all : (limit : ℕ) (i : Option ArenaId) (os : List MonoArena) → length (shown_all limit i os) ≡ length os
length-shown_all limit i [] = refl
length-shown_all limit i (o ∷ os) = ap suc (length-shown_all limit i os)

-- an arena that was pushed is one that was opened
pub opens : (limit : ℕ) (inside : Option ArenaId) (os os' : List MonoArena) (o : MonoArena) → IsSoundMono limit inside os → inside ≡ None → os' ≡ os ++ o ∷ []
    → o.is_alive ≡ true → o.given ≡ 0 → o.words.items ≡ [] → o.id.slot ≡ length os → owner_of o.id ≡ only_caller
    → Makes (view_of (seen_of limit inside os)) (view_of (seen_of limit inside os')) (entry_of only_caller (Open o.id) Fine ∷ [])
opens limit inside os os' o s out e alive given words slot owner =
    let fresh = has_none limit inside 0 os o.id s.names (omega arith) in
    let state : shown_all limit inside os' ≡ shown_all limit inside os ++ opened limit o.id ∷ [] =
    ap (λ (x : List MonoArena). shown_all limit inside x) e
    ∙ (shown_push limit inside os o ∙ ap (λ (a : Arena). shown_all limit inside os ++ a ∷ []) (shown_fresh limit inside o out alive given words)) in
    makes_one (seen_of limit inside os) (seen_of limit inside os') (Open o.id) Fine (fresh, owner) refl state refl refl
