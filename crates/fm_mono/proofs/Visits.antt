-- Whole calls of the only caller.
use Rattle.std.{proofs.Common.{◌≡◌, ℕ, ◌+◌, true, List, [], ◌∷◌, refl, sym, ap, ◌∙◌, arith, Some, Result, Ok, Err, not}, specs.Prelude.{filter}}
use Rattle.fm_base.specs.declared.{caller.Caller.{Caller}, arena_id.ArenaId.{ArenaId}, refusal.Refusal.{Refusal}, kind.Kind.TheVariants.{Global}}
use Rattle.fm_base.specs.Arenas.{are_one, only_caller, State, Arena, Alive, Closing, Ended, arena_of, has_arena, changed, IsUnderWay}
use Rattle.fm_base.specs.Calls.{Enter, Allocate, Leave, Shut, End, Closed, Fine, Given, NoRoom, entry_of}
use Rattle.fm_base.specs.{Machine.{IsPower, reply_to, allocate_reply, entered, left, given_up_to, closing, ended, enter_reply}, Visits.{visit, refused_visit}}
use Rattle.fm_base.specs.{View.{Makes, Did, but_loans}, Does.{DoesAllocate}}
use Rattle.fm_base.proofs.{Lookup.{KeepsName, changed_has, lookup_changed, changed_twice, changed_alike, changed_same}, Making.{Makes-then, Makes-none}}
use Rattle.fm_base.specs.declared.refusal.Refusal.TheVariants as refusal
use Rattle.fm_mono.{specs.Shown.{Arenas, view_of, CanEnter, Allots}, proofs.Alone.{makes_one}}

-- a refused Enter
pub enter_closed : (m : Arenas) (a : ArenaId) → CanEnter m a → (arena_of m.state a).life ≡ Ended → Makes (view_of m) (view_of m) (refused_visit only_caller a)
enter_closed m a c over = makes_one m m (Enter a) Closed (c.known, c.may, c.nowhere) (sym (ap enter_reply over)) refl refl refl

-- ---- allocate

gone : (callers : List Caller) → callers ≡ [] → filter (λ x. not (are_one x only_caller)) callers ≡ callers
gone callers u = rw u refl

-- coming in and going out leaves what is done in between
around_given : (k : ℕ) (a : Arena) → a.under_way ≡ [] → left only_caller (given_up_to k (entered only_caller a)) ≡ given_up_to k a
around_given k a u = ap (λ (w : List Caller). record a { given = k; under_way = w }) (gone a.under_way u)

around_none : (a : Arena) → a.under_way ≡ [] → left only_caller (entered only_caller a) ≡ a
around_none a u = ap (λ (w : List Caller). record a { under_way = w }) (gone a.under_way u)

entered_named : KeepsName (entered only_caller)
entered_named a = refl

module _ (m : Arenas) (a : ArenaId) (c : CanEnter m a) (alive : (arena_of m.state a).life ≡ Alive) where
  abbrev s1 : State
  s1 = changed m.state a (entered only_caller)

  abbrev m1 : Arenas
  m1 = record { limit = m.limit; state = s1; inside = Some a }

  came_in : Makes (view_of m) (view_of m1) (entry_of only_caller (Enter a) Fine ∷ [])
  came_in = makes_one m m1 (Enter a) Fine (c.known, c.may, c.nowhere) (sym (ap enter_reply alive)) refl refl refl

  looked_in : arena_of s1 a ≡ entered only_caller (arena_of m.state a)
  looked_in = lookup_changed m.state a (entered only_caller) entered_named c.known

  way_in : IsUnderWay s1 only_caller a
  way_in = rw looked_in (0, omega arith, refl)

  -- a visit whose Allocate gave a place
  pub visit_given : (n : Arenas) (size align place : ℕ) → IsPower align → Given place ≡ reply_to m.limit m.state (Allocate a size align)
      → n ≡ record m { state = changed m.state a (given_up_to (place + size)) }
      → Makes (view_of m) (view_of n) (visit only_caller a ((Allocate a size align, Given place) ∷ []))
  visit_given n size align place power is e =
      let f = given_up_to (place + size) in
      let named : KeepsName f = λ x. refl in
      let s2 = changed s1 a f in
      let m2 : Arenas = record { limit = m.limit; state = s2; inside = Some a } in
      let has1 : has_arena s1 a ≡ true = changed_has (entered only_caller) entered_named m.state a a ∙ c.known in
      let look2 : arena_of s2 a ≡ f (arena_of s1 a) = lookup_changed s1 a f named has1 in
      let way2 : IsUnderWay s2 only_caller a = rw (look2, looked_in) (0, omega arith, refl) in
      let same : Given place ≡ allocate_reply m.limit (arena_of s1 a).given size align = is
      ∙ ap (λ (x : Arena). allocate_reply m.limit x.given size align) (sym looked_in) in
      let e2 = makes_one m1 m2 (Allocate a size align) (Given place) (way_in, power) same refl refl refl in
      let joined : changed m.state a f ≡ changed s2 a (left only_caller) =
      sym (changed_alike m.state a (λ x. left only_caller (f (entered only_caller x))) f (around_given (place + size) (arena_of m.state a) c.empty))
      ∙ (sym (changed_twice m.state a (entered only_caller) (λ x. left only_caller (f x)) entered_named)
      ∙ sym (changed_twice s1 a f (left only_caller) named)) in
      let e3 = makes_one m2 n (Leave a) Fine way2 refl (ap (λ (x : Arenas). x.state) e ∙ joined) (ap (λ (x : Arenas). x.inside) e
      ∙ c.outside) (ap (λ (x : Arenas). x.limit) e) in
      Makes-then (view_of m) (view_of m2) (view_of n) _ _ (Makes-then (view_of m) (view_of m1) (view_of m2) _ _ came_in e2) e3

  -- a visit whose Allocate found no room
  pub visit_full : (size align given : ℕ) → IsPower align → NoRoom given ≡ reply_to m.limit m.state (Allocate a size align)
      → Makes (view_of m) (view_of m) (visit only_caller a ((Allocate a size align, NoRoom given) ∷ []))
  visit_full size align given power is =
      let same : NoRoom given ≡ allocate_reply m.limit (arena_of s1 a).given size align = is
      ∙ ap (λ (x : Arena). allocate_reply m.limit x.given size align) (sym looked_in) in
      let e2 = makes_one m1 m1 (Allocate a size align) (NoRoom given) (way_in, power) same refl refl refl in
      let joined : m.state ≡ changed s1 a (left only_caller) =
      sym (changed_same m.state a (λ x. left only_caller (entered only_caller x)) (around_none (arena_of m.state a) c.empty))
      ∙ sym (changed_twice m.state a (entered only_caller) (left only_caller) entered_named) in
      let e3 = makes_one m1 m (Leave a) Fine way_in refl joined c.outside refl in
      Makes-then (view_of m) (view_of m1) (view_of m) _ _ (Makes-then (view_of m) (view_of m1) (view_of m1) _ _ came_in e2) e3

  -- what `allocate` does, from what Allocate does
  pub allocates : (n : Arenas) (size align : ℕ) (r : Result ℕ Refusal) → IsPower align → Allots m a size align r n
      → Did (view_of m) (view_of n) (λ own. DoesAllocate only_caller a size align r (but_loans own))
  allocates n size align (Ok place) power h = record {
    own = visit only_caller a ((Allocate a size align, Given place) ∷ []);
    does = (power, c.may, refl);
    makes = visit_given n size align place power h.0 h.1;
  }
  allocates n size align (Err (refusal.NoRoom g)) power h = record {
    own = visit only_caller a ((Allocate a size align, NoRoom g) ∷ []);
    does = (power, c.may, refl);
    makes = rw h.1 (visit_full size align g power h.0);
  }
  allocates n size align (Err refusal.Memory) power h = record { own = []; does = (power, c.may, refl); makes = rw h (Makes-none (view_of m)) }
  allocates n size align (Err r) power h = absurd h

-- ---- close

-- Shut and End of an arena that is alive, where nobody is and nothing holds it
pub closes : (m n : Arenas) (a : ArenaId) → CanEnter m a → ¬ (a.kind ≡ Global) → (arena_of m.state a).life ≡ Alive → (arena_of m.state a).holds ≡ 0
    → n ≡ record m { state = changed m.state a ended }
    → Makes (view_of m) (view_of n) (entry_of only_caller (Shut a) Fine ∷ entry_of only_caller (End a) Fine ∷ [])
closes m n a c kind alive holds e =
    let s1 = changed m.state a closing in
    let m1 : Arenas = record { limit = m.limit; state = s1; inside = m.inside } in
    let named : KeepsName closing = λ x. refl in
    let look1 : arena_of s1 a ≡ closing (arena_of m.state a) = lookup_changed m.state a closing named c.known in
    let life1 : (arena_of s1 a).life ≡ Closing = ap (λ (x : Arena). x.life) look1 in
    let way1 : (arena_of s1 a).under_way ≡ [] = ap (λ (x : Arena). x.under_way) look1 ∙ c.empty in
    let e1 = makes_one m m1 (Shut a) Fine (c.known, c.may, kind) (rw (alive, holds) refl) refl refl refl in
    let e2 = makes_one m1 n (End a) Fine (life1, way1) refl (ap (λ (x : Arenas). x.state) e
    ∙ sym (changed_twice m.state a closing ended named)) (ap (λ (x : Arenas). x.inside) e) (ap (λ (x : Arenas). x.limit) e) in
    Makes-then (view_of m) (view_of m1) (view_of n) _ _ e1 e2

-- a Shut of an arena that has ended
pub shut_closed : (m : Arenas) (a : ArenaId) → CanEnter m a → ¬ (a.kind ≡ Global) → (arena_of m.state a).life ≡ Ended
    → Makes (view_of m) (view_of m) (entry_of only_caller (Shut a) Closed ∷ [])
shut_closed m a c kind over = makes_one m m (Shut a) Closed (c.known, c.may, kind) (rw over refl) refl refl refl
