-- What a caller's lines made is known to whoever has seen their entries.
use Rattle.std.proofs.Common.{◌≡◌, ℕ, ◌+◌, ◌≤◌, true, List, [], ◌∷◌, refl, sym, ap, ◌∙◌, subst, arith, inl, inr}
use Rattle.fm_base.specs.{declared.arena_id.ArenaId.{ArenaId}, Arenas.{State, has_arena, arena_of as arena_in, IsUnderWay}}
use Rattle.fm_base.specs.{Calls.{Call, Entry, Open, Allocate, Given}, Histories.{IsLegal, state_after}, Machine.{MayCall, after, state_by, opened, given_up_to}}
use Rattle.fm_base.proofs.{Growing.{Grows-state_after}, Lookup.{changed_has, has_arena-opened, lookup_changed}, Placing.{there_by_way}}
use Rattle.fm_base_lists.specs.Among.{IsAmong}

module _ (limit : ℕ) where
  opened_now : (s : State) (x : Entry) (id : ArenaId) → x.call ≡ Open id → has_arena (after limit s x) id ≡ true
  opened_now s x id is = subst (λ (c : Call). has_arena (state_by limit s x.caller c x.reply) id ≡ true) (sym is) (has_arena-opened s (opened limit id))

  -- An arena that was opened in a history is there.
  pub opened_there : (s : State) (es : List Entry) (e : Entry) (id : ArenaId) → IsLegal limit s es → IsAmong e es → e.call ≡ Open id
      → has_arena (state_after limit s es) id ≡ true
  opened_there s [] e id l among call = elim among [ ]
  opened_there s (x ∷ es) e id l (inl is) call =
      let next = after limit s x in
      (Grows-state_after limit next es l.2).has id (opened_now s x id (ap (λ (y : Entry). y.call) (sym is) ∙ call))
  opened_there s (x ∷ es) e id l (inr i) call = opened_there (after limit s x) es e id l.2 i call

  -- the arena is there, and has given as much
  pub record HasGiven (s : State) (id : ArenaId) (end : ℕ) : Type 0 where
    pub there : has_arena s id ≡ true
    pub given : end ≤ (arena_in s id).given

  given_now : (s : State) (x : Entry) (id : ArenaId) (size align place : ℕ) → MayCall s x.caller x.call → x.call ≡ Allocate id size align
      → x.reply ≡ Given place → HasGiven (after limit s x) id (place + size)
  given_now s x id size align place may call reply =
      let way : IsUnderWay s x.caller id = (subst (λ (c : Call). MayCall s x.caller c) call may).0 in
      let there = there_by_way s x.caller id way in
      let f = given_up_to (place + size) in
      subst (λ (t : State). HasGiven t id (place + size)) (λ i. state_by limit s x.caller (sym call i) (sym reply i))
      (record {
        there = changed_has f (λ a. refl) s id id ∙ there;
        given = let g = ap (λ a. a.given) (lookup_changed s id f (λ a. refl) there) in omega (arith, g);
      })

  -- Bytes that were given in a history are given.
  pub given_there : (s : State) (es : List Entry) (e : Entry) (id : ArenaId) (size align place : ℕ) → IsLegal limit s es → IsAmong e es
      → e.call ≡ Allocate id size align → e.reply ≡ Given place → HasGiven (state_after limit s es) id (place + size)
  given_there s [] e id size align place l among call reply = elim among [ ]
  given_there s (x ∷ es) e id size align place l (inl is) call reply =
      let next = after limit s x in
      let now = given_now s x id size align place l.0 (ap (λ (y : Entry). y.call) (sym is) ∙ call) (ap (λ (y : Entry). y.reply) (sym is) ∙ reply) in
      let g = Grows-state_after limit next es l.2 in
      record {
        there = g.has id now.there;
        given = let a = now.given in let b = g.given id in omega (arith, a, b);
      }
  given_there s (x ∷ es) e id size align place l (inr i) call reply = given_there (after limit s x) es e id size align place l.2 i call reply
