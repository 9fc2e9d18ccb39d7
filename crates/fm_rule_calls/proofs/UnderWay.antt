-- Nobody is under way in an arena that has ended.
use Rattle.std.{proofs.Common.{◌≡◌, ◌≢◌, ℕ, Bool, true, false, List, [], ◌∷◌, refl, ap, ◌∙◌, subst, filter, not, arith}, specs.Prelude.{Contains}}
use Rattle.fm_base.specs.{declared.{caller.Caller.{Caller}, arena_id.ArenaId.{ArenaId}}, Arenas.{Ended, State, Arena, IsUnderWay, are_one, arena_of, has_arena}}
use Rattle.fm_base.specs.Calls.{Call, Open, Enter, Write, SwapIf, Add, Allocate, Leave, Hold, Unhold, Shut, End, Reply, Fine, Closed, Found, Given, Entry}
use Rattle.fm_base.specs.{Machine.{MayCall, reply_to, enter_reply, change_of, after}, Histories.{IsLegal, state_after}}
use Rattle.fm_base.proofs.Lookup.{Becomes, made_known, arena_of-none}

-- nobody is under way in it, if it has ended
abbrev IsEmptyOver : Arena → Type 0
IsEmptyOver a = a.life ≡ Ended → a.under_way ≡ []

-- what a legal call makes of the arena that it opens or alters
empty_by : (limit : ℕ) (s : State) (c : Caller) (call : Call) (reply : Reply) → MayCall s c call → reply ≡ reply_to limit s call
    → Becomes IsEmptyOver s (change_of limit c call reply)
empty_by limit s c (Open id) reply may is = λ e. absurd (cc)
empty_by limit s c (Enter id) Fine may is = λ o e. let no : Fine ≡ Closed = is ∙ ap enter_reply e in absurd (cc)
empty_by limit s c (Write id word value) reply may is = λ o. o
empty_by limit s c (SwapIf id word old new) (Found found) may is = λ o. o
empty_by limit s c (Add id word n) (Found found) may is = λ o. o
empty_by limit s c (Allocate id size align) (Given place) may is = λ o. o
empty_by limit s c (Leave id) reply may is = λ o e. ap (λ (xs : List Caller). filter (λ x. not (are_one x c)) xs) (o e)
empty_by limit s c (Hold id) Fine may is = λ o. o
empty_by limit s c (Unhold id) reply may is = λ o. o
empty_by limit s c (Shut id) Fine may is = λ o e. absurd (cc)
empty_by limit s c (End id) reply may is = λ o e. may.1
empty_by limit s c call reply may is = tt

empty_after : (limit : ℕ) (s : State) (es : List Entry) → IsLegal limit s es → ((id : ArenaId) → has_arena s id ≡ true → IsEmptyOver (arena_of s id))
    → (id : ArenaId) → has_arena (state_after limit s es) id ≡ true → IsEmptyOver (arena_of (state_after limit s es) id)
empty_after limit s [] l w id h = w id h
empty_after limit s (e ∷ es) l w id h =
    let next : (o : ArenaId) → has_arena (after limit s e) o ≡ true → IsEmptyOver (arena_of (after limit s e) o) = λ o k.
    made_known IsEmptyOver s (change_of limit e.caller e.call e.reply) (empty_by limit s e.caller e.call e.reply l.0 l.1) o (w o) k in
    empty_after limit (after limit s e) es l.2 next id h

-- An arena that a caller is under way in hasn't ended.
pub stands_under_way : (limit : ℕ) (h : List Entry) → IsLegal limit [] h → (c : Caller) (id : ArenaId) → IsUnderWay (state_after limit [] h) c id
    → (arena_of (state_after limit [] h) id).life ≢ Ended
stands_under_way limit h l c id u e = none (empty (has_arena s id) refl)
  where
    s : State
    s = state_after limit [] h

    none : (arena_of (state_after limit [] h) id).under_way ≡ [] → ⊥
    none q = let k : Contains [] c = subst (λ (xs : List Caller). Contains xs c) q u in absurd (let b = k.1 in omega arith)

    empty : (b : Bool) → has_arena (state_after limit [] h) id ≡ b → (arena_of (state_after limit [] h) id).under_way ≡ []
    empty true q = empty_after limit [] h l (λ o k. absurd (cc)) id q e
    empty false q = ap (λ (a : Arena). a.under_way) (arena_of-none (state_after limit [] h) id q)
