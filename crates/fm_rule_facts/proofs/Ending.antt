-- An arena that is over gives no more bytes, so its count says for good which of its words have a given byte.
use Rattle.std.proofs.Common.{◌≡◌, ◌⊎◌, ℕ, ◌+◌, ◌*◌, ◌/◌, ◌%◌, ◌<◌, ◌≤◌, true, List, [], ◌∷◌, ◌++◌, refl, ap, ◌∙◌, subst, arith, inl, inr, mul_comm}
use Rattle.std.{specs.Prelude.{⊤, Contains}, proofs.Math.Nat.{div-add-mod, mod-lt}}
use Rattle.fm_base.specs.{declared.{caller.Caller.{Caller}, arena_id.ArenaId.{ArenaId}}, Arenas.{State, Arena, has_arena, arena_of}}
use Rattle.fm_base.specs.Calls.{Call, Enter, Write, SwapIf, Add, Allocate, Leave, Hold, Unhold, Shut, End, Reply, Fine, Found, Given, Entry}
use Rattle.fm_base.specs.{Machine.{MayCall, Change, Opens, Alters, Rests, made, change_of, after}, Histories.{IsLegal, state_after}}
use Rattle.fm_base.proofs.{Lookup.{changed_lookup, arena_of-append}, Making.{state_after-append, IsLegal-split}, Growing.{IsOver, Grows-after}}

GivesNoMore : Arena → Arena → Type 0
GivesNoMore a b = IsOver a → b.given ≡ a.given

abbrev GivesNoneBy : State → Change → Type 0
GivesNoneBy s (Opens o) = ⊤
GivesNoneBy s (Alters id f named) = GivesNoMore (arena_of s id) (f (arena_of s id))
GivesNoneBy s Rests = ⊤

-- only who is under way is given bytes
none_given : (limit : ℕ) (s : State) (c : Caller) (call : Call) (reply : Reply) → MayCall s c call → GivesNoneBy s (change_of limit c call reply)
unfolding GivesNoMore
none_given limit s c (Enter id) Fine may = λ o. refl
none_given limit s c (Write id word value) reply may = λ o. refl
none_given limit s c (SwapIf id word old new) (Found found) may = λ o. refl
none_given limit s c (Add id word n) (Found found) may = λ o. refl
none_given limit s c (Allocate id size align) (Given place) may =
    λ o. absurd (let h = (subst (λ (ks : List Caller). Contains ks c) o.empty may.0).1 in omega arith)
none_given limit s c (Leave id) reply may = λ o. refl
none_given limit s c (Hold id) Fine may = λ o. refl
none_given limit s c (Unhold id) reply may = λ o. refl
none_given limit s c (Shut id) Fine may = λ o. refl
none_given limit s c (End id) reply may = λ o. refl
none_given limit s c call reply may = tt

given_still : (s : State) (h : Change) → GivesNoneBy s h → (id : ArenaId) → has_arena s id ≡ true → IsOver (arena_of s id)
    → (arena_of (made h s) id).given ≡ (arena_of s id).given
unfolding GivesNoMore
given_still s (Opens o) t id there w = ap (λ (a : Arena). a.given) (arena_of-append s (o ∷ []) id there)
given_still s (Alters other f named) t id there w = changed_lookup GivesNoMore f named (λ a o. refl) s other t id w
given_still s Rests t id there w = refl

-- its count stands after any legal entries
given_after : (limit : ℕ) (s : State) (es : List Entry) → IsLegal limit s es → (id : ArenaId) → has_arena s id ≡ true → IsOver (arena_of s id)
    → (arena_of (state_after limit s es) id).given ≡ (arena_of s id).given
given_after limit s [] l id there o = refl
given_after limit s (e ∷ es) l id there o =
    let g = Grows-after limit s e l.0 l.1 in
    given_after limit (after limit s e) es l.2 id (g.has id there) (g.over id there o)
    ∙ given_still s (change_of limit e.caller e.call e.reply) (none_given limit s e.caller e.call e.reply l.0) id there o

-- where the history goes on, it has given as much
pub given_later : (limit : ℕ) (h more : List Entry) (id : ArenaId) → IsLegal limit [] (h ++ more) → has_arena (state_after limit [] h) id ≡ true
    → IsOver (arena_of (state_after limit [] h) id) → (arena_of (state_after limit [] (h ++ more)) id).given ≡ (arena_of (state_after limit [] h) id).given
given_later limit h more id l there o =
    ap (λ (s : State). (arena_of s id).given) (state_after-append limit [] h more)
    ∙ given_after limit (state_after limit [] h) more (IsLegal-split limit [] h more l).1 id there o

-- all words of the part that have a given byte are among the first so many of its page, where these are all its words, or go up to the count
pub all_given : (size given index words word : ℕ) → 0 < size → (words ≡ size) ⊎ (given ≤ 8 * (index * size + words)) → word / size ≡ index → 8 * word < given
    → word % size < words
all_given size given index words word some (inl e) part low = let h = mod-lt word some in omega arith
all_given size given index words word some (inr h) part low =
    let is : size * (word / size) + word % size ≡ word = div-add-mod word size in
    let same : size * (word / size) ≡ index * size = ap (λ (n : ℕ). size * n) part ∙ mul_comm size index in
    let x : ℕ = size * (word / size) in
    let y : ℕ = index * size in
    let first : x ≡ y = same in
    let whole : x + word % size ≡ word = is in
    let most : given ≤ 8 * (y + words) = h in omega arith
