-- Bytes that no entry of a history changes, what Reads find there, and arenas that no entry closes.
use Rattle.std.proofs.Common.{◌≡◌, ◌≢◌, ℕ, ◌+◌, ◌/◌, ◌%◌, ◌^◌, ◌<◌, ◌==◌, Bool, true, false, if◌then◌else◌, List, [], ◌∷◌, refl, ap, sym, ◌∙◌, subst, arith, slice_index, slice_set, length}
use Rattle.std.{specs.{Prelude.{⊤}, List.{AllByRecursion}}, proofs.lemmas.{Bool.{eqb-true, Decides.{nat_tests}}, List.{get_or-set_same, get_or-set_other}}}
use Rattle.fm_base_bytes.specs.Words.{byte_of, byte_at}
use Rattle.fm_base.specs.{declared.{caller.Caller.{Caller}, arena_id.ArenaId.{ArenaId}}, Arenas.{State, Arena, arena_of, has_arena, word_in}}
use Rattle.fm_base.specs.Calls.{Call, Open, Enter, Write, SwapIf, Add, Allocate, Leave, Hold, Unhold, Shut, End, Reply, Fine, Found, Given, Entry}
use Rattle.fm_base.specs.Machine.{MayCall, reply_to, enter_reply, Change, Opens, Alters, Rests, made, change_of, after, words_within}
use Rattle.fm_base.{specs.Untouched.{Spares, SparedStays, FindsByte, SparedIsFound, LeavesOpen, StaysAlive}, proofs.Growing.{Grows-after}}
use Rattle.fm_base.proofs.{Lookup.{Relates, Same, made_lookup, changed_lookup, arena_of-append, arena_of-id}, Tidiness.{zeros_at}}

-- ---- bytes

-- A byte of a list of words in which one is put.
pub put_at : (words : List ℕ) (word v place : ℕ) → word < length words
    → byte_at (slice_set words word v) place ≡ (if word == place / 8 then byte_of v (place % 8) else byte_at words place)
put_at words word v place within =
    let P : Bool → Type 0 = λ b. (word == place / 8) ≡ b
    → byte_at (slice_set words word v) place ≡ (if b then byte_of v (place % 8) else byte_at words place) in
    let go : (b : Bool) → P b = λ b. elim b as P [
      | true ↦ (λ e.
          let here : word ≡ place / 8 = grind (arith, nat_tests) in
          ap (λ n. byte_of n (place % 8)) (ap (λ n. slice_index (slice_set words word v) n) (sym here) ∙ get_or-set_same words word v 0 within))
      | false ↦ (λ e.
          let other : place / 8 ≢ word = grind (arith, nat_tests) in
          ap (λ n. byte_of n (place % 8)) (get_or-set_other words word (place / 8) v 0 other))
    ] in
    go (word == place / 8) refl

-- A word is put that leaves the byte.
put_byte : (words : List ℕ) (word v place : ℕ) → word < length words → (word ≡ place / 8 → byte_of v (place % 8) ≡ byte_at words place)
    → byte_at (slice_set words word v) place ≡ byte_at words place
put_byte words word v place within same = put_at words word v place within ∙ go (word == place / 8) (λ e. same (eqb-true word (place / 8) e))
  where
    go : (b : Bool) → (b ≡ true → byte_of v (place % 8) ≡ byte_at words place)
        → (if b then byte_of v (place % 8) else byte_at words place) ≡ byte_at words place
    go true h = h refl
    go false h = refl

-- A call that spares the byte leaves it.
byte_by : (limit : ℕ) (s : State) (c : Caller) (call : Call) (reply : Reply) (id : ArenaId) (place : ℕ) → MayCall s c call → reply ≡ reply_to limit s call
    → Spares id place call
    → Relates (Same (λ a. byte_at a.words place) id) s (change_of limit c call reply)
unfolding Same
byte_by limit s c (Open a) reply id place may is spares = λ e. ap (λ n. byte_of n (place % 8)) (zeros_at (words_within limit) (place / 8))
byte_by limit s c (Enter a) Fine id place may is spares = λ e. refl
byte_by limit s c (Write a word v) reply id place may is spares =
    λ e. put_byte (arena_of s a).words word v place may.within (λ at. absurd (spares (sym (arena_of-id s a) ∙ e, at)))
byte_by limit s c (SwapIf a word old new) (Found found) id place may is spares =
    let words = (arena_of s a).words in
    let P : Bool → Type 0 = λ b. (found == old) ≡ b → (arena_of s a).id ≡ id
    → byte_at (if b then slice_set words word new else words) place ≡ byte_at words place in
    let go : (b : Bool) → P b = λ b. elim b as P [
      | true ↦ (λ t e.
          let same : found ≡ old = grind (arith, nat_tests) in
          let was : found ≡ word_in s a word = cc in
          put_byte words word new place may.within
          (λ at. spares (sym (arena_of-id s a) ∙ e, at) ∙ ap (λ n. byte_of n (place % 8)) (sym same ∙ was ∙ ap (λ n. word_in s a n) at)))
      | false ↦ (λ t e. refl)
    ] in
    go (found == old) refl
byte_by limit s c (Add a word n) (Found found) id place may is spares =
    λ e. put_byte (arena_of s a).words word ((found + n) % 2 ^ 64) place may.within (λ at. absurd (spares (sym (arena_of-id s a) ∙ e, at)))
byte_by limit s c (Allocate a size align) (Given p) id place may is spares = λ e. refl
byte_by limit s c (Leave a) reply id place may is spares = λ e. refl
byte_by limit s c (Hold a) Fine id place may is spares = λ e. refl
byte_by limit s c (Unhold a) reply id place may is spares = λ e. refl
byte_by limit s c (Shut a) Fine id place may is spares = λ e. refl
byte_by limit s c (End a) reply id place may is spares = λ e. refl
byte_by limit s c call reply id place may is spares = tt

-- So it stays where it is looked up.
byte_still : (limit : ℕ) (s : State) (e : Entry) (id : ArenaId) (place : ℕ) → MayCall s e.caller e.call → e.reply ≡ reply_to limit s e.call
    → Spares id place e.call
    → byte_at (arena_of (after limit s e) id).words place ≡ byte_at (arena_of s id).words place
unfolding Same
byte_still limit s e id place may is spares =
    made_lookup (Same (λ a. byte_at a.words place) id) (λ a n. refl) s (change_of limit e.caller e.call e.reply)
    (byte_by limit s e.caller e.call e.reply id place may is spares) id (arena_of-id s id)

-- A byte that all entries spare stays.
pub spared : SparedStays
spared limit s [] id place legal all = refl
spared limit s (e ∷ es) id place legal all = spared limit (after limit s e) es id place legal.2 all.1 ∙ byte_still limit s e id place legal.0 legal.1 all.0

-- Each Read finds it.
pub spared_found : SparedIsFound
spared_found limit s [] id place legal all = tt
spared_found limit s (e ∷ es) id place legal all = (
  λ n call reply.
      let is : Found n ≡ Found (word_in s id (place / 8)) = sym reply ∙ legal.1 ∙ ap (reply_to limit s) call in
      let same : n ≡ word_in s id (place / 8) = cc in
      ap (λ m. byte_of m (place % 8)) same,
  subst (λ (byte : ℕ). AllByRecursion (FindsByte id place byte) es) (byte_still limit s e id place legal.0 legal.1 all.0)
      (spared_found limit (after limit s e) es id place legal.2 all.1),
)

-- ---- arenas

-- the change leaves the life of this arena
abbrev LifeStays : ArenaId → State → Change → Type 0
LifeStays id s (Opens o) = ⊤
LifeStays id s (Alters a f named) = a ≡ id → (f (arena_of s a)).life ≡ (arena_of s a).life
LifeStays id s Rests = ⊤

-- A call that doesn't close the arena is such a change.
life_by : (limit : ℕ) (s : State) (c : Caller) (call : Call) (reply : Reply) (id : ArenaId) → LeavesOpen id call → LifeStays id s (change_of limit c call reply)
life_by limit s c (Enter a) Fine id leaves = λ e. refl
life_by limit s c (Write a word v) reply id leaves = λ e. refl
life_by limit s c (SwapIf a word old new) (Found found) id leaves = λ e. refl
life_by limit s c (Add a word n) (Found found) id leaves = λ e. refl
life_by limit s c (Allocate a size align) (Given p) id leaves = λ e. refl
life_by limit s c (Leave a) reply id leaves = λ e. refl
life_by limit s c (Hold a) Fine id leaves = λ e. refl
life_by limit s c (Unhold a) reply id leaves = λ e. refl
life_by limit s c (Shut a) Fine id leaves = λ e. absurd (leaves e)
life_by limit s c (End a) reply id leaves = λ e. absurd (leaves e)
life_by limit s c call reply id leaves = tt

-- So the arena that is looked up lives as before.
life_still : (s : State) (h : Change) (id : ArenaId) → has_arena s id ≡ true → LifeStays id s h → (arena_of (made h s) id).life ≡ (arena_of s id).life
unfolding Same
life_still s (Opens o) id there stays = ap (λ (x : Arena). x.life) (arena_of-append s (o ∷ []) id there)
life_still s (Alters a f named) id there stays =
    changed_lookup (Same (λ a. a.life) id) f named (λ x e. refl) s a (λ e. stays (sym (arena_of-id s a) ∙ e)) id (arena_of-id s id)
life_still s Rests id there stays = refl

-- An arena that no entry closes stays alive, and everyone comes in.
pub alive : StaysAlive
alive limit s [] id legal there is_alive leave = (is_alive, tt)
alive limit s (e ∷ es) id legal there is_alive leave =
    let h = change_of limit e.caller e.call e.reply in
    let next = life_still s h id there (life_by limit s e.caller e.call e.reply id leave.0) ∙ is_alive in
    let rest = alive limit (after limit s e) es id legal.2 ((Grows-after limit s e legal.0 legal.1).has id there) next leave.1 in
    (rest.0, (λ call. legal.1 ∙ ap (reply_to limit s) call ∙ ap enter_reply is_alive, rest.1))
