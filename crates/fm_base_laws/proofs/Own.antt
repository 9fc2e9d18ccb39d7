-- A byte is what one caller's entries leave, where all others spare it.
use Rattle.std.proofs.Common.{◌≡◌, ◌≢◌, ℕ, ◌+◌, ◌/◌, ◌%◌, ◌^◌, ◌<◌, ◌==◌, Bool, true, false, if◌then◌else◌, cond, [], ◌∷◌, refl, ap, sym, ◌∙◌, subst, arith, length}
use Rattle.fm_base_bytes.specs.Words.{byte_of, byte_at}
use Rattle.fm_base.specs.{declared.{caller.Caller.{Caller}, arena_id.ArenaId.{ArenaId}}, Arenas.{State, Arena, are_one, arena_of, changed, has_arena, same_id}}
use Rattle.fm_base.specs.{Calls.{Call, Write, SwapIf, Add, Reply, Found, entry_of}, Histories.{made_by}}
use Rattle.fm_base.specs.Machine.{MayCall, reply_to, Alters, made, change_of, after, written}
use Rattle.fm_base.proofs.Lookup.{Same, made_lookup, arena_of-id, arena_of-none, lookup_changed, swapped_hit, swapped_miss}
use Rattle.fm_base.proofs.{Names.{same_id-true, same_id-self, are_one-self}, Untouched.{put_at, spared}}
use Rattle.fm_base_laws.specs.Own.{byte_put, byte_left, byte_behind, OwnDecide}

-- ---- one word is put

-- An arena that has a word is there.
there_by_word : (s : State) (a : ArenaId) (word : ℕ) → word < length (arena_of s a).words → has_arena s a ≡ true
there_by_word s a word within =
    let P : Bool → Type 0 = λ b. has_arena s a ≡ b → has_arena s a ≡ true in
    let go : (b : Bool) → P b = λ b. elim b as P [
      | true ↦ (λ e. e)
      | false ↦ (λ e. let bare = ap (λ (x : Arena). length x.words) (arena_of-none s a e) in absurd (omega arith))
    ] in
    go (has_arena s a) refl

-- A change of one arena leaves another.
changed_other : (s : State) (a id : ArenaId) (f : Arena → Arena) (named : (x : Arena) → (f x).id ≡ x.id) → same_id a id ≡ false
    → arena_of (changed s a f) id ≡ arena_of s id
unfolding Same
changed_other s a id f named e =
    made_lookup (Same (λ a. a) id) (λ x n. refl) s (Alters a f named)
    (λ n. let same : a ≡ id = sym (arena_of-id s a) ∙ n in
    let yes = subst (λ (i : ArenaId). same_id a i ≡ true) same (same_id-self a) in absurd (let no : ⊥ = cc in no)) id (arena_of-id s id)

-- A byte of an arena, where the one of the name `a` had its byte altered by `g`.
altered : (s : State) (a id : ArenaId) (f : Arena → Arena) (named : (x : Arena) → (f x).id ≡ x.id) (place : ℕ) (g : ℕ → ℕ)
    → has_arena s a ≡ true → byte_at (f (arena_of s a)).words place ≡ g (byte_at (arena_of s a).words place)
    → byte_at (arena_of (changed s a f) id).words place
    ≡ (if same_id a id then g (byte_at (arena_of s id).words place) else byte_at (arena_of s id).words place)
altered s a id f named place g there is =
    let P : Bool → Type 0 = λ b. same_id a id ≡ b → byte_at (arena_of (changed s a f) id).words place
    ≡ (if b then g (byte_at (arena_of s id).words place) else byte_at (arena_of s id).words place) in
    let go : (b : Bool) → P b = λ b. elim b as P [
      | true ↦ (λ e. subst (λ (i : ArenaId). byte_at (arena_of (changed s a f) i).words place ≡ g (byte_at (arena_of s i).words place))
          (same_id-true a id e) (ap (λ (x : Arena). byte_at x.words place) (lookup_changed s a f named there) ∙ is))
      | false ↦ (λ e. ap (λ (x : Arena). byte_at x.words place) (changed_other s a id f named e))
    ] in
    go (same_id a id) refl

-- A byte once a word was written.
put_word : (s : State) (a id : ArenaId) (word v place : ℕ) → word < length (arena_of s a).words
    → byte_at (arena_of (changed s a (written word v)) id).words place ≡ byte_put id place a word v (byte_at (arena_of s id).words place)
put_word s a id word v place within =
    altered s a id (written word v) (λ x. refl) place (λ byte. if word == place / 8 then byte_of v (place % 8) else byte)
    (there_by_word s a word within) (put_at (arena_of s a).words word v place within)

-- ---- one call

-- the call leaves the byte that is said
Leaves : (limit : ℕ) (s : State) (c : Caller) (call : Call) (reply : Reply) (id : ArenaId) (place : ℕ) → Type 0
Leaves limit s c call reply id place =
    byte_at (arena_of (made (change_of limit c call reply) s) id).words place ≡ byte_left id place call reply (byte_at (arena_of s id).words place)

module _ (limit : ℕ) (s : State) (c : Caller) where
  -- A swap puts the new word where it found the old one.
  swaps : (a : ArenaId) (word old new found : ℕ) (id : ArenaId) (place : ℕ) → word < length (arena_of s a).words
      → Leaves limit s c (SwapIf a word old new) (Found found) id place
  unfolding Leaves
  swaps a word old new found id place within =
      let byte : State → ℕ = λ t. byte_at (arena_of t id).words place in
      let P : Bool → Type 0 = λ b. (found == old) ≡ b
      → byte (made (change_of limit c (SwapIf a word old new) (Found found)) s) ≡ (if b then byte_put id place a word new (byte s) else byte s) in
      let go : (b : Bool) → P b = λ b. elim b as P [
        | true ↦ (λ hit. ap byte (swapped_hit s a word old new found hit) ∙ put_word s a id word new place within)
        | false ↦ (λ miss. ap byte (swapped_miss s a word old new found miss))
      ] in
      go (found == old) refl

  -- Each call leaves the byte that its reply says; one that puts nothing leaves it as it is.
  leaves : (call : Call) (reply : Reply) (id : ArenaId) (place : ℕ) → MayCall s c call → reply ≡ reply_to limit s call
      → Leaves limit s c call reply id place
  unfolding Leaves
  leaves (Write a word v) reply id place may is = put_word s a id word v place may.within
  leaves (SwapIf a word old new) (Found found) id place may is = swaps a word old new found id place may.within
  leaves (SwapIf a word old new) reply id place may is = refl
  leaves (Add a word n) (Found found) id place may is = put_word s a id word ((found + n) % 2 ^ 64) place may.within
  leaves (Add a word n) reply id place may is = refl
  leaves call reply id place may is = spared limit s (entry_of c call reply ∷ []) id place (may, is, tt) (tt, tt)

-- ---- entries in a row

pub own_decide : OwnDecide
unfolding Leaves
own_decide limit s [] c id place legal all = refl
own_decide limit s (e ∷ es) c id place legal all =
    let start = byte_at (arena_of s id).words place in
    let next = byte_at (arena_of (after limit s e) id).words place in
    let rest = own_decide limit (after limit s e) es c id place legal.2 all.1 in
    let P : Bool → Type 0 = λ b. are_one e.caller c ≡ b
    → byte_behind id place (made_by c es) next ≡ byte_behind id place (cond b (e ∷ made_by c es) (made_by c es)) start in
    let go : (b : Bool) → P b = λ b. elim b as P [
      | true ↦ (λ own. ap (byte_behind id place (made_by c es)) (leaves limit s e.caller e.call e.reply id place legal.0 legal.1))
      | false ↦ (λ foreign.
          let other : e.caller ≢ c = λ same.
          let yes = subst (λ (d : Caller). are_one e.caller d ≡ true) same (are_one-self e.caller) in absurd (let no : ⊥ = cc in no) in
          ap (byte_behind id place (made_by c es)) (spared limit s (e ∷ []) id place (legal.0, legal.1, tt) (all.0 other, tt)))
    ] in
    rest ∙ go (are_one e.caller c) refl
