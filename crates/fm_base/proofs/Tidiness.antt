-- Bytes past the given count, in legal and tidy histories.
use Rattle.std.proofs.Common.{◌≡◌, ◌≢◌, ℕ, zero, suc, ◌+◌, ◌/◌, ◌%◌, ◌^◌, ◌<◌, ◌≤◌, ◌==◌, Bool, true, false, if◌then◌else◌, List, [], ◌∷◌, length, replicate, slice_index, slice_set, refl, ap, sym, ◌∙◌, subst, arith, eqb-true}
use Rattle.std.proofs.lemmas.{List.{get_or-set_same, get_or-set_other}, Bool.Decides.{nat_tests}}
use Rattle.fm_base_bytes.specs.Words.{byte_of, byte_at}
use Rattle.fm_base.specs.{declared.{caller.Caller.{Caller}, arena_id.ArenaId.{ArenaId}}, Arenas.{State, Arena, arena_of, no_arena, word_in}}
use Rattle.fm_base.specs.Calls.{Call, Open, Enter, Write, SwapIf, Add, Allocate, Leave, Hold, Unhold, Shut, End, Reply, Fine, Found, Given, Entry, entry_of}
use Rattle.fm_base.specs.Machine.{MayCall, reply_to, change_of, after, opened, written, words_within}
use Rattle.fm_base.specs.{Histories.{IsLegal, state_after, DifferBelow, IsTidyIn, IsTidy}, Lasting.{ZeroPastGiven, GivesZeros}}
use Rattle.fm_base.proofs.{Lookup.{Relates, made_lookup}, Making.{IsLegal-split}, Growing.{given_is, le-rounded_up, power_pos}}

-- every byte of the arena at or past its given count is 0
abbrev pub IsZeroPast : Arena → Type 0
IsZeroPast a = (place : ℕ) → a.given ≤ place → byte_at a.words place ≡ 0

-- words of zeros
pub zeros_at : (n i : ℕ) → slice_index (replicate n 0) i ≡ 0
zeros_at zero i = refl
zeros_at (suc n) zero = refl
zeros_at (suc n) (suc i) = zeros_at n i

zero_byte : (at : ℕ) → byte_of 0 at ≡ 0
zero_byte at = grind arith

opened_zero : (limit : ℕ) (id : ArenaId) → IsZeroPast (opened limit id)
opened_zero limit id place h =
    ap (λ w. byte_of w (place % 8)) (zeros_at (words_within limit) (place / 8)) ∙ zero_byte (place % 8)

-- a word that differs only below the given count leaves the bytes past it
written_zero : (a : Arena) (word value : ℕ) → word < length a.words → DifferBelow a.given word (slice_index a.words word) value → IsZeroPast a
    → IsZeroPast (written word value a)
written_zero a word value l d z place h =
    let P : Bool → Type 0 = λ b. (place / 8 == word) ≡ b → byte_at (slice_set a.words word value) place ≡ 0 in
    let go : (b : Bool) → P b = λ b. elim b as P [
      | true ↦ (λ e.
          let here : place / 8 ≡ word = eqb-true (place / 8) word e in
          let new : slice_index (slice_set a.words word value) (place / 8) ≡ value = rw here (get_or-set_same a.words word value 0 l) in
          let was : byte_of (slice_index a.words word) (place % 8) ≡ 0 = ap (λ (w : ℕ). byte_of (slice_index a.words w) (place % 8)) (sym here) ∙ z place h in
          ap (λ w. byte_of w (place % 8)) new ∙ (d (place % 8) (omega arith) (omega arith) ∙ was))
      | false ↦ (λ e.
          let other : place / 8 ≢ word = grind (arith, nat_tests) in
          ap (λ w. byte_of w (place % 8)) (get_or-set_other a.words word (place / 8) value 0 other) ∙ z place h)
    ] in
    go (place / 8 == word) refl

KeepsZero : Arena → Arena → Type 0
KeepsZero a b = IsZeroPast a → IsZeroPast b

same_zero : (a : Arena) → KeepsZero a a
unfolding KeepsZero
same_zero a z = z

-- a tidy call leaves the bytes past the given count
zero_by : (limit : ℕ) (s : State) (c : Caller) (call : Call) (reply : Reply) → MayCall s c call → reply ≡ reply_to limit s call → IsTidyIn s call
    → Relates KeepsZero s (change_of limit c call reply)
unfolding KeepsZero
zero_by limit s c (Open id) reply may is t = λ z. opened_zero limit id
zero_by limit s c (Enter id) Fine may is t = λ z. z
zero_by limit s c (Write id word value) reply may is t = written_zero (arena_of s id) word value may.within t
zero_by limit s c (SwapIf id word old new) (Found found) may is t =
    let a = arena_of s id in
    let P : Bool → Type 0 = λ b. (found == old) ≡ b → IsZeroPast a → IsZeroPast (record a { words = if b then slice_set a.words word new else a.words }) in
    let go : (b : Bool) → P b = λ b. elim b as P [
      | true ↦ (λ e.
          let at : found ≡ old = eqb-true found old e in
          let now : found ≡ word_in s id word = cc in
          written_zero a word new may.within (subst (λ (x : ℕ). DifferBelow a.given word x new) (sym at ∙ now) (t (sym now ∙ at))))
      | false ↦ (λ e z. z)
    ] in
    go (found == old) refl
zero_by limit s c (Add id word n) (Found found) may is t =
    let now : found ≡ word_in s id word = cc in
    written_zero (arena_of s id) word ((found + n) % 2 ^ 64) may.within
    (subst (λ (x : ℕ). DifferBelow (arena_of s id).given word (word_in s id word) ((x + n) % 2 ^ 64)) (sym now) t)
zero_by limit s c (Allocate id size align) (Given place) may is t =
    let g = given_is limit (arena_of s id).given size align place is in
    let up = le-rounded_up (arena_of s id).given align (power_pos align may.1) in
    let more : (arena_of s id).given ≤ place + size = (let p = g.rounded in omega arith) in
    λ z p h. z p (omega arith)
zero_by limit s c (Leave id) reply may is t = λ z. z
zero_by limit s c (Hold id) Fine may is t = λ z. z
zero_by limit s c (Unhold id) reply may is t = λ z. z
zero_by limit s c (Shut id) Fine may is t = λ z. z
zero_by limit s c (End id) reply may is t = λ z. z
zero_by limit s c call reply may is t = tt

zero_still : (limit : ℕ) (s : State) (e : Entry) → MayCall s e.caller e.call → e.reply ≡ reply_to limit s e.call → IsTidyIn s e.call → (other : ArenaId)
    → IsZeroPast (arena_of s other) → IsZeroPast (arena_of (after limit s e) other)
unfolding KeepsZero
zero_still limit s e may is t other z =
    made_lookup KeepsZero same_zero s (change_of limit e.caller e.call e.reply) (zero_by limit s e.caller e.call e.reply may is t) other z

-- a legal and tidy history leaves the bytes past the given counts
pub zero_after : (limit : ℕ) (s : State) (es : List Entry) → IsLegal limit s es → IsTidy limit s es → ((id : ArenaId) → IsZeroPast (arena_of s id))
    → (id : ArenaId) → IsZeroPast (arena_of (state_after limit s es) id)
zero_after limit s [] l t z id = z id
zero_after limit s (e ∷ es) l t z id =
    zero_after limit (after limit s e) es l.2 t.1 (λ o. zero_still limit s e l.0 l.1 t.0 o (z o)) id

none_past : (id : ArenaId) → IsZeroPast (no_arena id)
none_past id place h = zero_byte (place % 8)

pub zero_past : ZeroPastGiven
zero_past limit h l t id place g = zero_after limit [] h l t none_past id place g

pub zeros_given : GivesZeros
zeros_given limit h c id size align place l t at up =
    let parts = IsLegal-split limit [] h (entry_of c (Allocate id size align) (Given place) ∷ []) l in
    let given = (arena_of (state_after limit [] h) id).given in
    let g = given_is limit given size align place parts.1.1 in
    let above = le-rounded_up given align (power_pos align parts.1.0.1) in
    zero_past limit h parts.0 t id at (let p = g.rounded in omega arith)

-- ---- what a caller may say without the state
