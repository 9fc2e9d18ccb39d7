-- Words that are only claimed.
use Rattle.std.proofs.Common.{◌≡◌, ◌≢◌, ℕ, ◌<◌, ◌==◌, Bool, true, false, if◌then◌else◌, List, [], ◌∷◌, length, slice_index, slice_set, refl, ap, sym, ◌∙◌, subst, inl, inr, ◌⊎◌, arith}
use Rattle.std.{specs.{List.{AllByRecursion}}, proofs.lemmas.{Bool.Decides.{nat_tests}, List.{get_or-set_same}}}
use Rattle.fm_base.specs.{declared.{caller.Caller.{Caller}, arena_id.ArenaId.{ArenaId}}, Arenas.{State, Arena, same_id, word_in}}
use Rattle.fm_base.specs.Calls.{Call, Write, SwapIf, Add, Reply, Found, Entry}
use Rattle.fm_base.specs.{Machine.{MayCall, reply_to, state_by, after, swapped}, Histories.{IsLegal, state_after}}
use Rattle.fm_base.proofs.{Lookup.{lookup_changed}, Names.{same_id-true, same_id-self}, Placing.{there_by_way}}
use Rattle.fm_base.specs.Counting.{LeavesWord}
use Rattle.fm_base_laws.{specs.Claims.{ClaimedBySome, ClaimsStand, OnlyClaims, claimed_as, claims_by}, proofs.Left.{still}}

-- the call tries to claim the word
abbrev IsClaimOf : ArenaId → ℕ → Call → Type 0
IsClaimOf id word call = (new : ℕ) × (call ≡ SwapIf id word 0 new) × (new ≢ 0)

-- A call that only claims leaves the word, or tries to claim it.
leaves_or_claims : (id : ArenaId) (word : ℕ) (call : Call) → OnlyClaims id word call → LeavesWord id word call ⊎ IsClaimOf id word call
leaves_or_claims id word (Write a w v) only = inl only
leaves_or_claims id word (SwapIf a w old new) only =
    let Q : Type 0 = ¬ ((a ≡ id) × (w ≡ word)) ⊎ IsClaimOf id word (SwapIf a w old new) in
    let P : Bool → Type 0 = λ b. same_id a id ≡ b → Q in
    let R : Bool → Type 0 = λ d. (w == word) ≡ d → same_id a id ≡ true → Q in
    let here : (d : Bool) → R d = λ d. elim d as R [
      | true ↦ (λ t e.
          let at : w ≡ word = grind (arith, nat_tests) in
          let same = same_id-true a id e in
          let claim = only (same, at) in
          inr (new, ap (λ (i : ArenaId). SwapIf i w old new) same ∙ ap (λ v. SwapIf id v old new) at ∙ ap (λ v. SwapIf id word v new) claim.0, claim.1))
      | false ↦ (λ t e. let off : w ≢ word = grind (arith, nat_tests) in inl (λ both. off both.1))
    ] in
    let go : (b : Bool) → P b = λ b. elim b as P [
      | true ↦ (λ e. here (w == word) refl e)
      | false ↦ (λ e. inl (λ both. let self : same_id a id ≡ true = ap (λ (i : ArenaId). same_id a i) (sym both.0) ∙ same_id-self a in absurd (cc)))
    ] in
    go (same_id a id) refl
leaves_or_claims id word (Add a w n) only = inl only
leaves_or_claims id word call only = inl tt

set_where : (b : Bool) (words : List ℕ) (word new : ℕ) → word < length words
    → slice_index (if b then slice_set words word new else words) word ≡ (if b then new else slice_index words word)
set_where true words word new within = get_or-set_same words word new 0 within
set_where false words word new within = refl

-- A try to claim this word.
tried : (limit : ℕ) (s : State) (c : Caller) (reply : Reply) (id : ArenaId) (word new : ℕ) → MayCall s c (SwapIf id word 0 new)
    → reply ≡ reply_to limit s (SwapIf id word 0 new)
    → word_in (state_by limit s c (SwapIf id word 0 new) reply) id word ≡ claimed_as (word_in s id word) new
tried limit s c (Found found) id word new may is =
    let was : found ≡ word_in s id word = cc in
    ap (λ (a : Arena). slice_index a.words word) (lookup_changed s id (swapped word 0 new found) (λ a. refl) (there_by_way s c id may.under_way))
    ∙ set_where (found == 0) _ word new may.within ∙ ap (λ m. if m == 0 then new else word_in s id word) was
tried limit s c reply id word new may is = let no : reply ≡ Found (word_in s id word) = is in absurd (cc)

tried_by : (limit : ℕ) (s : State) (e : Entry) (id : ArenaId) (word new : ℕ) → MayCall s e.caller e.call → e.reply ≡ reply_to limit s e.call
    → e.call ≡ SwapIf id word 0 new → word_in (after limit s e) id word ≡ claimed_as (word_in s id word) new
tried_by limit s e id word new may is call =
    let may' : MayCall s e.caller (SwapIf id word 0 new) = subst (λ (k : Call). MayCall s e.caller k) call may in
    let is' : e.reply ≡ reply_to limit s (SwapIf id word 0 new) = is ∙ ap (reply_to limit s) call in
    ap (λ (k : Call). word_in (state_by limit s e.caller k e.reply) id word) call ∙ tried limit s e.caller e.reply id word new may' is'

as_found : (found new : ℕ) → found ≢ 0 → claimed_as found new ≡ found
as_found found new some = let other : (found == 0) ≡ false = grind (arith, nat_tests) in rw other refl

-- So a claim stays over one entry.
claim_still : (limit : ℕ) (s : State) (e : Entry) (id : ArenaId) (word : ℕ) → MayCall s e.caller e.call → e.reply ≡ reply_to limit s e.call
    → OnlyClaims id word e.call → word_in s id word ≢ 0 → word_in (after limit s e) id word ≡ word_in s id word
claim_still limit s e id word may is only some = elim (leaves_or_claims id word e.call only) [
  | inl leaves ↦ still limit s e id word leaves
  | inr claim ↦ tried_by limit s e id word claim.0 may is claim.1 ∙ as_found (word_in s id word) claim.0 some
]

-- and over all.
pub claim_stays : (limit : ℕ) (s : State) (es : List Entry) (id : ArenaId) (word : ℕ) → IsLegal limit s es
    → AllByRecursion (λ e. OnlyClaims id word e.call) es → word_in s id word ≢ 0 → word_in (state_after limit s es) id word ≡ word_in s id word
claim_stays limit s [] id word legal only some = refl
claim_stays limit s (e ∷ es) id word legal only some =
    let one = claim_still limit s e id word legal.0 legal.1 only.0 some in
    claim_stays limit (after limit s e) es id word legal.2 only.1 (λ none. some (sym one ∙ none)) ∙ one

claimed_some : (found new : ℕ) → new ≢ 0 → claimed_as found new ≢ 0
claimed_some found new some = go (found == 0) refl
  where
    go : (b : Bool) → (found == 0) ≡ b → (if b then new else found) ≢ 0
    go true e = some
    go false e = λ none. let other : found ≢ 0 = grind (arith, nat_tests) in other none

-- What was found or put stands.
pub claims_stand : ClaimsStand
claims_stand limit s [] id word legal only = tt
claims_stand limit s (e ∷ es) id word legal only = (
  λ new found call reply.
      let is : Found found ≡ Found (word_in s id word) = sym reply ∙ legal.1 ∙ ap (reply_to limit s) call in
      let same : found ≡ word_in s id word = cc in
      let some : new ≢ 0 = (subst (OnlyClaims id word) call only.0 (refl, refl)).1 in
      let one = tried_by limit s e id word new legal.0 legal.1 call in
      let stays = claim_stays limit (after limit s e) es id word legal.2 only.1 (λ none. claimed_some (word_in s id word) new some (sym one ∙ none)) in
      stays ∙ one ∙ ap (λ m. claimed_as m new) (sym same),
  claims_stand limit (after limit s e) es id word legal.2 only.1,
)

-- ---- claimed by one of them

claimed_here : (id : ArenaId) (word new found : ℕ) → found ≡ 0 → claims_by id word (SwapIf id word 0 new) (Found found) ≡ 1
claimed_here id word new found none =
    let at : (word == word) ≡ true = grind (arith, nat_tests) in
    let zero_there : (found == 0) ≡ true = grind (arith, nat_tests) in
    rw (same_id-self id, at, zero_there) refl

pub claimed_by_some : ClaimedBySome
claimed_by_some limit s [] id word legal only none some = absurd (some none)
claimed_by_some limit s (e ∷ es) id word legal only none some = elim (leaves_or_claims id word e.call only.0) [
  | inl leaves ↦ (
      let rest = claimed_by_some limit (after limit s e) es id word legal.2 only.1 (still limit s e id word leaves ∙ none) some in
      omega (arith, rest))
  | inr claim ↦ (
      let is : e.reply ≡ Found (word_in s id word) = legal.1 ∙ ap (reply_to limit s) claim.1 in
      let one : claims_by id word e.call e.reply ≡ 1 =
      ap (λ (k : Call). claims_by id word k e.reply) claim.1 ∙ ap (λ (r : Reply). claims_by id word (SwapIf id word 0 claim.0) r) is
      ∙ claimed_here id word claim.0 (word_in s id word) none in
      omega (arith, one))
]
