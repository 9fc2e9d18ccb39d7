-- Words that are only added to.
use Rattle.std.proofs.Common.{◌≡◌, ◌≢◌, ℕ, ◌+◌, ◌%◌, ◌^◌, ◌<◌, ◌==◌, ◌&&◌, Bool, true, false, if◌then◌else◌, List, [], ◌∷◌, slice_index, slice_set, refl, ap, sym, ◌∙◌, subst, inl, inr, ◌⊎◌, arith}
use Rattle.std.{specs.{Prelude.{cond, ⊤}, List.{AllByRecursion}}, proofs.lemmas.{Bool.Decides.{nat_tests}, List.{get_or-set_same, get_or-set_other}}}
use Rattle.fm_base_lists.{specs.Among.{IsAmong, AreApart}, proofs.Each.{all_weaker}}
use Rattle.fm_base.specs.{declared.{caller.Caller.{Caller}, arena_id.ArenaId.{ArenaId}}, Arenas.{State, Arena, arena_of, same_id, word_in, are_one}}
use Rattle.fm_base.specs.Calls.{Call, Open, Enter, Write, SwapIf, Add, Allocate, Leave, Hold, Unhold, Shut, End, Reply, Fine, Found, Given, Entry}
use Rattle.fm_base.specs.{Machine.{MayCall, reply_to, change_of, state_by, after, written, words_within}, Histories.{made_by}}
use Rattle.fm_base.specs.Counting.{LeavesWord, adds_to, all_added, OnlyAdds, AddsCount, total, AddsByCallers}
use Rattle.fm_base.proofs.{Lookup.{Relates, Same, made_lookup, lookup_changed, arena_of-id}, Names.{same_id-true, same_id-self, are_one-self, are_one-not}}
use Rattle.fm_base.proofs.{Placing.{there_by_way}, Tidiness.{zeros_at}, Weights.{weighs_by_callers}}

-- ---- one word

-- Another word is put.
other_word : (s : State) (a id : ArenaId) (w v word : ℕ) → ¬ ((a ≡ id) × (w ≡ word)) → (arena_of s a).id ≡ id
    → slice_index (slice_set (arena_of s a).words w v) word ≡ slice_index (arena_of s a).words word
other_word s a id w v word other e =
    let apart : word ≢ w = (λ is. other (sym (arena_of-id s a) ∙ e, sym is)) in get_or-set_other (arena_of s a).words w word v 0 apart

module _ (limit : ℕ) (s : State) (c : Caller) where
  -- A call that leaves the word.
  word_by : (call : Call) (reply : Reply) (id : ArenaId) (word : ℕ) → LeavesWord id word call
      → Relates (Same (λ a. slice_index a.words word) id) s (change_of limit c call reply)
  unfolding Same
  word_by (Open a) reply id word leaves = λ e. zeros_at (words_within limit) word
  word_by (Enter a) Fine id word leaves = λ e. refl
  word_by (Write a w v) reply id word leaves = other_word s a id w v word leaves
  word_by (SwapIf a w old new) (Found found) id word leaves =
      elim (found == old) as (λ b. (arena_of s a).id ≡ id
      → slice_index (if b then slice_set (arena_of s a).words w new else (arena_of s a).words) word ≡ slice_index (arena_of s a).words word) [
        | true ↦ other_word s a id w new word leaves
        | false ↦ (λ e. refl)
      ]
  word_by (Add a w n) (Found found) id word leaves = other_word s a id w ((found + n) % 2 ^ 64) word leaves
  word_by (Allocate a size align) (Given p) id word leaves = λ e. refl
  word_by (Leave a) reply id word leaves = λ e. refl
  word_by (Hold a) Fine id word leaves = λ e. refl
  word_by (Unhold a) reply id word leaves = λ e. refl
  word_by (Shut a) Fine id word leaves = λ e. refl
  word_by (End a) reply id word leaves = λ e. refl
  word_by call reply id word leaves = tt

  -- So it stays where it is looked up.
  pub word_still : (call : Call) (reply : Reply) (id : ArenaId) (word : ℕ) → LeavesWord id word call
      → word_in (state_by limit s c call reply) id word ≡ word_in s id word
  unfolding Same
  word_still call reply id word leaves =
      made_lookup (Same (λ a. slice_index a.words word) id) (λ a e. refl) s (change_of limit c call reply) (word_by call reply id word leaves) id
      (arena_of-id s id)

-- an Add to this word
abbrev IsAddTo : ArenaId → ℕ → Call → Type 0
IsAddTo id word call = (n : ℕ) × (call ≡ Add id word n) × (adds_to id word call ≡ n)

-- A call that only adds leaves the word, or is an Add to it.
leaves_or_adds : (id : ArenaId) (word : ℕ) (call : Call) → OnlyAdds id word call → ((adds_to id word call ≡ 0) × LeavesWord id word call) ⊎ IsAddTo id word call
leaves_or_adds id word (Write a w v) only = inl (refl, only)
leaves_or_adds id word (SwapIf a w old new) only = inl (refl, only)
leaves_or_adds id word (Add a w n) only =
    let Q : Bool → Bool → Type 0 = λ b d. (((if b && d then n else 0) ≡ 0) × ¬ ((a ≡ id) × (w ≡ word)))
    ⊎ ((m : ℕ) × (Add a w n ≡ Add id word m) × ((if b && d then n else 0) ≡ m)) in
    let P : Bool → Type 0 = λ b. same_id a id ≡ b → Q b (w == word) in
    let R : Bool → Type 0 = λ d. (w == word) ≡ d → same_id a id ≡ true → Q true d in
    let here : (d : Bool) → R d = λ d. elim d as R [
      | true ↦ (λ t e. let at : w ≡ word = grind (arith, nat_tests) in
          inr (n, ap (λ (i : ArenaId). Add i w n) (same_id-true a id e) ∙ ap (λ v. Add id v n) at, refl))
      | false ↦ (λ t e. let off : w ≢ word = grind (arith, nat_tests) in inl (refl, λ both. off both.1))
    ] in
    let go : (b : Bool) → P b = λ b. elim b as P [
      | true ↦ (λ e. here (w == word) refl e)
      | false ↦ (λ e. inl (refl, λ both. let self : same_id a id ≡ true = ap (λ (i : ArenaId). same_id a i) (sym both.0) ∙ same_id-self a in absurd (cc)))
    ] in
    go (same_id a id) refl
leaves_or_adds id word call only = inl (refl, tt)

-- what one call does to the word
abbrev Counts : ℕ → State → Caller → Reply → ArenaId → ℕ → Call → ℕ → Type 0
Counts limit s c reply id word call k = word_in (state_by limit s c call reply) id word ≡ (word_in s id word + k) % 2 ^ 64

-- An Add to this word.
added : (limit : ℕ) (s : State) (c : Caller) (reply : Reply) (id : ArenaId) (word n : ℕ) → MayCall s c (Add id word n)
    → reply ≡ reply_to limit s (Add id word n) → Counts limit s c reply id word (Add id word n) n
added limit s c (Found found) id word n may is =
    let was : found ≡ word_in s id word = cc in
    let v = (found + n) % 2 ^ 64 in
    ap (λ (a : Arena). slice_index a.words word) (lookup_changed s id (written word v) (λ a. refl) (there_by_way s c id may.under_way))
    ∙ get_or-set_same (arena_of s id).words word v 0 may.within ∙ ap (λ m. (m + n) % 2 ^ 64) was
added limit s c reply id word n may is = let no : reply ≡ Found (word_in s id word) = is in absurd (cc)

-- Any call that only adds.
counts_by : (limit : ℕ) (s : State) (e : Entry) (id : ArenaId) (word : ℕ) → MayCall s e.caller e.call → e.reply ≡ reply_to limit s e.call
    → word_in s id word < 2 ^ 64 → OnlyAdds id word e.call
    → Counts limit s e.caller e.reply id word e.call (adds_to id word e.call)
counts_by limit s e id word may is small only = elim (leaves_or_adds id word e.call only) [
  | inl none ↦ word_still limit s e.caller e.call e.reply id word none.1 ∙ (let z = none.0 in omega (arith, small, z))
  | inr adds ↦ (
      let call = adds.1 in
      let may' : MayCall s e.caller (Add id word adds.0) = subst (λ (k : Call). MayCall s e.caller k) call may in
      let is' : e.reply ≡ reply_to limit s (Add id word adds.0) = is ∙ ap (reply_to limit s) call in
      subst (λ (k : Call). Counts limit s e.caller e.reply id word k (adds_to id word e.call)) (sym call)
      (rw adds.2 (added limit s e.caller e.reply id word adds.0 may' is')))
]

more_added : (x a b y z : ℕ) → y ≡ (x + a) % 2 ^ 64 → z ≡ (y + b) % 2 ^ 64 → z ≡ (x + (a + b)) % 2 ^ 64
more_added x a b y z p q = omega arith

-- A word that is only added to grows by what was added.
pub counted : AddsCount
counted limit s [] id word legal small only = omega (arith, small)
counted limit s (e ∷ es) id word legal small only =
    let one = counts_by limit s e id word legal.0 legal.1 small only.0 in
    let next : word_in (after limit s e) id word < 2 ^ 64 = omega (arith, one) in
    more_added (word_in s id word) (adds_to id word e.call) (all_added id word es) _ _ one
    (counted limit (after limit s e) es id word legal.2 next only.1)

-- ---- by callers

-- What was added is the sum of what each of these callers added, where others add nothing.
pub added_by : (id : ArenaId) (word : ℕ) (es : List Entry) (cs : List Caller) → AreApart cs
    → AllByRecursion (λ e. IsAmong e.caller cs ⊎ (adds_to id word e.call ≡ 0)) es → all_added id word es ≡ total (λ c. all_added id word (made_by c es)) cs
added_by id word = weighs_by_callers (λ e. adds_to id word e.call)

-- What was added is the sum of what each caller added.
pub by_callers : AddsByCallers
by_callers id word es cs apart callers = added_by id word es cs apart (all_weaker _ _ (λ e i. inl i) es callers)
