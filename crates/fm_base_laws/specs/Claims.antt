-- Words that are claimed: who finds 0 there puts a claim, and no claim is ever taken away.
use Rattle.std.specs.{Prelude.{◌≡◌, ◌≢◌, ℕ, ◌+◌, ◌≤◌, ◌==◌, ◌&&◌, if◌then◌else◌, List, [], ◌∷◌, ⊤}, List.{AllByRecursion}}
use Rattle.fm_base.specs.{declared.{arena_id.ArenaId.{ArenaId}}, Arenas.{State, same_id, word_in}}
use Rattle.fm_base.specs.{Calls.{Call, Write, SwapIf, Add, Reply, Found, Entry}, Histories.{IsLegal, state_after}}

-- the call leaves the word, or puts another number than 0 where it was 0
abbrev pub OnlyClaims : ArenaId → ℕ → Call → Type 0
OnlyClaims id word (Write a w v) = ¬ ((a ≡ id) × (w ≡ word))
OnlyClaims id word (SwapIf a w old new) = (a ≡ id) × (w ≡ word) → (old ≡ 0) × (new ≢ 0)
OnlyClaims id word (Add a w n) = ¬ ((a ≡ id) × (w ≡ word))
OnlyClaims id word call = ⊤

-- what stands in a word once `new` was tried there as a claim, and this was found
abbrev pub claimed_as : ℕ → ℕ → ℕ
claimed_as found new = if found == 0 then new else found

-- where the entry tries to claim the word, this is what stands there then
abbrev pub LeavesAs : ArenaId → ℕ → ℕ → Entry → Type 0
LeavesAs id word is e = (new found : ℕ) → e.call ≡ SwapIf id word 0 new → e.reply ≡ Found found → is ≡ claimed_as found new

-- what a try found or put at a word that is only claimed stands there in the end
abbrev pub ClaimsStand : Type 0
ClaimsStand =
    (limit : ℕ) (s : State) (es : List Entry) (id : ArenaId) (word : ℕ) → IsLegal limit s es
    → AllByRecursion (λ e. OnlyClaims id word e.call) es
    → AllByRecursion (LeavesAs id word (word_in (state_after limit s es) id word)) es

-- 1 where the entry claimed the word
abbrev pub claims_by : ArenaId → ℕ → Call → Reply → ℕ
claims_by id word (SwapIf a w old new) (Found found) = if same_id a id && w == word && found == 0 then 1 else 0
claims_by id word call reply = 0

abbrev pub all_claims : ArenaId → ℕ → List Entry → ℕ
all_claims id word [] = 0
all_claims id word (e ∷ es) = claims_by id word e.call e.reply + all_claims id word es

-- where a word was 0 and isn't, one of the entries claimed it
abbrev pub ClaimedBySome : Type 0
ClaimedBySome =
    (limit : ℕ) (s : State) (es : List Entry) (id : ArenaId) (word : ℕ) → IsLegal limit s es
    → AllByRecursion (λ e. OnlyClaims id word e.call) es → word_in s id word ≡ 0
    → word_in (state_after limit s es) id word ≢ 0 → 1 ≤ all_claims id word es
