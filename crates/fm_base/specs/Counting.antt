-- Words that are left or only added to, and sums over entries and over callers.
use Rattle.std.specs.{Prelude.{◌≡◌, ◌⊎◌, ℕ, ◌+◌, ◌%◌, ◌^◌, ◌<◌, ◌==◌, ◌&&◌, if◌then◌else◌, List, [], ◌∷◌, ⊤}, List.{AllByRecursion}}
use Rattle.fm_base_lists.specs.Among.{IsAmong, AreApart}
use Rattle.fm_base.specs.{declared.{caller.Caller.{Caller}, arena_id.ArenaId.{ArenaId}}, Arenas.{State, same_id, word_in}}
use Rattle.fm_base.specs.{Calls.{Call, Write, SwapIf, Add, Entry}, Histories.{IsLegal, state_after, made_by}}

-- what the call adds to the word
abbrev pub adds_to : ArenaId → ℕ → Call → ℕ
adds_to id word (Add a w n) = if same_id a id && w == word then n else 0
adds_to id word call = 0

-- the sum of what f is of each entry
abbrev pub weighed : (Entry → ℕ) → List Entry → ℕ
weighed f [] = 0
weighed f (e ∷ es) = f e + weighed f es

abbrev pub all_added : ArenaId → ℕ → List Entry → ℕ
all_added id word = weighed (λ e. adds_to id word e.call)

-- the call writes nothing to the word
abbrev pub LeavesWord : ArenaId → ℕ → Call → Type 0
LeavesWord id word (Write a w v) = ¬ ((a ≡ id) × (w ≡ word))
LeavesWord id word (SwapIf a w old new) = ¬ ((a ≡ id) × (w ≡ word))
LeavesWord id word (Add a w n) = ¬ ((a ≡ id) × (w ≡ word))
LeavesWord id word call = ⊤

-- the call leaves the word, or adds to it
abbrev pub OnlyAdds : ArenaId → ℕ → Call → Type 0
OnlyAdds id word (Write a w v) = ¬ ((a ≡ id) × (w ≡ word))
OnlyAdds id word (SwapIf a w old new) = ¬ ((a ≡ id) × (w ≡ word))
OnlyAdds id word call = ⊤

-- a word that is only added to grows by what was added, wrapping at 2^64
abbrev pub AddsCount : Type 0
AddsCount =
    (limit : ℕ) (s : State) (es : List Entry) (id : ArenaId) (word : ℕ) → IsLegal limit s es
    → word_in s id word < 2 ^ 64 → AllByRecursion (λ e. OnlyAdds id word e.call) es
    → word_in (state_after limit s es) id word ≡ (word_in s id word + all_added id word es) % 2 ^ 64

-- the sum of what f is of each
abbrev pub total : (Caller → ℕ) → List Caller → ℕ
total f [] = 0
total f (c ∷ cs) = f c + total f cs

-- what entries weigh is the sum of what those of each caller do, where those of others weigh nothing
abbrev pub WeighsByCallers : Type 0
WeighsByCallers =
    (f : Entry → ℕ) (es : List Entry) (cs : List Caller) → AreApart cs → AllByRecursion (λ e. IsAmong e.caller cs ⊎ (f e ≡ 0)) es
    → weighed f es ≡ total (λ c. weighed f (made_by c es)) cs

-- what was added is the sum of what each of the callers added
abbrev pub AddsByCallers : Type 0
AddsByCallers =
    (id : ArenaId) (word : ℕ) (es : List Entry) (cs : List Caller) → AreApart cs
    → AllByRecursion (λ e. IsAmong e.caller cs) es
    → all_added id word es ≡ total (λ c. all_added id word (made_by c es)) cs
