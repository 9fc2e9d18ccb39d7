-- Words that calls leave, whatever stands there.
use Rattle.std.specs.{Prelude.{◌≡◌, ℕ, List}, List.{AllByRecursion}}
use Rattle.fm_base.specs.{declared.{arena_id.ArenaId.{ArenaId}}, Arenas.{State, word_in}}
use Rattle.fm_base.specs.{Calls.{Read, Found, Entry}, Counting.{LeavesWord}, Histories.{IsLegal, state_after}}

-- where the entry reads the word, it finds this
abbrev pub FindsWord : ArenaId → ℕ → ℕ → Entry → Type 0
FindsWord id word is e = (found : ℕ) → e.call ≡ Read id word → e.reply ≡ Found found → found ≡ is

-- a word that all entries leave stays, and each Read finds it
abbrev pub LeftIsFound : Type 0
LeftIsFound =
    (limit : ℕ) (s : State) (es : List Entry) (id : ArenaId) (word : ℕ) → IsLegal limit s es
    → AllByRecursion (λ e. LeavesWord id word e.call) es
    → (word_in (state_after limit s es) id word ≡ word_in s id word)
    × AllByRecursion (FindsWord id word (word_in s id word)) es
