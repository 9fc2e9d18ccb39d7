-- Shares of ordinals, each counted by a caller of its own.
use Rattle.std.specs.{Prelude.{◌≡◌, ◌⊎◌, ℕ, ◌+◌, ◌<◌, ◌≤◌, List, [], ◌∷◌, ◌++◌, Result, Ok, Err, ⊤}, List.{AllByRecursion}}
use Rattle.fm_base.specs.{declared.{caller.Caller.{Caller}, refusal.Refusal.{Refusal}}, Calls.{Call, Entry}, Arenas.{State, word_in}, Histories.{IsLegal, made_by, state_after}, Counting.{LeavesWord}, Untouched.{Spares}}
use Rattle.fm_base_lists.specs.Among.{AreApart, IsAmong}
use Rattle.fm_group.specs.{Counting.{DoesCount}, Table.{CanTable, Counter, claim_word, count_word, places_in}, Values.{count_of}}

-- the ordinals from one on, below another, were counted one after the other, at these places
pub data CountsTo (c : Caller) (w : Counter) (from : ℕ) : ℕ → List ℕ → List Entry → Type 0 where
  none_counted : CountsTo c w from from [] []
  one_counted : {k : ℕ} {ps : List ℕ} → (p : ℕ) (own more : List Entry) → CountsTo c w from k ps own → DoesCount c w k (Ok p) more
      → CountsTo c w from (k + 1) (ps ++ p ∷ []) (own ++ more)

-- up to one that was refused
pub record StopsCounting (c : Caller) (w : Counter) (from to : ℕ) (r : Refusal) (own : List Entry) : Type 0 where
  pub at : ℕ
  pub above : from ≤ at
  pub below : at < to
  pub places : List ℕ
  pub before : List Entry
  pub counted : CountsTo c w from at places before
  pub last : List Entry
  pub refused : DoesCount c w at (Err r) last
  pub parts : own ≡ before ++ last

-- a share: all its ordinals were counted, or up to one that was refused
abbrev pub DoesShare : Caller → Counter → ℕ → ℕ → Result (Unit {0}) Refusal → List Entry → Type 0
DoesShare c w from to (Ok u) own = (ps : List ℕ) × CountsTo c w from to ps own
DoesShare c w from to (Err r) own = StopsCounting c w from to r own

-- ---- all shares

abbrev pub Share : Type 0
Share = ℕ × ℕ

-- each begins where the one before ends
abbrev pub AreLined : ℕ → List Share → ℕ → Type 0
AreLined from [] to = from ≡ to
AreLined from (b ∷ bs) to = (b.0 ≡ from) × (b.0 ≤ b.1) × AreLined b.1 bs to

-- among these entries each caller's are those of its share, so ended
abbrev pub AreShared : Counter → List Entry → List Caller → List Share → List (Result (Unit {0}) Refusal) → Type 0
AreShared w es [] [] [] = ⊤
AreShared w es (c ∷ cs) (b ∷ bs) (r ∷ rs) = DoesShare c w b.0 b.1 r (made_by c es) × AreShared w es cs bs rs
AreShared w es cs bs rs = ⊥

-- ---- what others do

-- the call changes no word of the table's places and no byte of the records
pub record IsElsewhere (w : Counter) (call : Call) : Type 0 where
  pub claims : (p : ℕ) → p < places_in w.table → LeavesWord w.table.arena (claim_word w.table p) call
  pub counts : (p : ℕ) → p < places_in w.table → LeavesWord w.table.arena (count_word w.table p) call
  pub records : (place : ℕ) → w.values.records.first ≤ place → place < w.values.records.first + w.values.records.size
      → Spares w.values.records.arena place call

-- nobody but these changes them
abbrev pub NobodyElseCounts : Counter → List Caller → List Entry → Type 0
NobodyElseCounts w cs es = AllByRecursion (λ e. IsAmong e.caller cs ⊎ IsElsewhere w e.call) es

-- ---- what is given at the start

-- a legal history, in which callers counted their shares of all ordinals, and nobody else touched the table or the records; the places were free
pub record AreCounting (limit : ℕ) (now : State) (w : Counter) (es : List Entry) (cs : List Caller) (bs : List Share) (rs : List (Result (Unit {0}) Refusal))
    : Type 0 where
  pub can : CanTable w
  pub legal : IsLegal limit now es
  pub apart : AreApart cs
  pub shares : AreShared w es cs bs rs
  pub lined : AreLined 0 bs (count_of w.values)
  pub others : NobodyElseCounts w cs es
  pub no_claim : (p : ℕ) → p < places_in w.table → word_in now w.table.arena (claim_word w.table p) ≡ 0
  pub no_count : (p : ℕ) → p < places_in w.table → word_in now w.table.arena (count_word w.table p) ≡ 0

-- the words of the table's arena in the end
abbrev pub last_word : ℕ → State → Counter → List Entry → ℕ → ℕ
last_word limit now w es k = word_in (state_after limit now es) w.table.arena k
