-- How a pass adds its counts to those that all passes share.
use Rattle.std.specs.Prelude.{◌≡◌, ◌≢◌, ℕ, ◌+◌, ◌/◌, ◌%◌, ◌≤◌, List, [], ◌∷◌, ◌++◌, slice_index, None, Result, Ok, Err}
use Rattle.fm_base.specs.{declared.{caller.Caller.{Caller}, refusal.Refusal.{Refusal, TheVariants.{Closed}}}, Arenas.{MayUse}, Calls.{Add, Found, Entry}}
use Rattle.fm_base.specs.{View.{View}, Visits.{visit, refused_visit}}
use Rattle.fm_segment.specs.{Access.{IsKnown}, Region.{Region}}

-- 256 longs that stand aligned
pub record HasCounts (counts : Region) : Type 0 where
  pub size : counts.size ≡ 2048
  pub aligned : counts.first % 8 ≡ 0

-- in no arena; the counts are known and open to the caller
pub record CanAdd (v : View) (counts : Region) : Type 0 where
  pub outside : v.inside ≡ None
  pub known : IsKnown v counts
  pub may : MayUse counts.arena v.caller
  pub longs : HasCounts counts

-- the word of the count at this place
abbrev pub count_word : Region → ℕ → ℕ
count_word counts k = counts.first / 8 + k

abbrev pub add_visit : Caller → Region → ℕ → ℕ → ℕ → List Entry
add_visit c counts k n found = visit c counts.arena ((Add counts.arena (count_word counts k) n, Found found) ∷ [])

-- n is added to the count at this place in one visit; where it is 0 there is none
pub data AddsAt (c : Caller) (counts : Region) (k : ℕ) : ℕ → List Entry → Type 0 where
  nothing : AddsAt c counts k 0 []
  adds : {n : ℕ} → (found : ℕ) → n ≢ 0 → AddsAt c counts k n (add_visit c counts k n found)

-- so was added what stands below this place
pub data AddsBelow (c : Caller) (counts : Region) (ns : List ℕ) : ℕ → List Entry → Type 0 where
  none_yet : AddsBelow c counts ns 0 []
  one_more : {k : ℕ} → (own more : List Entry) → AddsBelow c counts ns k own → AddsAt c counts k (slice_index ns k) more
      → AddsBelow c counts ns (k + 1) (own ++ more)

-- up to where the arena was found closed
pub record StopsAdding (c : Caller) (counts : Region) (ns : List ℕ) (own : List Entry) : Type 0 where
  pub place : ℕ
  pub within : place ≤ 256
  pub before : List Entry
  pub added : AddsBelow c counts ns place before
  pub stops : own ≡ before ++ refused_visit c counts.arena

abbrev pub DoesAdd : Caller → Region → List ℕ → Result (Unit {0}) Refusal → List Entry → Type 0
DoesAdd c counts ns (Ok u) own = AddsBelow c counts ns 256 own
DoesAdd c counts ns (Err Closed) own = StopsAdding c counts ns own
DoesAdd c counts ns (Err r) own = ⊥

abbrev pub DoesAddOne : Caller → Region → ℕ → ℕ → Result (Unit {0}) Refusal → List Entry → Type 0
DoesAddOne c counts k n (Ok u) own = AddsAt c counts k n own
DoesAddOne c counts k n (Err Closed) own = own ≡ refused_visit c counts.arena
DoesAddOne c counts k n (Err r) own = ⊥
