-- What one try to give bytes does, with pages for them.
use Rattle.std.specs.Prelude.{◌≡◌, ◌⊎◌, true, ◌≢◌, ◌≤◌, ◌==◌, ◌+◌, ℕ, List, [], ◌∷◌, ◌++◌, All, Option, Some, None}
use Rattle.fm_base.specs.{declared.arena_id.ArenaId.{ArenaId}, Calls.{Entry, Allocate, entry_of}, Machine.{rounded_up, allocate_reply}}
use Rattle.fm_rule_facts.specs.{Views.{View, given_of, limit_of}, Scarcity.{IsScarce}, Steps.{where_found, is_clear}}
use Rattle.fm_pages.specs.{Maps.{Way}, Covers.{LendsIn, Lacks}}

abbrev pub allocates : View → ArenaId → (count size align found : ℕ) → List Entry
allocates v a count size align found =
    where_found (found == count)
    (entry_of v.caller (Allocate a size align) (allocate_reply (limit_of v.shape) count size align) ∷ [])

-- it lent pages for the range, and gave it where the count was found
pub record Tried (old new : View) (a : ArenaId) (count size align found : ℕ) : Type 0 where
  pub lends : List Entry
  pub are : All (LendsIn old a count (rounded_up count align + size)) lends
  -- none, where the range ends past the limit
  pub fits : (lends ≡ []) ⊎ (rounded_up count align + size ≤ limit_of old.shape)
  pub way : Way old new (lends ++ allocates old a count size align found) []
  pub learnt : found ≢ count → found ≡ given_of new a
  -- a pass that is known to be whole gives bytes only where pages aren't too few
  pub exact : old.whole ≡ true → found ≡ count → ¬ (IsScarce old a size align)

-- the range fits, and a part of it had no page
pub record Unpaged (old new : View) (a : ArenaId) (count size align : ℕ) : Type 0 where
  pub fits : rounded_up count align + size ≤ limit_of old.shape
  pub lends : List Entry
  pub are : All (LendsIn old a count (rounded_up count align + size)) lends
  pub way : Way old new lends []
  pub lacks : Lacks old new a count (rounded_up count align + size)
  -- to a pass that was clear, and knew the count, only where pages are too few
  pub exact : is_clear old ≡ true → count ≡ given_of old a → IsScarce old a size align

abbrev pub TriedOutcome : View → View → ArenaId → (count size align : ℕ) → Option ℕ → Type 0
TriedOutcome old new a count size align (Some found) = Tried old new a count size align found
TriedOutcome old new a count size align None = Unpaged old new a count size align
