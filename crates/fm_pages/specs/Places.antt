-- Where a word of an arena stands.
use Rattle.std.specs.Prelude.{◌≡◌, ◌⊎◌, ◌*◌, ◌/◌, ◌<◌, ℕ, List, [], Contains, Some}
use Rattle.fm_base.specs.declared.arena_id.ArenaId.{ArenaId}
use Rattle.fm_rule_facts.specs.{Loans.{HasPart, loans_of, loan_of}, Parts.{Mapping}, Views.{View, given_of}, Steps.{Stepped, CanReach, HasPlace, none_noted}}

-- the pass is inside an arena, where the word has a given byte, or its part is lent as the pass has seen
pub record CanFind (v : View) (word : ℕ) : Type 0 where
  pub id : ArenaId
  pub inside : v.inside ≡ Some id
  pub part : (8 * word < given_of v id) ⊎ HasPart (loans_of v.seen) id (word / v.shape.page_words)

-- the place is that of a word of a page, which is lent to the arena as the word's part
pub record Placed (old new : View) (word at : ℕ) : Type 0 where
  pub place : HasPlace new word at
  pub lent_so : (id : ArenaId) → old.inside ≡ Some id
      → Contains (loans_of new.seen) (loan_of place.page id (word / new.shape.page_words))
  pub reach : CanReach old word → CanReach new word
  -- the pass made no entry, and has read no more than map words
  pub by : (new ≡ old) ⊎ ((reads : List Mapping) × Stepped old new (record old { reads = reads }) [] none_noted)
