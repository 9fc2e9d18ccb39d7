-- How the place of a word is found.
use Rattle.std.specs.Prelude.{◌≡◌, ℕ, List}
use Rattle.fm_base.specs.Calls.{Entry}
use Rattle.fm_rule_facts.specs.{Views.{View}, Steps.{CanReach as HasGiven, HasPlace}}
use Rattle.fm_rule.specs.{declared.pool.Pool.{Pool}, Passes.{IsOf}}
use Rattle.fm_rule_calls.specs.Kept.{Goes}

-- The pass has come from the old view to the new one without entries, and has read no more than map words: where it goes from there it goes from the old one
pub record Found (old new : View) : Type 0 where
  pub onward : (later : View) (own : List Entry) → Goes new later own → Goes old later own
  pub is : new ≡ record old { seen = new.seen; finds = new.finds; reads = new.reads }

-- of `reach`: an act on the word can be made at the place
pub record Reached (pool : Pool) (old new : View) (word at : ℕ) : Type 0 where
  pub found : Found old new
  pub of : IsOf pool new
  pub given : HasGiven new word
  pub place : HasPlace new word at
