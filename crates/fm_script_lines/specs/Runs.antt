-- How a pass goes on by the call of a line.
use Rattle.std.specs.Prelude.{◌≡◌, ◌++◌, true, List, [], All, None}
use Rattle.fm_base.specs.{declared.arena_id.ArenaId.{ArenaId}, Calls.{Entry}, Finds.{FindsMore}, Histories.{made_by}, Outcomes.{Lasts}, View.{inside_after}}
use Rattle.fm_rule_facts.specs.Views.{View}
use Rattle.fm_rule_calls.specs.{Kept.{rest_of}, Told.{view_of_pass}}
use Rattle.fm_script_lines.specs.{declared.outcome.LineOutcome.{LineOutcome}, Standings.{IsBacked}, Tokens.{holds_with, handles_with}}

-- The pass goes on by entries, of which these are its own. All that it has it had before, but for its holds and handles
pub record Went (old new : View) (own : List Entry) : Type 0 where
  -- the entries, those of others too
  pub more : List Entry
  pub seen : new.seen ≡ old.seen ++ more
  pub by_pass : made_by old.caller more ≡ own
  -- no gathered caller made one of them, and where the pass is known to be whole nobody else did
  pub quiet : All (λ g. made_by g.caller more ≡ []) old.gathered
  pub alone : old.whole ≡ true → more ≡ own
  pub inside : new.inside ≡ inside_after old.inside own
  pub finds : FindsMore old.finds new.finds
  pub same_caller : new.caller ≡ old.caller
  pub same_shape : new.shape ≡ old.shape
  pub rest : rest_of new ≡ record (rest_of old) { holds = new.holds; handles = new.handles }

-- The pass goes on by whatever calls, and is in no arena
pub record WentOn (old new : View) : Type 0 where
  pub run : List Entry
  pub went : Went old new run
  pub outside : new.inside ≡ None
  pub lasts : Lasts (view_of_pass old) (view_of_pass new)

-- The pass ran a call that did so, and has these holds and handles
pub record RanWith (old new : View) (holds handles : List ArenaId) (Does : List Entry → Type 0) : Type 0 where
  pub own : List Entry
  pub does : Does own
  pub went : Went old new own
  pub same_holds : new.holds ≡ holds
  pub same_handles : new.handles ≡ handles
  pub outside : new.inside ≡ None
  pub lasts : Lasts (view_of_pass old) (view_of_pass new)

-- and those that it had
abbrev pub Ran : View → View → (List Entry → Type 0) → Type 0
Ran old new Does = RanWith old new old.holds old.handles Does

-- The pass ran a line that came to this: it has these, and the hold or handle of the line's name
pub record RanLineWith (old new : View) (holds handles : List ArenaId) (Does : LineOutcome → List Entry → Type 0) (out : LineOutcome) : Type 0 where
  pub ran : RanWith old new (holds_with out.made holds) (handles_with out.made handles) (Does out)
  pub backed : IsBacked new out.made

-- and what it had
abbrev pub RanLine : View → View → (LineOutcome → List Entry → Type 0) → LineOutcome → Type 0
RanLine old new Does out = RanLineWith old new old.holds old.handles Does out
