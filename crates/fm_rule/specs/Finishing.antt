-- What a pool tells once it is finished.
use Rattle.std.specs.Prelude.{◌≡◌, ℕ, true, List, [], length}
use Rattle.fm_words.specs.{declared.shape.Shape.{Shape}, Shapes.{IsValid}, Places.{words as word_count}}
use Rattle.fm_base.specs.{Calls.{Entry}, Histories.{IsLegal}}
use Rattle.fm_rule_facts.specs.{Hands.{nothing}, Loans.{IsRightlyLent, LendsWithin}, Rest.{ShowsHistory}, Views.{View, In, limit_of}}
use Rattle.fm_rule.specs.{Passes.{IsOf}, declared.pool.Pool.{Pool}}

pub record FinishedView : Type 0 where
  pub shape : Shape
  -- all that its passes did
  pub history : List Entry
  pub words : List ℕ

-- the history is one of such a pool, and the words show it
pub record IsFinished (f : FinishedView) : Type 0 where
  pub valid : IsValid f.shape
  pub legal : IsLegal (limit_of f.shape) [] f.history
  pub lent : IsRightlyLent f.shape.page_words (limit_of f.shape) f.history
  pub within : (e : Entry) → In e f.history → LendsWithin f.shape e.call
  pub wide : length f.words ≡ word_count f.shape
  pub shows : ShowsHistory f.shape f.words f.history

-- the pass is known to be whole, and has no slot in its hand
pub record CanFinish (pool : Pool) (p : View) : Type 0 where
  pub of : IsOf pool p
  pub whole : p.whole ≡ true
  pub no_slot : p.hand ≡ nothing

-- of `finish`
pub record Finishes (pool : Pool) (p : View) (f : FinishedView) : Type 0 where
  pub shape : f.shape ≡ pool.shape
  pub history : f.history ≡ p.seen
  pub finished : IsFinished f
