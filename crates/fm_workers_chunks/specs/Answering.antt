-- A query answered over a segment whose arena is closed behind that.
use Rattle.std.specs.Prelude.{◌≡◌, ◌%◌, ◌++◌, List, None, Result, Ok, Err, IfOk, IfErr, ⊤}
use Rattle.fm_base.specs.declared.{caller.Caller.{Caller}, kind.Kind.TheVariants.{Shared}, refusal.Refusal.{Refusal}}
use Rattle.fm_base.specs.{declared.refusal.Refusal.TheVariants.{Closed, Held, Memory}, Calls.{Entry}, Does.{DoesClose}, View.{Did, but_loans}}
use Rattle.fm_base.specs.View as memory
use Rattle.fm_arena.specs.Shares.{IsGone}
use Rattle.fm_records.specs.{declared.found.Found.{Found}, Few.{AreFew}, Learnt.{CanQuery}, Query.{DoesQuery}, Texts.{IsAnswerOf}}
use Rattle.fm_records_query.specs.Plan.{Plan}
use Rattle.fm_rule_calls.specs.Told.{view_of_pass}
use Rattle.fm_rule_facts.specs.Views.{View}
use Rattle.fm_segment.specs.Region.{Region}

-- the segment can be asked, and has whole records of a shared arena
pub record CanAnswer (v : memory.View) (p : Plan) (s : Region) : Type 0 where
  pub query : CanQuery v p s
  pub even : s.size % p.size ≡ 0
  pub shared : s.arena.kind ≡ Shared

-- It was answered, and behind that the arena closed; or it wasn't answered, and the arena is left; or it was answered, and couldn't be closed
pub data AnswersAndCloses (c : Caller) (p : Plan) (s : Region) : Result (List Found) Refusal → List Entry → Type 0 where
  answered : (a : List Found) (asks closes : List Entry) → DoesQuery c p s (Ok a) asks → DoesClose c s.arena (Ok tt) (but_loans closes)
      → AnswersAndCloses c p s (Ok a) (asks ++ closes)
  unanswered : (r : Refusal) (asks : List Entry) → DoesQuery c p s (Err r) asks → AnswersAndCloses c p s (Err r) asks
  unclosed : (r : Refusal) (a : List Found) (asks closes : List Entry) → DoesQuery c p s (Ok a) asks → DoesClose c s.arena (Err r) (but_loans closes)
      → AnswersAndCloses c p s (Err r) (asks ++ closes)

-- no other refusal comes
abbrev pub MayCome : Refusal → Type 0
MayCome Closed = ⊤
MayCome Memory = ⊤
MayCome (Held holds) = ⊤
MayCome r = ⊥

pub record AnsweredAndClosed (old new : View) (p : Plan) (s : Region) (result : Result (List Found) Refusal) : Type 0 where
  pub did : Did (view_of_pass old) (view_of_pass new) (AnswersAndCloses old.caller p s result)
  pub refused : IfErr result MayCome
  pub answer : IfOk result (IsAnswerOf p)
  pub few : IfOk result (AreFew s.size p)
  pub gone : IfOk result (λ _. IsGone new s.arena)
  pub outside : new.inside ≡ None
