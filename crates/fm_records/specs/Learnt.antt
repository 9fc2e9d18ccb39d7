-- What a query over a segment asks for, and what its caller learns: one record each.
use Rattle.std.specs.Prelude.{◌≡◌, ◌%◌, List, None, Result, IfOk, IfErr}
use Rattle.fm_base.specs.{declared.refusal.Refusal.{Refusal}, Outcomes.{Lasts}, View.{View, Did, IsByItself}}
use Rattle.fm_records_query.specs.Plan.{Plan}
use Rattle.fm_segment.specs.{Access.{IsKnown}, Region.{Region}}
use Rattle.fm_records.specs.{declared.found.Found.{Found}, Alone.{FindsAnswer, FindsNone}, Few.{AreFew}, Query.{DoesQuery, QueryCause}, Texts.{IsAnswerOf}}

-- in no arena; the memory knows the segment, and its first record is aligned
pub record CanQuery (v : View) (p : Plan) (s : Region) : Type 0 where
  pub outside : v.inside ≡ None
  pub known : IsKnown v s
  pub aligned : s.first % p.alignment ≡ 0

pub record Queried (old new : View) (p : Plan) (s : Region) (result : Result (List Found) Refusal) : Type 0 where
  pub did : Did old new (DoesQuery old.caller p s result)
  pub refused : IfErr result (QueryCause p s old.caller)
  -- it can be printed, and joined with another such answer
  pub answer : IfOk result (IsAnswerOf p)
  pub few : IfOk result (AreFew s.size p)
  pub alone : IsByItself old → IfOk result (FindsAnswer old new p s)
  pub shut : IsByItself old → IfErr result (FindsNone old new s)
  pub outside : new.inside ≡ None
  pub lasts : Lasts old new
  pub known : IsKnown new s
