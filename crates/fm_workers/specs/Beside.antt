-- What a query by a crew comes to while its drawer does something of its own.
use Rattle.std.specs.{Prelude.{◌/◌, ℕ, List, [], Result, Ok, Err, IfOk}, List.{AllByRecursion}}
use Rattle.fm_base.specs.{declared.refusal.Refusal.{Refusal}, Calls.{Entry}, Histories.{made_by}}
use Rattle.fm_arena.specs.Shares.{CanShare}
use Rattle.fm_records.specs.{declared.found.Found.{Found}, Few.{AreFew}, Texts.{IsAnswerOf}}
use Rattle.fm_records_query.specs.Plan.{Plan}
use Rattle.fm_rule.specs.declared.pool.Pool.{Pool}
use Rattle.fm_rule_calls.specs.Told.{view_of_pass}
use Rattle.fm_rule_facts.specs.Views.{View}
use Rattle.fm_segment.specs.{Access.{IsKnown}, Region.{Region}}
use Rattle.fm_workers.specs.Query.{CanQueryWith, EndsQuery, IsAnswer, IsOpenToAll, NobodyElseWrites, OnlyReads, QueriedWith}
use Rattle.fm_workers_crew.specs.{Beside.{GatheredBeside}, Crew.{callers}}
use Rattle.fm_workers.specs.Sharing.{EndsSharing, SharedOut}
use Rattle.fm_workers_shares.specs.{Shares.{each_of}, Taking.{Making}}

-- whole records that anyone may ask, and a pass with no page in its hand
pub record CanQueryBeside (pool : Pool) (v : View) (p : Plan) (s : Region) (threads : ℕ) : Type 0 where
  pub query : CanQueryWith pool v p s threads
  pub shares : CanShare pool v
  pub open_to_all : IsOpenToAll p s

-- a crew was drawn, and took shares while the pass made entries of its own
pub record AskedBeside (Acts : List Entry → Type 0) (threads : ℕ) (old new : View) (p : Plan) (s : Region) (result : Result (List Found) Refusal) : Type 0 where
  pub crew : GatheredBeside Acts old new
  pub visits : AllByRecursion (λ c. OnlyReads s c (made_by c crew.more)) (callers crew.crew)
  -- all shares were answered; or one was refused, or memory was wanting
  pub ends : EndsQuery (each_of (s.size / p.size) threads) old new p s crew.more crew.crew [] result
  pub value : IfOk result (λ a. NobodyElseWrites s (callers crew.crew) crew.more → IsAnswer old p s (callers crew.crew) crew.more a)
  pub answer : IfOk result (IsAnswerOf p)
  pub few : IfOk result (AreFew s.size p)
  pub known : IsKnown (view_of_pass new) s

-- a crew was drawn, and its passes took shares of any job while the pass made entries of its own
pub record SharedBeside {P W : Type 0} (w : Making P) (joins : W → P → W → Type 0) (Acts : List Entry → Type 0) (threads : ℕ) (old new : View)
    (start whole : W) (result : Result (Unit {0}) Refusal) : Type 0 where
  pub crew : GatheredBeside Acts old new
  pub ends : EndsSharing w joins threads old crew.crew crew.more [] start whole result

abbrev pub SharesBeside : {P W : Type 0} → Making P → (W → P → W → Type 0) → (Acts : List Entry → Type 0) → (threads : ℕ) → (old new : View)
    → (start whole : W) → Result (Result (Unit {0}) Refusal) Refusal → Type 0
SharesBeside w joins Acts threads old new start whole (Ok r) = SharedBeside w joins Acts threads old new start whole r
SharesBeside w joins Acts threads old new start whole (Err r) = SharedOut w joins threads old new start whole (Err r)

-- or no share was begun, and nothing was done beside them
abbrev pub AsksBeside : (Acts : List Entry → Type 0) → (threads : ℕ) → (old new : View) → Plan → Region → Result (Result (List Found) Refusal) Refusal → Type 0
AsksBeside Acts threads old new p s (Ok answer) = AskedBeside Acts threads old new p s answer
AsksBeside Acts threads old new p s (Err r) = QueriedWith threads old new p s (Err r)
