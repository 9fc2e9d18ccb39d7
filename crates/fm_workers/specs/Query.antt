-- What a query by a crew asks for, and what its caller learns.
use Rattle.fm_records.specs.{Texts.{IsAnswerOf}, declared.found.Found.{Found}, Alone.{bytes_at_places}, Answers.{answer}, Bytes.{HasRead}, Few.{AreFew}}
use Rattle.fm_records.specs.{Laws.{IsAsked, value_in}, Reads.{AreReads, StopsReading, IsWordOf}}
use Rattle.fm_rule_calls.specs.{Kept.{Lasts}, Told.{view_of_pass}}
use Rattle.std.specs.{Prelude.{◌≡◌, ◌≢◌, ◌⊎◌, ◌+◌, ◌/◌, ◌<◌, ◌≤◌, ◌%◌, ℕ, List, length, Result, Ok, Err, IfOk}, List.{AllByRecursion}}
use Rattle.fm_base.specs.declared.{caller.Caller.{Caller}, kind.Kind.TheVariants.{Confined}, refusal.Refusal.{Refusal}}
use Rattle.fm_base.specs.{declared.refusal.Refusal.TheVariants.{Ragged, WrongThread, Closed, NoPass, Memory}, Calls.{Entry}, Finds.{Find, Gathered}}
use Rattle.fm_base.specs.{Histories.{made_by}, Untouched.{Spares}}
use Rattle.fm_base_lists.specs.Among.{IsAmong}
use Rattle.fm_path.specs.Resolution.{Resolution}
use Rattle.fm_rule_facts.specs.Views.{View, IsSound, state_in}
use Rattle.fm_rule.specs.declared.pool.Pool.{Pool}
use Rattle.fm_gate.specs.Needs.{IsOutside}
use Rattle.fm_segment.specs.{Access.{IsKnown}, Region.{Region}}
use Rattle.fm_records_query.specs.Plan.{Plan}
use Rattle.fm_workers_shares.specs.{Answered.{AnsweredBy}, Asking.{asking}, Ends.{FirstStopped, HasDone}, Shares.{cut, each_of}}
use Rattle.fm_workers_crew.specs.Crew.{AreTooMany, CrewGathered, FoundNoNumber, IsWhole, callers}

-- outside; the segment is known and its first record aligned; and there are 1 to 16 workers
pub record CanQueryWith (pool : Pool) (v : View) (p : Plan) (s : Region) (threads : ℕ) : Type 0 where
  pub outside : IsOutside pool v
  pub known : IsKnown (view_of_pass v) s
  pub aligned : s.first % p.alignment ≡ 0
  pub some : 0 < threads
  pub few : threads ≤ 16

-- visits, each with one Read of a word of the segment, of which the last may have found the arena closed
pub data OnlyReads (s : Region) (c : Caller) (own : List Entry) : Type 0 where
  reads : AreReads c s own → OnlyReads s c own
  stops : StopsReading c s own → OnlyReads s c own

-- the first that was refused found the arena closed
pub record FoundClosed (p : Plan) (s : Region) (each : ℕ) (crew : List Caller) (more : List Entry) : Type 0 where
  pub first : FirstStopped (asking (cut p s each)) crew more Closed
  pub stops : StopsReading first.caller s (made_by first.caller more)

-- the first that was refused wanted memory; or none was, if any was drawn, and memory was wanting before that or to join the answers
abbrev pub WantedMemory : Plan → Region → (each : ℕ) → List Caller → List Entry → Type 0
WantedMemory p s each crew more =
    FirstStopped (asking (cut p s each)) crew more Memory ⊎ AllByRecursion (HasDone (asking (cut p s each)) more) crew

-- whole records of an arena that isn't confined
pub record IsOpenToAll (p : Plan) (s : Region) : Type 0 where
  pub even : s.size % p.size ≡ 0
  pub shared : s.arena.kind ≢ Confined

-- what comes of it, the refusals in the order of the checks
abbrev pub EndsQuery : (each : ℕ) → View → View → Plan → Region → List Entry → List Gathered → List Find → Result (List Found) Refusal → Type 0
EndsQuery each old new p s more crew draws (Ok a) = IsOpenToAll p s × AnsweredBy p s each (callers crew) more a
EndsQuery each old new p s more crew draws (Err (Ragged rest)) = (rest ≡ s.size % p.size) × (0 < rest) × (new ≡ old)
EndsQuery each old new p s more crew draws (Err WrongThread) = (s.size % p.size ≡ 0) × (s.arena.kind ≡ Confined) × (new ≡ old)
EndsQuery each old new p s more crew draws (Err Closed) = IsOpenToAll p s × FoundClosed p s each (callers crew) more
EndsQuery each old new p s more crew draws (Err NoPass) = IsOpenToAll p s × FoundNoNumber old.shape draws
EndsQuery each old new p s more crew draws (Err Memory) = IsOpenToAll p s × WantedMemory p s each (callers crew) more
EndsQuery each old new p s more crew draws (Err r) = ⊥

-- ---- what the answer is

-- nobody but these changes the segment's bytes
abbrev pub NobodyElseWrites : Region → List Caller → List Entry → Type 0
NobodyElseWrites s crew es =
    (place : ℕ) → s.first ≤ place → place < s.first + s.size
    → AllByRecursion (λ e. IsAmong e.caller crew ⊎ Spares s.arena place e.call) es

-- one of them has read the word
pub record IsReadByCrew (s : Region) (crew : List Caller) (es : List Entry) (word : ℕ) : Type 0 where
  pub caller : Caller
  pub among : IsAmong caller crew
  pub read : HasRead caller s.arena word (made_by caller es)

-- The answer over the bytes that stood there, and each word of each value that is asked for in a chosen record was read
pub record IsAnswer (old : View) (p : Plan) (s : Region) (crew : List Caller) (more : List Entry) (a : List Found) : Type 0 where
  pub value : a ≡ answer p (bytes_at_places (state_in old) s)
  pub read : (index : ℕ) (r : Resolution) (is : List ℕ) (word : ℕ) → IsAsked p (bytes_at_places (state_in old) s) index r is
      → IsWordOf (value_in p s index r is) word → IsReadByCrew s crew more word

pub record QueriedWith (threads : ℕ) (old new : View) (p : Plan) (s : Region) (result : Result (List Found) Refusal) : Type 0 where
  pub crew : CrewGathered old new
  -- at most one pass a worker, and where a draw found no number it is one of as many
  pub one_each : length crew.crew ≤ threads
  pub one_less : result ≡ Err NoPass → length crew.crew < threads
  pub visits : AllByRecursion (λ c. OnlyReads s c (made_by c crew.more)) (callers crew.crew)
  pub ends : EndsQuery (each_of (s.size / p.size) threads) old new p s crew.more crew.crew crew.draws result
  pub value : IfOk result (λ a. NobodyElseWrites s (callers crew.crew) crew.more → IsAnswer old p s (callers crew.crew) crew.more a)
  -- it can be printed, and joined with another such answer
  pub answer : IfOk result (IsAnswerOf p)
  pub few : IfOk result (AreFew s.size p)
  -- where the pass was known to be whole, a pass is wanting only where the workers are too many
  pub wanting : IsWhole old → result ≡ Err NoPass → AreTooMany old threads
  pub lasts : Lasts old new
  pub known : IsKnown (view_of_pass new) s
  pub sound : IfOk result (λ _. IsSound new)
  pub still_sound : IsSound old → IsSound new
