-- What groups by a crew ask for, and what their caller learns.
use Rattle.std.specs.{Prelude.{◌≡◌, ◌≢◌, ◌⊎◌, ℕ, ◌+◌, ◌<◌, ◌≤◌, List, [], ◌++◌, length, Result, Ok, Err, IfOk}, List.{AllByRecursion}}
use Rattle.fm_base.specs.declared.{arena_id.ArenaId.{ArenaId}, caller.Caller.{Caller}, refusal.Refusal.{Refusal}}
use Rattle.fm_base.specs.{declared.refusal.Refusal.TheVariants.{WrongThread, Closed, NoPass, Memory, TableFull}, Arenas.{word_in}}
use Rattle.fm_base.specs.{Calls.{Add, Call, Entry, Read, Reply, SwapIf}, Finds.{Find, Gathered}, Histories.{made_by}, Visits.{refused_visit, visit}}
use Rattle.fm_base_lists.specs.Among.{IsAmong}
use Rattle.fm_lanes.specs.Kind.{width_of}
use Rattle.fm_rule_facts.specs.Views.{View, IsSound, state_in}
use Rattle.fm_rule_calls.specs.{Kept.{Lasts}, Told.{view_of_pass}}
use Rattle.fm_rule.specs.declared.pool.Pool.{Pool}
use Rattle.fm_gate.specs.Needs.{IsOutside}
use Rattle.fm_segment.specs.Access.{IsKnown}
use Rattle.fm_records.specs.{Alone.{bytes_at_places}, Bytes.{HasRead}, Reads.{IsWordOf}, Words.{words_at}}
use Rattle.fm_group_lists.specs.Groups.{AreGroups, Group}
use Rattle.fm_group.specs.{Table.{Counter, claim_word, count_word, places_in}, Values.{Valued, all_numbers, count_of, offset_of}}
use Rattle.fm_group_laws.specs.Shares.{AreShared, NobodyElseCounts}
use Rattle.fm_workers_crew.specs.{Crew.{AreIdle, AreTooMany, CrewGathered, FoundNoNumber, IsWhole, callers}, Then.{LastGoes}}
use Rattle.fm_group_crew.specs.{Dealt.{dealt}, Ends.{Concludes, first_end}, Tasks.{IsForAll, IsForOne}}

-- outside; both segments are known; and there are 1 to 16 workers
pub record CanGroupWith (pool : Pool) (v : View) (w : Counter) (threads : ℕ) : Type 0 where
  pub outside : IsOutside pool v
  pub records : IsKnown (view_of_pass v) w.values.records
  pub table : IsKnown (view_of_pass v) w.table
  pub some : 0 < threads
  pub few : threads ≤ 16

-- ---- what the passes did

-- a Read of a word of the records, or a Read of, a SwapIf or an Add on a word of the table
pub data IsAct (w : Counter) : ArenaId → Call → Type 0 where
  reads_value : (word : ℕ) → IsWordOf w.values.records word → IsAct w w.values.records.arena (Read w.values.records.arena word)
  reads_table : (word : ℕ) → IsWordOf w.table word → IsAct w w.table.arena (Read w.table.arena word)
  swaps : (word old new : ℕ) → IsWordOf w.table word → IsAct w w.table.arena (SwapIf w.table.arena word old new)
  adds : (word n : ℕ) → IsWordOf w.table word → IsAct w w.table.arena (Add w.table.arena word n)

-- visits to the two arenas, each with such acts, or it found the arena closed
pub data OnlyVisits (w : Counter) (c : Caller) : List Entry → Type 0 where
  no_more : OnlyVisits w c []
  closed : (id : ArenaId) (rest : List Entry) → ((id ≡ w.values.records.arena) ⊎ (id ≡ w.table.arena)) → OnlyVisits w c rest
      → OnlyVisits w c (refused_visit c id ++ rest)
  visits : (id : ArenaId) (acts : List (Call × Reply)) (rest : List Entry) → AllByRecursion (λ a. IsAct w id a.0) acts → OnlyVisits w c rest
      → OnlyVisits w c (visit c id acts ++ rest)

-- Each of the crew counted its share, the k-th of n values from n * k / t on, below n * (k + 1) / t, up to the end or a refusal: by one count a value.
-- Behind all that the last of them read the table, where none was refused; else it did nothing, and the first refusal, in the order of the draws, is answered
pub record IsCounted (w : Counter) (threads : ℕ) (crew : List Caller) (more : List Entry) (result : Result (List Group) Refusal) : Type 0 where
  pub before : List Entry
  pub behind : List Entry
  pub parts : more ≡ before ++ behind
  pub ends : List (Result (Unit {0}) Refusal)
  pub each : AreShared w before crew (dealt (count_of w.values) threads) ends
  pub last : LastGoes (Concludes w (first_end ends) result) behind crew

-- ---- what comes of it

-- what comes of it, the refusals in the order of the checks
abbrev pub EndsGroups : (threads : ℕ) → View → View → Counter → List Entry → List Gathered → List Find → Result (List Group) Refusal → Type 0
EndsGroups threads old new w more crew draws (Ok gs) = IsForAll w × IsCounted w threads (callers crew) more (Ok gs)
EndsGroups threads old new w more crew draws (Err WrongThread) = IsForOne w × (new ≡ old)
EndsGroups threads old new w more crew draws (Err NoPass) = IsForAll w × FoundNoNumber old.shape draws × AreIdle more (callers crew)
EndsGroups threads old new w more crew draws (Err Closed) = IsForAll w × IsCounted w threads (callers crew) more (Err Closed)
EndsGroups threads old new w more crew draws (Err TableFull) = IsForAll w × IsCounted w threads (callers crew) more (Err TableFull)
EndsGroups threads old new w more crew draws (Err Memory) = IsForAll w × ((crew ≡ []) ⊎ IsCounted w threads (callers crew) more (Err Memory))
EndsGroups threads old new w more crew draws (Err r) = ⊥

-- ---- the groups

-- all places are free, and have no count
abbrev pub IsFree : View → Counter → Type 0
IsFree v w =
    (p : ℕ) → p < places_in w.table
    → (word_in (state_in v) w.table.arena (claim_word w.table p) ≡ 0) × (word_in (state_in v) w.table.arena (count_word w.table p) ≡ 0)

-- of a table that was free, where nobody else changes it or the records: the groups of all numbers in the records
abbrev pub AreTheGroups : View → Counter → List Caller → List Entry → List Group → Type 0
AreTheGroups old w crew more gs =
    IsFree old w → NobodyElseCounts w crew more → AreGroups (all_numbers w.values.path (bytes_at_places (state_in old) w.values.records)) gs

-- and a place for each value is enough
abbrev pub IsNeverFull : View → Counter → List Caller → List Entry → Result (List Group) Refusal → Type 0
IsNeverFull old w crew more result =
    IsFree old w → NobodyElseCounts w crew more → count_of w.values ≤ places_in w.table → result ≢ Err TableFull

-- each word of each value was read by one of them
abbrev pub words_of : Valued → ℕ → List ℕ
words_of v n = words_at (v.records.first + offset_of v n) (width_of v.path.value.kind)

pub record IsReadByOne (v : Valued) (crew : List Caller) (es : List Entry) (word : ℕ) : Type 0 where
  pub caller : Caller
  pub among : IsAmong caller crew
  pub read : HasRead caller v.records.arena word (made_by caller es)

abbrev pub AreAllRead : Valued → List Caller → List Entry → Type 0
AreAllRead v crew es = (n word : ℕ) → n < count_of v → IsAmong word (words_of v n) → IsReadByOne v crew es word

pub record GroupedWith (threads : ℕ) (old new : View) (w : Counter) (result : Result (List Group) Refusal) : Type 0 where
  pub crew : CrewGathered old new
  -- at most one pass a worker, and where a draw found no number it is one of as many
  pub one_each : length crew.crew ≤ threads
  pub one_less : result ≡ Err NoPass → length crew.crew < threads
  pub visits : AllByRecursion (λ c. OnlyVisits w c (made_by c crew.more)) (callers crew.crew)
  pub ends : EndsGroups threads old new w crew.more crew.crew crew.draws result
  pub value : IfOk result (AreTheGroups old w (callers crew.crew) crew.more)
  pub full : IsNeverFull old w (callers crew.crew) crew.more result
  pub read : IfOk result (λ _. AreAllRead w.values (callers crew.crew) crew.more)
  -- where the pass was known to be whole, a pass is wanting only where the workers are too many
  pub wanting : IsWhole old → result ≡ Err NoPass → AreTooMany old threads
  pub lasts : Lasts old new
  pub known : IsKnown (view_of_pass new) w.values.records
  pub table_known : IsKnown (view_of_pass new) w.table
  pub sound : IfOk result (λ _. IsSound new)
  pub still_sound : IsSound old → IsSound new
