-- What a tally by a crew asks for, and what its caller learns.
use Rattle.std.specs.Prelude.{◌≡◌, ◌≢◌, ◌⊎◌, ℕ, ◌/◌, ◌<◌, ◌≤◌, ◌%◌, List, [], ◌∷◌, ◌++◌, length, slice_index, ℤ, false, Result, Ok, Err, IfOk}
use Rattle.std.specs.List.{AllByRecursion, AllZip, range_with_len}
use Rattle.fm_base.specs.declared.{arena_id.ArenaId.{ArenaId}, caller.Caller.{Caller}, kind.Kind.TheVariants.{Confined}, refusal.Refusal.{Refusal}}
use Rattle.fm_base.specs.{declared.refusal.Refusal.TheVariants.{Unsupported, Ragged, WrongThread, Closed, NoPass, Memory}, Arenas.{word_in}}
use Rattle.fm_base.specs.{Calls.{Add, Call, Entry, Found}, Counting.{OnlyAdds, adds_to}, Finds.{Find, Gathered}, Histories.{made_by}}
use Rattle.fm_base.specs.Visits.{refused_visit, visit}
use Rattle.fm_base_lists.specs.Among.{IsAmong}
use Rattle.fm_rule_facts.specs.Views.{View, IsSound, state_in}
use Rattle.fm_rule_calls.specs.{Kept.{Lasts}, Told.{view_of_pass}}
use Rattle.fm_rule.specs.declared.pool.Pool.{Pool}
use Rattle.fm_path.specs.Resolution.{Resolution}
use Rattle.fm_segment.specs.{Access.{IsKnown}, Region.{Region}}
use Rattle.fm_records_query.specs.Plan.{Plan}
use Rattle.fm_records.specs.{Alone.{bytes_at_places}, Answers.{answer}, Laws.{IsAsked, value_in}, Reads.{IsWordOf}, Shares.{Share}}
use Rattle.fm_workers_jobs.specs.Turns.{times}
use Rattle.fm_workers_shares.specs.{declared.answers.Done.{Done}, Answered.{AnsweredShares, all_of}, Ends.{FirstStopped}, Shares.{cut, each_of, many_of}}
use Rattle.fm_workers_shares.specs.Taking.{HasMade, jobs_of}
use Rattle.fm_workers.specs.{Adding.{HasCounts, count_word}, Counts.{AreCounts, IsTally, listed}, Tallies.{tallying}}
use Rattle.fm_workers.specs.Query.{CanQueryWith, IsReadByCrew, NobodyElseWrites, OnlyReads}
use Rattle.fm_workers_crew.specs.Crew.{AreTooMany, CrewGathered, FoundNoNumber, IsWhole, callers}

-- as for a query; the counts are 256 longs that the pass knows, to be written, in another arena
pub record CanTallyWith (pool : Pool) (v : View) (p : Plan) (s counts : Region) (threads : ℕ) : Type 0 where
  pub query : CanQueryWith pool v p s threads
  pub known : IsKnown (view_of_pass v) counts
  pub longs : HasCounts counts
  pub written : counts.read_only ≡ false
  pub other : counts.arena ≢ s.arena

-- ---- what the passes did

-- visits, each with one Add on a word of the counts, of which the last may have found the arena closed
pub data OnlyAddsTo (counts : Region) (c : Caller) : List Entry → Type 0 where
  no_more : OnlyAddsTo counts c []
  closed : OnlyAddsTo counts c (refused_visit c counts.arena)
  one_add : (word n found : ℕ) (rest : List Entry) → IsWordOf counts word → OnlyAddsTo counts c rest
      → OnlyAddsTo counts c (visit c counts.arena ((Add counts.arena word n, Found found) ∷ []) ++ rest)

-- the segment was read, and then the counts were added to
pub record OnlyTallies (s counts : Region) (c : Caller) (own : List Entry) : Type 0 where
  pub reads : List Entry
  pub adds : List Entry
  pub parts : own ≡ reads ++ adds
  pub are_reads : OnlyReads s c reads
  pub are_adds : OnlyAddsTo counts c adds

-- ---- what comes of it

-- the query lists bytes over whole records, and neither arena is confined
pub record CanBeTallied (p : Plan) (s counts : Region) : Type 0 where
  pub tally : IsTally p
  pub even : s.size % p.size ≡ 0
  pub shared : s.arena.kind ≢ Confined
  pub shared_counts : counts.arena.kind ≢ Confined

-- among these entries the caller's are the queries over these shares, one after the other, of which each listed numbers, and behind them
-- the Adds of how often each number came in all of them
abbrev pub IsCounted : Plan → (s counts : Region) → (each : ℕ) → List Entry → Caller → List Done → Type 0
IsCounted p s counts each es c ds = (ns : List ℕ) × HasMade (tallying (cut p s each) counts) c ds ns (Ok tt) (made_by c es)

-- the numbers that were listed over all shares
abbrev pub all_listed : List Share → List ℤ
all_listed [] = []
all_listed (w ∷ ws) = listed w.found ++ all_listed ws

-- The segment was cut into shares of so many records; each was answered by a caller of the crew, and these are the counts of all numbers
pub record TalliedBy (p : Plan) (s counts : Region) (each : ℕ) (crew : List Caller) (more : List Entry) (ns : List ℕ) : Type 0 where
  pub all : AnsweredShares p s each crew more s 0
  pub are : AreCounts (all_listed all.shares) ns
  -- by nothing else: each caller counted the shares that it took and added their counts, and no share was taken twice
  pub taken : List (List Done)
  pub by_each : AllZip (IsCounted p s counts each more) crew taken
  pub once : (number : ℕ) → times number (jobs_of (all_of taken)) ≡ times number (range_with_len 0 (many_of (s.size / p.size) each))

-- the first that was refused found an arena closed, at its last entry
pub record FoundEitherClosed (p : Plan) (s counts : Region) (each : ℕ) (crew : List Caller) (more : List Entry) : Type 0 where
  pub first : FirstStopped (tallying (cut p s each) counts) crew more Closed
  pub arena : ArenaId
  pub either : (arena ≡ s.arena) ⊎ (arena ≡ counts.arena)
  pub before : List Entry
  pub last : made_by first.caller more ≡ before ++ refused_visit first.caller arena

-- the first that was refused wanted memory; or nobody was drawn
abbrev pub WantedMemory : Plan → (s counts : Region) → (each : ℕ) → List Caller → List Entry → Type 0
WantedMemory p s counts each crew more = FirstStopped (tallying (cut p s each) counts) crew more Memory ⊎ (crew ≡ [])

-- what comes of it, the refusals in the order of the checks
abbrev pub EndsTally : (each : ℕ) → View → View → Plan → Region → Region → List Entry → List Gathered → List Find → Result (List ℕ) Refusal → Type 0
EndsTally each old new p s counts more crew draws (Ok ns) = CanBeTallied p s counts × TalliedBy p s counts each (callers crew) more ns
EndsTally each old new p s counts more crew draws (Err Unsupported) = ¬ (IsTally p) × (new ≡ old)
EndsTally each old new p s counts more crew draws (Err (Ragged rest)) = IsTally p × (rest ≡ s.size % p.size) × (0 < rest) × (new ≡ old)
EndsTally each old new p s counts more crew draws (Err WrongThread) =
    IsTally p × (s.size % p.size ≡ 0) × ((s.arena.kind ≡ Confined) ⊎ (counts.arena.kind ≡ Confined)) × (new ≡ old)
EndsTally each old new p s counts more crew draws (Err Closed) = CanBeTallied p s counts × FoundEitherClosed p s counts each (callers crew) more
EndsTally each old new p s counts more crew draws (Err NoPass) = CanBeTallied p s counts × FoundNoNumber old.shape draws
EndsTally each old new p s counts more crew draws (Err Memory) = CanBeTallied p s counts × WantedMemory p s counts each (callers crew) more
EndsTally each old new p s counts more crew draws (Err r) = ⊥

-- ---- the numbers

-- the call leaves the word
abbrev pub LeavesWord : ArenaId → ℕ → Call → Type 0
LeavesWord id word call = OnlyAdds id word call × (adds_to id word call ≡ 0)

-- nobody but these changes the word
abbrev pub NobodyElseChanges : ArenaId → ℕ → List Caller → List Entry → Type 0
NobodyElseChanges id word crew es = AllByRecursion (λ e. IsAmong e.caller crew ⊎ LeavesWord id word e.call) es

-- a count that was 0, and that nobody else changes, is what is answered
abbrev pub AreHeld : View → View → Region → List Caller → List Entry → List ℕ → Type 0
AreHeld old new counts crew more ns =
    (k : ℕ) → k < 256 → word_in (state_in old) counts.arena (count_word counts k) ≡ 0
    → NobodyElseChanges counts.arena (count_word counts k) crew more
    → word_in (state_in new) counts.arena (count_word counts k) ≡ slice_index ns k

-- where nobody else writes the segment, these are the counts of the numbers that the query lists over its bytes
abbrev pub AreTheCounts : View → Plan → Region → List Caller → List Entry → List ℕ → Type 0
AreTheCounts old p s crew more ns = NobodyElseWrites s crew more → AreCounts (listed (answer p (bytes_at_places (state_in old) s))) ns

-- and each word of each of these was read by one of the passes
abbrev pub AreAllRead : View → Plan → Region → List Caller → List Entry → Type 0
AreAllRead old p s crew more =
    NobodyElseWrites s crew more → (index : ℕ) (r : Resolution) (is : List ℕ) (word : ℕ)
    → IsAsked p (bytes_at_places (state_in old) s) index r is → IsWordOf (value_in p s index r is) word → IsReadByCrew s crew more word

pub record TalliedWith (threads : ℕ) (old new : View) (p : Plan) (s counts : Region) (result : Result (List ℕ) Refusal) : Type 0 where
  pub crew : CrewGathered old new
  -- at most one pass a worker, and where a draw found no number it is one of as many
  pub one_each : length crew.crew ≤ threads
  pub one_less : result ≡ Err NoPass → length crew.crew < threads
  pub visits : AllByRecursion (λ c. OnlyTallies s counts c (made_by c crew.more)) (callers crew.crew)
  pub ends : EndsTally (each_of (s.size / p.size) threads) old new p s counts crew.more crew.crew crew.draws result
  pub value : IfOk result (AreTheCounts old p s (callers crew.crew) crew.more)
  pub read : IfOk result (λ _. AreAllRead old p s (callers crew.crew) crew.more)
  pub held : IfOk result (AreHeld old new counts (callers crew.crew) crew.more)
  -- where the pass was known to be whole, a pass is wanting only where the workers are too many
  pub wanting : IsWhole old → result ≡ Err NoPass → AreTooMany old threads
  pub lasts : Lasts old new
  pub known : IsKnown (view_of_pass new) s
  pub counts_known : IsKnown (view_of_pass new) counts
  pub sound : IfOk result (λ _. IsSound new)
  pub still_sound : IsSound old → IsSound new
