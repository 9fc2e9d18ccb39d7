-- What a pass does that takes shares and counts their numbers.
use Rattle.std.specs.Prelude.{◌≡◌, ◌≢◌, ◌⊎◌, ◌%◌, ℕ, List, [], ◌∷◌, ◌++◌, ℤ, Result, Ok, Err}
use Rattle.fm_base.specs.declared.{caller.Caller.{Caller}, refusal.Refusal.{Refusal, TheVariants.{Closed, Memory}}, kind.Kind.TheVariants.{Confined}}
use Rattle.fm_base.specs.{Arenas.{MayUse}, Calls.{Entry}}
use Rattle.fm_base.specs.View as memory
use Rattle.fm_segment.specs.{Access.{IsKnown}, Region.{Region}}
use Rattle.fm_records_query.specs.Plan.{Plan}
use Rattle.fm_records.specs.{declared.found.Found.{Found}, Learnt.{CanQuery}, Query.{DoesQuery}, Reads.{AreReads, StopsReading}}
use Rattle.fm_workers_shares.specs.{declared.answers.Done.{Done}, Asking.{CanAsk, can_ask_later}, Shares.{Cut, share_of}, Taking.{KnowsOn, Making}}
use Rattle.fm_workers.specs.{Adding.{DoesAdd, HasCounts}, Counts.{AreCounts, AreSums, IsTally, PassSums, listed}}

-- ---- the numbers of some records

-- the query lists bytes, and can be asked of whole records that the caller may use
pub record CanCount (v : memory.View) (p : Plan) (region : Region) : Type 0 where
  pub tally : IsTally p
  pub query : CanQuery v p region
  pub whole : region.size % p.size ≡ 0
  pub may : MayUse region.arena v.caller

-- the numbers that the query lists were counted
pub record CountsAll (c : Caller) (p : Plan) (region : Region) (ns : List ℕ) (own : List Entry) : Type 0 where
  pub found : List Found
  pub did : DoesQuery c p region (Ok found) own
  pub are : AreCounts (listed found) ns

-- or the arena was found closed; or memory was wanting
abbrev pub DoesCount : Caller → Plan → Region → Result (List ℕ) Refusal → List Entry → Type 0
DoesCount c p region (Ok ns) own = CountsAll c p region ns own
DoesCount c p region (Err Closed) own = StopsReading c region own
DoesCount c p region (Err Memory) own = AreReads c region own
DoesCount c p region (Err r) own = ⊥

-- ---- shares

-- the numbers that were listed over these shares
abbrev pub all_numbers : List Done → List ℤ
all_numbers [] = []
all_numbers (d ∷ ds) = listed d.answer ++ all_numbers ds

-- the query lists bytes; it can be asked by who has seen so much, and the counts added to, which are 256 longs that anyone may use
pub record CanTally (k : Cut) (counts : Region) (v : memory.View) : Type 0 where
  pub tally : IsTally k.plan
  pub ask : CanAsk k v
  pub known : IsKnown v counts
  pub shared : counts.arena.kind ≢ Confined
  pub longs : HasCounts counts

-- each pass counts the numbers that are listed over its shares, and behind the last one adds how often each comes
abbrev pub tallying : Cut → (counts : Region) → Making (List ℕ)
tallying k counts = record {
  cut = k;
  holds = λ ds ns. AreCounts (all_numbers ds) ns;
  refuses = λ c number r own. DoesCount c k.plan (share_of k.plan k.segment k.each number) (Err r) own;
  ends = λ c ns end own. DoesAdd c counts ns end own;
}

pub can_tally_later : (k : Cut) (counts : Region) {v u : memory.View} → KnowsOn v u → CanTally k counts v → CanTally k counts u
can_tally_later k counts on can = record {
  tally = can.tally;
  ask = can_ask_later k on can.ask;
  known = on counts can.known;
  shared = can.shared;
  longs = can.longs;
}

-- ---- what they come to

-- counts and those behind them together; or those behind them are refused so, or a sum passes 64 bits
abbrev pub SumsWith : List ℕ → Result (List ℕ) Refusal → Result (List ℕ) Refusal → Type 0
SumsWith first behind (Ok ns) = (rest : List ℕ) × (behind ≡ Ok rest) × AreSums first rest ns
SumsWith first behind (Err r) = (behind ≡ Err r) ⊎ ((rest : List ℕ) × (behind ≡ Ok rest) × (r ≡ Memory) × PassSums first rest)
