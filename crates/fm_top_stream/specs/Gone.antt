-- How far a stream has gone.
use Rattle.std.specs.{Prelude.{◌≡◌, ◌+◌, ◌%◌, ◌<◌, ◌≤◌, ℕ, Bool, true, List, [], ◌∷◌, ◌++◌, length, Option, None, IfSome}, List.{AllByRecursion, AllZip}}
use Rattle.fm_base.specs.declared.arena_id.ArenaId.{ArenaId}
use Rattle.fm_base_lists.specs.Among.{IsAmong}
use Rattle.fm_io.specs.Files.{Contents, AreBytesFrom, EndsBefore}
use Rattle.fm_rule_facts.specs.Views.{View, limit_of, state_in}
use Rattle.fm_rule.specs.declared.pool.Pool.{Pool}
use Rattle.fm_records_query.specs.Plan.{Plan}
use Rattle.fm_records.specs.{declared.found.Found.{Found}, Answers.{answer}, Few.{AreFew}, Joined.{joined}}
use Rattle.fm_top_load.specs.{Held.{names_in}, Portions.{PortionView}, Whole.{CanRead, IsPortion, IsWhole}, declared.stretch.Stretch.{Stretch}}
use Rattle.fm_top_pooled.specs.Stocked.{IsAlone, IsStockedOf}
use Rattle.fm_segment.specs.Region.{Region}
use Rattle.fm_top_stream.specs.{Chunks.{AreCut, all_bytes}, Shown.{ShowsChunk}, declared.{ahead.Ahead.{Ahead}, under_way.UnderWay.{UnderWay}}}
use Rattle.fm_top_stream.specs.{declared.placed.Placed.{Placed}, Steps.{AnswersOn, StandsIn}}

-- These runs of bytes went through arenas of their own, one after the other, and this is the answer over all of them. Behind those the pool has
-- these arenas, and no other
pub record HasGone (pool : Pool) (v : View) (p : Plan) (behind : List ArenaId) (runs : List (List ℕ)) (a : List Found) : Type 0 where
  pub alone : IsAlone v.gathered pool v
  pub value : a ≡ answer p (all_bytes runs)
  pub few : AreFew (length (all_bytes runs)) p a
  pub ids : List ArenaId
  pub chunks : AllZip (ShowsChunk (limit_of v.shape) (state_in v) v.seen p) ids runs
  pub names : names_in (state_in v) ≡ ids ++ behind
  pub apart : AllByRecursion (λ id. ¬ (IsAmong id ids)) behind

-- so far, whole chunks from the file's beginning up to the place
pub record GoneSoFar (told : Option Contents) (name : List ℕ) (most at : ℕ) (pool : Pool) (v : View) (p : Plan) (behind : List ArenaId) (a : List Found) : Type 0 where
  pub runs : List (List ℕ)
  pub gone : HasGone pool v p behind runs a
  pub whole : AllByRecursion (λ run. length run ≡ most) runs
  pub count : length (all_bytes runs) ≡ at
  pub first : AreBytesFrom told name 0 (all_bytes runs)

-- the whole file, which may have so many bytes, in chunks
pub record GoneThrough (limit : ℕ) (told : Option Contents) (name : List ℕ) (most : ℕ) (pool : Pool) (v : View) (p : Plan) (a : List Found) : Type 0 where
  pub runs : List (List ℕ)
  pub gone : HasGone pool v p [] runs a
  pub cut : AreCut most runs
  pub is_file : IsWhole told name (all_bytes runs)
  pub short : length (all_bytes runs) ≤ limit
  pub even : length (all_bytes runs) % p.size ≡ 0

-- a pool has room for a chunk in an arena, a chunk is of whole records, and there are 1 to 16 workers
pub record CanAsk (most threads : ℕ) (p : Plan) (pool : Pool) : Type 0 where
  pub room : most ≤ limit_of pool.shape
  pub any : 0 < most
  pub sized : 0 < p.size
  pub even : most % p.size ≡ 0
  pub some : 0 < threads
  pub few : threads ≤ 16

-- a pass that has made no entry yet, of such a pool
pub record CanGoThrough (most threads : ℕ) (p : Plan) (pool : Pool) (v : View) : Type 0 where
  pub alone : IsAlone v.gathered pool v
  pub begins : v.seen ≡ []
  pub asks : CanAsk most threads p pool

-- whole chunks have gone through up to the place, and the next one stands there in an open arena
pub record HasNext (limit most : ℕ) (told : Option Contents) (name : List ℕ) (at : ℕ) (p : Plan) (pool : Pool) (g : UnderWay) (x : Placed) : Type 0 where
  pub gone : GoneSoFar told name most at pool g.pass p (x.arena ∷ []) g.answer
  pub stands : StandsIn limit most told name at g.pass x

-- nothing has gone through, and the first portion of the file was read
pub record CanBegin (stretch : Stretch) (told : Option Contents) (threads : ℕ) (p : Plan) (pool : Pool) (g : UnderWay) : Type 0 where
  pub asks : CanAsk stretch.most threads p pool
  pub read : CanRead stretch.limit stretch.at
  pub next : IsPortion stretch.limit stretch.most told stretch.name.now stretch.at g.portion
  pub some : 0 < length g.portion.bytes
  pub gone : GoneSoFar told stretch.name.now stretch.most stretch.at pool g.pass p [] g.answer

-- the file may end with what is before the stretch
abbrev pub IsUpTo : Stretch → Option Contents → Bool → Type 0
IsUpTo stretch told ended = ended ≡ true → EndsBefore told stretch.name.now stretch.at

-- a query can be asked of the segment, and the stretch's first portion was read
pub record CanAnswer (stretch : Stretch) (told : Option Contents) (threads : ℕ) (p : Plan) (pool : Pool) (v : View) (s : Region) (first : PortionView) : Type 0 where
  pub asks : CanAsk stretch.most threads p pool
  pub alone : IsAlone v.gathered pool v
  pub stocked : IsStockedOf v.shape.passes pool v s
  pub even : s.size % p.size ≡ 0
  pub read : CanRead stretch.limit stretch.at
  pub next : IsPortion stretch.limit stretch.most told stretch.name.now stretch.at first

-- it was answered, and the stretch stands in an arena of its own, if the file has one
pub record AnswersAhead (stretch : Stretch) (told : Option Contents) (p : Plan) (pool : Pool) (v : View) (s : Region) (first : PortionView) (r : Ahead) : Type 0 where
  pub answers : AnswersOn v.shape.passes stretch told pool v r.pass s p r.answer r.next
  pub some : IfSome r.next (λ x. 0 < length first.bytes)

-- whole chunks have gone through, and the next one, which is of whole records, stands before the stretch
pub record CanTakeChunk (stretch : Stretch) (told : Option Contents) (threads : ℕ) (p : Plan) (pool : Pool) (g : UnderWay) (x : Placed) : Type 0 where
  pub from : ℕ
  pub at : from + x.chunk.count ≡ stretch.at
  pub asks : CanAsk stretch.most threads p pool
  pub read : CanRead stretch.limit stretch.at
  pub even : x.chunk.count % p.size ≡ 0
  pub has : HasNext stretch.limit stretch.most told stretch.name.now from p pool g x

-- the answer was joined to those before
pub record HasJoined (v : View) (was found : List Found) (g : UnderWay) : Type 0 where
  pub pass : g.pass ≡ v
  pub answer : g.answer ≡ joined was found

-- this chunk has gone through: the next one stands, or the file was gone through
pub record GoesByChunk (stretch : Stretch) (told : Option Contents) (p : Plan) (pool : Pool) (g : UnderWay) (next : Option Placed) : Type 0 where
  pub on : IfSome next (HasNext stretch.limit stretch.most told stretch.name.now stretch.at p pool g)
  pub ends : next ≡ None → GoneThrough stretch.limit told stretch.name.now stretch.most pool g.pass p g.answer
