-- What each step with a chunk's arena does, by the pool's first pass while it is known to be whole.
use Rattle.std.specs.Prelude.{◌≡◌, ◌≢◌, ◌<◌, ◌≤◌, ℕ, List, [], ◌∷◌, ◌++◌, take, Option, Some, None, IfSome}
use Rattle.fm_base.specs.{declared.{arena_id.ArenaId.{ArenaId}, kind.Kind.TheVariants.{Shared}}, Arenas.{Alive, Ended, State, arena_of, has_arena}}
use Rattle.fm_base.specs.{Calls.{Entry}, View.{given_in}}
use Rattle.fm_io.specs.Files.{Contents, EndsBefore}
use Rattle.fm_segment_access.specs.Alone.{bytes_of_arena}
use Rattle.fm_rule_calls.specs.Told.{view_of_pass}
use Rattle.fm_rule_facts.specs.Views.{View, IsKnown, limit_of, state_in}
use Rattle.fm_rule.specs.declared.pool.Pool.{Pool}
use Rattle.fm_segment.specs.Region.{Region}
use Rattle.fm_records_query.specs.Plan.{Plan}
use Rattle.fm_records.specs.{declared.found.Found.{Found}, Answers.{answer}, Few.{AreFew}}
use Rattle.fm_top_load.specs.{declared.{reached.Reached.{Reached}, stretch.Stretch.{Stretch}}, Held.{HoldsThen, IsHeld, OnlyIn, names_in, words_at}, Whole.{IsCut}}
use Rattle.fm_top_pooled.specs.Stocked.{HasOpened, IsAlone, IsStockedOf, bytes_in_pool}
use Rattle.fm_top_stream.specs.{declared.placed.Placed.{Placed}, Shown.{ReadStanding}}

-- it is known to be whole still, and has seen more
pub record GoesOn (pool : Pool) (p q : View) : Type 0 where
  pub alone : IsAlone q.gathered pool q
  pub more : List Entry
  pub seen : q.seen ≡ p.seen ++ more

-- a shared arena was opened, and no other
pub record Opens (pool : Pool) (p q : View) (a : ArenaId) : Type 0 where
  pub goes : GoesOn pool p q
  pub opened : HasOpened q.gathered pool p q a

-- the arena gave its first bytes, so many
pub record Gives (pool : Pool) (p q : View) (a : ArenaId) (size : ℕ) : Type 0 where
  pub goes : GoesOn pool p q
  pub held : HoldsThen (view_of_pass q) a size (words_at (view_of_pass p) a)
  pub elsewhere : OnlyIn a (state_in p) (state_in q)

-- the first bytes, so many of them, are that stretch of the file
pub record HasChunk (stretch : Stretch) (told : Option Contents) (bytes : List ℕ) (chunk : Reached) : Type 0 where
  pub cut : IsCut stretch.limit stretch.most told stretch.name.now stretch.at (take chunk.count bytes) chunk.ended
  pub some : 0 < chunk.count
  pub within : chunk.count ≤ stretch.most

-- that stretch of the file was put there
pub record Fills (stretch : Stretch) (told : Option Contents) (pool : Pool) (p q : View) (a : ArenaId) (chunk : Reached) : Type 0 where
  pub goes : GoesOn pool p q
  pub held : IsHeld (view_of_pass q) a
  pub given : given_in (view_of_pass q) a ≡ given_in (view_of_pass p) a
  pub elsewhere : OnlyIn a (state_in p) (state_in q)
  pub has : HasChunk stretch told (bytes_of_arena (state_in q) a) chunk

-- there are the same arenas, and each has the life and the words that it had
pub record Stand (s t : State) : Type 0 where
  pub names : names_in t ≡ names_in s
  pub arenas : (b : ArenaId) → has_arena t b ≡ has_arena s b
  pub life : (b : ArenaId) → (arena_of t b).life ≡ (arena_of s b).life
  pub words : (b : ArenaId) → (arena_of t b).words ≡ (arena_of s b).words

-- a crew answered the query over the segment
pub record Answers (passes : ℕ) (pool : Pool) (p q : View) (s : Region) (plan : Plan) (a : List Found) : Type 0 where
  pub goes : GoesOn pool p q
  pub stocked : IsStockedOf passes pool q s
  pub stand : Stand (state_in p) (state_in q)
  pub value : a ≡ answer plan (bytes_in_pool p s)
  pub few : AreFew s.size plan a
  pub read : ReadStanding (limit_of q.shape) q.seen plan s (bytes_in_pool p s)

-- there are the same arenas, and each but this one has the life and the words that it had
pub record StandBut (b : ArenaId) (s t : State) : Type 0 where
  pub names : names_in t ≡ names_in s
  pub arenas : (x : ArenaId) → has_arena t x ≡ has_arena s x
  pub life : (x : ArenaId) → x ≢ b → (arena_of t x).life ≡ (arena_of s x).life
  pub words : (x : ArenaId) → x ≢ b → (arena_of t x).words ≡ (arena_of s x).words

-- a crew answered the query over the segment, while the stretch of the file was put into another arena
pub record AnswersBeside (passes : ℕ) (stretch : Stretch) (told : Option Contents) (pool : Pool) (p q : View) (s : Region) (plan : Plan) (b : ArenaId)
    (a : List Found) (chunk : Reached) : Type 0 where
  pub goes : GoesOn pool p q
  pub stocked : IsStockedOf passes pool q s
  pub stand : StandBut b (state_in p) (state_in q)
  pub value : a ≡ answer plan (bytes_in_pool p s)
  pub few : AreFew s.size plan a
  pub read : ReadStanding (limit_of q.shape) q.seen plan s (bytes_in_pool p s)
  pub held : IsHeld (view_of_pass q) b
  pub given : stretch.most ≤ given_in (view_of_pass q) b
  pub has : HasChunk stretch told (bytes_of_arena (state_in q) b) chunk

-- a chunk of the file, which may have so many bytes, stands at the start of a shared arena, which is alive and has given room for it
pub record StandsIn (limit most : ℕ) (told : Option Contents) (name : List ℕ) (at : ℕ) (v : View) (x : Placed) : Type 0 where
  pub held : IsHeld (view_of_pass v) x.arena
  pub given : most ≤ given_in (view_of_pass v) x.arena
  pub shared : x.arena.kind ≡ Shared
  pub cut : IsCut limit most told name at (take x.chunk.count (bytes_of_arena (state_in v) x.arena)) x.chunk.ended
  pub some : 0 < x.chunk.count
  pub within : x.chunk.count ≤ most

abbrev pub arenas_of : Option Placed → List ArenaId
arenas_of None = []
arenas_of (Some x) = x.arena ∷ []

-- a crew answered the query over the segment; then the next stretch of the file stands in an arena of its own, or the file has ended
pub record AnswersOn (passes : ℕ) (stretch : Stretch) (told : Option Contents) (pool : Pool) (p q : View) (s : Region) (plan : Plan) (a : List Found)
    (next : Option Placed) : Type 0 where
  pub goes : GoesOn pool p q
  pub stocked : IsStockedOf passes pool q s
  pub value : a ≡ answer plan (bytes_in_pool p s)
  pub few : AreFew s.size plan a
  pub read : ReadStanding (limit_of q.shape) q.seen plan s (bytes_in_pool p s)
  -- what was known is as it was
  pub life : (x : ArenaId) → IsKnown p x → (arena_of (state_in q) x).life ≡ (arena_of (state_in p) x).life
  pub words : (x : ArenaId) → IsKnown p x → (arena_of (state_in q) x).words ≡ (arena_of (state_in p) x).words
  pub names : names_in (state_in q) ≡ names_in (state_in p) ++ arenas_of next
  pub stands : IfSome next (λ x. (¬ (IsKnown p x.arena)) × StandsIn stretch.limit stretch.most told stretch.name.now stretch.at q x)
  pub ended : next ≡ None → EndsBefore told stretch.name.now stretch.at

-- the arena, which was alive, has ended, with the words that it had; no other changed
pub record Closes (pool : Pool) (p q : View) (a : ArenaId) : Type 0 where
  pub goes : GoesOn pool p q
  pub ended : (arena_of (state_in q) a).life ≡ Ended
  pub words : (arena_of (state_in q) a).words ≡ (arena_of (state_in p) a).words
  pub elsewhere : OnlyIn a (state_in p) (state_in q)

-- a shared arena that is alive
pub record CanClose (pool : Pool) (p : View) (a : ArenaId) : Type 0 where
  pub alone : IsAlone p.gathered pool p
  pub known : IsKnown p a
  pub alive : (arena_of (state_in p) a).life ≡ Alive
  pub shared : a.kind ≡ Shared
