-- What a chunk promises who takes it.
use Rattle.std.specs.Prelude.{◌≡◌, ◌≤◌, ◌%◌, ◌^◌, ℕ, true, List, [], ⊤}
use Rattle.fm_base.specs.declared.{arena_id.ArenaId.{ArenaId}, kind.Kind.TheVariants.{Shared}}
use Rattle.fm_base.specs.{Arenas.{arena_of, has_arena}, Calls.{Entry}, Histories.{state_after}}
use Rattle.fm_records_query.specs.Plan.{Plan}
use Rattle.fm_workers_chunks.specs.declared.{chunk.Chunk.{Chunk}, job.Job.{Job, TheVariants.{Serve, Stop}}}

-- Whole records of a shared arena, which had given their bytes by what was seen
pub record HasGiven (limit : ℕ) (p : Plan) (arena : ArenaId) (count : ℕ) (seen : List Entry) : Type 0 where
  pub known : has_arena (state_after limit [] seen) arena ≡ true
  pub given : count ≤ (arena_of (state_after limit [] seen) arena).given
  pub small : count ≤ 2 ^ 40
  pub even : count % p.size ≡ 0
  pub shared : arena.kind ≡ Shared

-- its note is one of the pool, and had seen the arena give so much
pub record CanBeMet (home : List ℕ) (limit : ℕ) (p : Plan) (chunk : Chunk) : Type 0 where
  pub same_pool : chunk.note.home ≡ home
  pub gave : HasGiven limit p chunk.arena chunk.count chunk.note.seen

pub record IsChunk (home : List ℕ) (limit : ℕ) (p : Plan) (Stands : ℕ → ArenaId → ℕ → List Entry → Type 0) (chunk : Chunk) : Type 0 where
  pub meet : CanBeMet home limit p chunk
  pub stands : Stands chunk.number chunk.arena chunk.count chunk.note.seen

-- a stop promises nothing
abbrev pub IsJob : (home : List ℕ) → (limit : ℕ) → Plan → (Stands : ℕ → ArenaId → ℕ → List Entry → Type 0) → Job → Type 0
IsJob home limit p Stands (Serve chunk) = IsChunk home limit p Stands chunk
IsJob home limit p Stands Stop = ⊤
