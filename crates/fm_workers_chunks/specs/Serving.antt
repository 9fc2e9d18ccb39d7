-- A worker that serves chunks.
use Rattle.std.specs.Prelude.{◌≡◌, None}
use Rattle.fm_base.specs.View.{Did}
use Rattle.fm_records_query.specs.Plan.{Plan}
use Rattle.fm_rule_calls.specs.Told.{view_of_pass}
use Rattle.fm_rule_facts.specs.Views.{View, limit_of}
use Rattle.fm_segment.specs.Region.{region_of}
use Rattle.fm_workers_chunks.specs.{Answering.{AnswersAndCloses}, Jobs.{CanBeMet}, Served.{IsServedBehind}}
use Rattle.fm_workers_chunks.specs.declared.{chunk.Chunk.{Chunk}, served.Served.{Served}}

-- in no arena; the chunk's note is of the same pool
pub record CanServe (v : View) (p : Plan) (chunk : Chunk) : Type 0 where
  pub outside : v.inside ≡ None
  pub meet : CanBeMet v.home (limit_of v.shape) p chunk

-- the chunk that is given back, with a note of what the worker has seen
pub record IsOfChunk (v : View) (chunk : Chunk) (d : Served) : Type 0 where
  pub number : d.number ≡ chunk.number
  pub arena : d.arena ≡ chunk.arena
  pub count : d.count ≡ chunk.count
  pub home : d.note.home ≡ v.home
  pub seen : d.note.seen ≡ v.seen

pub record Serves (old new : View) (p : Plan) (chunk : Chunk) (d : Served) : Type 0 where
  pub is : IsOfChunk new chunk d
  pub did : Did (view_of_pass old) (view_of_pass new) (AnswersAndCloses old.caller p (region_of chunk.arena 0 chunk.count) d.answer)
  pub behind : IsServedBehind (limit_of new.shape) p chunk.note.seen d
  pub home : new.home ≡ old.home
  pub limit : limit_of new.shape ≡ limit_of old.shape
  pub outside : new.inside ≡ None
