-- The shape of a stream's pool.
use Rattle.std.specs.Prelude.{ℕ, ◌+◌, ◌*◌, ◌≤◌, ◌<◌}
use Rattle.fm_records_query.specs.Plan.{Plan}
use Rattle.fm_words.specs.declared.shape.Shape.{Shape}
use Rattle.fm_top_stream.specs.Chunks.{most_chunk}

abbrev pub stream_shape : ℕ → Shape
stream_shape threads = record {
  passes = threads + 1;
  slots = threads + 1;
  pages = 2 * (threads + 1);
  page_words = 65536;
  reach = 2;
  generations = 4294967295;
}

-- a record has room in a chunk, and there are 1 to 16 workers
pub record CanStream (p : Plan) (threads : ℕ) : Type 0 where
  pub small : p.size ≤ most_chunk
  pub some : 0 < threads
  pub few : threads ≤ 16
