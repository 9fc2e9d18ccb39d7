-- What the history of a stream's pool shows, and what the stream answers.
use Rattle.std.specs.{Prelude.{◌≡◌, ◌%◌, ◌≤◌, ℕ, List, [], ◌++◌, length, Option}, List.{AllZip}}
use Rattle.fm_base.specs.{declared.arena_id.ArenaId.{ArenaId}, Arenas.{Ended, State, arena_of}, Calls.{Entry}, Histories.{state_after}}
use Rattle.fm_io.specs.Files.{Contents}
use Rattle.fm_records_query.specs.Plan.{Plan}
use Rattle.fm_records.specs.{declared.found.Found.{Found}, Alone.{bytes_at_places}, Answers.{answer}, Texts.{IsAnswerOf}}
use Rattle.fm_rule.specs.{Finishing.{FinishedView}, GivenBytes.{state_of}}
use Rattle.fm_rule_facts.specs.Views.{limit_of}
use Rattle.fm_segment.specs.Region.{Region, region_of}
use Rattle.fm_top_load.specs.{Held.{names_in}, Whole.{IsWhole}}
use Rattle.fm_top_pooled.specs.Shown.{AreRead, AsksWord, IsHistory}
use Rattle.fm_top_stream.specs.{Chunks.{chunks, stream_file_limit}, Shapes.{stream_shape}}

-- After some of the entries these bytes stood in the segment, and behind them others than the first pass have read there each word that is
-- asked for
pub record ReadStanding (limit : ℕ) (history : List Entry) (p : Plan) (s : Region) (bytes : List ℕ) : Type 0 where
  pub before : List Entry
  pub after : List Entry
  pub parts : history ≡ before ++ after
  pub stood : bytes_at_places (state_after limit [] before) s ≡ bytes
  pub read : AreRead after (AsksWord p bytes) s.arena

-- the chunk's bytes stand from place 0 of the arena, which has ended, and others than the first pass have read there each word that is
-- asked for once they stood
pub record ShowsChunk (limit : ℕ) (s : State) (history : List Entry) (p : Plan) (id : ArenaId) (bytes : List ℕ) : Type 0 where
  pub ended : (arena_of s id).life ≡ Ended
  pub stand : bytes_at_places s (region_of id 0 (length bytes)) ≡ bytes
  pub read : ReadStanding limit history p (region_of id 0 (length bytes)) bytes

-- one arena a chunk of the file and no other, in the order of the chunks
pub record ShowsStream (threads : ℕ) (f : FinishedView) (p : Plan) (bytes : List ℕ) : Type 0 where
  pub is_history : IsHistory f
  pub shape : f.shape ≡ stream_shape threads
  pub chunks : AllZip (ShowsChunk (limit_of f.shape) (state_of f) f.history p) (names_in (state_of f)) (chunks p.size bytes)

-- the answer over the file's bytes, and the pool that gave it
pub record Streams (threads : ℕ) (told : Option Contents) (name : List ℕ) (p : Plan) (a : List Found) (f : FinishedView) : Type 0 where
  pub bytes : List ℕ
  pub is_file : IsWhole told name bytes
  pub short : length bytes ≤ stream_file_limit
  pub even : length bytes % p.size ≡ 0
  pub value : a ≡ answer p bytes
  pub shows : ShowsStream threads f p bytes
  -- it can be printed
  pub printed : IsAnswerOf p a
