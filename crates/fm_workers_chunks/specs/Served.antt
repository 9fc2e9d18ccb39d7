-- What is promised of a chunk that was served.
use Rattle.std.specs.Prelude.{◌≡◌, ◌++◌, ℕ, true, List, [], IfOk, IfErr}
use Rattle.fm_base.specs.declared.{arena_id.ArenaId.{ArenaId}, caller.Caller.{Caller}}
use Rattle.fm_base.specs.{Arenas.{Ended, arena_of, has_arena}, Calls.{Entry}, Histories.{made_by, state_after}}
use Rattle.fm_records.specs.{Few.{AreFew}, Texts.{IsAnswerOf}}
use Rattle.fm_records_query.specs.Plan.{Plan}
use Rattle.fm_rule.specs.Passes.{GoesOnFrom}
use Rattle.fm_segment.specs.Region.{region_of}
use Rattle.fm_workers_chunks.specs.{Answering.{AnswersAndCloses, MayCome}, Jobs.{HasGiven}, declared.served.Served.{Served}}

-- Who served it had seen all that the chunk's note had seen, and then its own entries are what it did
pub record IsServedBehind (limit : ℕ) (p : Plan) (before : List Entry) (d : Served) : Type 0 where
  pub caller : Caller
  -- what it had seen when it had met the note, and behind that
  pub cut : List Entry
  pub more : List Entry
  pub met : GoesOnFrom before cut
  pub parts : d.note.seen ≡ cut ++ more
  pub does : AnswersAndCloses caller p (region_of d.arena 0 d.count) d.answer (made_by caller more)
  pub refused : IfErr d.answer MayCome
  pub answer : IfOk d.answer (IsAnswerOf p)
  pub few : IfOk d.answer (AreFew d.count p)
  pub known : has_arena (state_after limit [] d.note.seen) d.arena ≡ true
  pub ended : IfOk d.answer (λ _. (arena_of (state_after limit [] d.note.seen) d.arena).life ≡ Ended)

pub record IsServed (home : List ℕ) (limit : ℕ) (p : Plan) (Stands : ℕ → ArenaId → ℕ → List Entry → Type 0) (d : Served) : Type 0 where
  pub same_pool : d.note.home ≡ home
  -- what the chunk's note had seen
  pub before : List Entry
  pub gave : HasGiven limit p d.arena d.count before
  pub stands : Stands d.number d.arena d.count before
  pub served : IsServedBehind limit p before d
