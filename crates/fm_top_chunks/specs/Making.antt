-- A chunk of a file that is put into an arena while others may be at work.
use Rattle.std.specs.Prelude.{◌≡◌, ◌*◌, ◌%◌, ◌<◌, ◌++◌, ℕ, List, Bool, Option, Result, Ok, Err, ⊤}
use Rattle.fm_base.specs.declared.{arena_id.ArenaId.{ArenaId}, caller.Caller.{Caller}, kind.Kind.TheVariants.{Shared}}
use Rattle.fm_base.specs.{Calls.{Entry}, Histories.{made_by}}
use Rattle.fm_io.specs.Files.{Contents}
use Rattle.fm_rule_calls.specs.Told.{view_of_pass}
use Rattle.fm_rule_facts.specs.Views.{View, limit_of}
use Rattle.fm_top_load.specs.declared.{load_fault.LoadFault.{LoadFault, TheVariants.{Ragged}}, reached.Reached.{Reached}, room.Room.TheVariants.{Given}, stretch.Stretch.{Stretch}}
use Rattle.fm_top_load.specs.{Portions.{PortionView}, Putting.{CanPut, DoesPutStretch, PutsStretch}}
use Rattle.fm_top_chunks.specs.declared.{filling.Filling.{Filling}, made.Made.{Made}}
use Rattle.fm_workers_chunks.specs.Jobs.{IsChunk}

-- the stretch of a file that is its chunk of a number, where a chunk has as many bytes as the stretch
abbrev pub chunk_at : Stretch → ℕ → Stretch
chunk_at stretch number = record stretch { at = number * stretch.most }

-- Among the caller's entries in what was seen are last those that put the file's chunk of this number to the arena's start, so many bytes
pub record HasPut (stretch : Stretch) (told : Option Contents) (c : Caller) (number : ℕ) (arena : ArenaId) (count : ℕ) (seen : List Entry) : Type 0 where
  pub first : PortionView
  pub ended : Bool
  pub before : List Entry
  pub own : List Entry
  pub mine : made_by c seen ≡ before ++ own
  pub put : PutsStretch (chunk_at stretch number) told c (Given arena) first (record { count = count; ended = ended }) own

-- the chunk can be put there, and is where the chunks before it end; anyone may use the arena
pub record CanMake (x : Filling) (told : Option Contents) (first : PortionView) (v : View) : Type 0 where
  pub put : CanPut x.stretch told first (view_of_pass v) (Given x.arena)
  pub at : x.stretch.at ≡ x.number * x.stretch.most
  pub shared : x.arena.kind ≡ Shared

-- so many bytes were put, which leave this rest
pub record LeavesRest (x : Filling) (told : Option Contents) (c : Caller) (first : PortionView) (rest : ℕ) (own : List Entry) : Type 0 where
  pub reached : Reached
  pub put : PutsStretch x.stretch told c (Given x.arena) first reached own
  pub is : rest ≡ reached.count % x.query.now.size
  pub some : 0 < rest

abbrev pub PutsChunk : Filling → Option Contents → Caller → PortionView → Result Made LoadFault → List Entry → Type 0
PutsChunk x told c first (Ok r) own = PutsStretch x.stretch told c (Given x.arena) first (record { count = r.chunk.count; ended = r.ended }) own
PutsChunk x told c first (Err (Ragged rest)) own = LeavesRest x told c first rest own
PutsChunk x told c first (Err fault) own = DoesPutStretch x.stretch told c (Given x.arena) first (Err fault) own

-- its chunk keeps what the query's chunks of this file promise
pub record IsMade (x : Filling) (told : Option Contents) (v : View) (r : Made) : Type 0 where
  pub number : r.chunk.number ≡ x.number
  pub arena : r.chunk.arena ≡ x.arena
  pub seen : r.chunk.note.seen ≡ v.seen
  pub chunk : IsChunk v.home (limit_of v.shape) x.query.now (HasPut x.stretch told v.caller) r.chunk

-- any fault
abbrev pub ByAny : LoadFault → Type 0
ByAny fault = ⊤
