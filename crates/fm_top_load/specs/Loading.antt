-- What is learnt where a record file is loaded into an arena.
use Rattle.std.specs.Prelude.{◌≡◌, ◌⊎◌, ℕ, ◌≤◌, List, Option}
use Rattle.fm_base.specs.{declared.{arena_id.ArenaId.{ArenaId}, caller.Caller.{Caller}, refusal.Refusal.{Refusal}}, Calls.{Entry}, Outcomes.{Nature}, View.{View, Did}}
use Rattle.fm_io.specs.Files.{Contents}
use Rattle.fm_segment.specs.Region.{Region}
use Rattle.fm_top_load.specs.{Held.{IsHeld, IsReady, Wants, loaded_in}, Limits.{record_file_limit}, Putting.{ArePut, StopsPutting}, Whole.{ByReads, IsWhole}}
use Rattle.fm_top_load.specs.declared.{load_fault.LoadFault.{LoadFault, TheVariants.{Refused}}, room.Room.{Room, TheVariants.{Growing}}}

-- the arena was filled from its start on, and the segment is all of it: the whole file, where the files tell
pub record HasLoaded (told : Option Contents) (name : List ℕ) (old new : View) (a : ArenaId) (s : Region) : Type 0 where
  pub ready : IsReady new s
  pub arena : s.arena ≡ a
  pub short : s.size ≤ record_file_limit
  pub whole : IsWhole told name (loaded_in new s)
  pub did : Did old new (ArePut old.caller (Growing a) (loaded_in new s))

-- some bytes were put, and perhaps the next ones refused
abbrev pub BeginsToPut : Caller → Room → List Entry → Type 0
BeginsToPut c room own = ((bytes : List ℕ) × ArePut c room bytes own) ⊎ ((r : Refusal) × StopsPutting c room r own)

-- some bytes of it were loaded, and the arena is held
pub record HasBegun (old new : View) (a : ArenaId) : Type 0 where
  pub did : Did old new (BeginsToPut old.caller (Growing a))
  pub held : IsHeld new a

-- a fault of reads, or the arena had no room for what came: memory is wanting, or a page
abbrev pub Stops : Nature → View → View → LoadFault → Type 0
Stops nature old new (Refused r) = Wants nature old new r
Stops nature old new fault = ByReads fault
