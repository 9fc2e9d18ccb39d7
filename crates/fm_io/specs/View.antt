-- What contracts see of a source of files, and what a call leaves of that.
use Rattle.std.specs.Prelude.{◌≡◌, ℕ, List, Option}
use Rattle.fm_io.specs.{Count.{Counts, Rose}, Files.{Contents}, Reads.{Read}}

pub record FilesView : Type 0 where
  -- the files that are there, where they are told
  pub holds : Option Contents
  -- all reads so far, in their order, where they are told
  pub reads : Option (List Read)
  -- how many reads failed
  pub faults : ℕ
  -- how many reads found no file of their name
  pub misses : ℕ

-- The same files are there. A count rose only where the call came to what it counts.
pub record Leaves (Failed Missing : Type 0) (old new : FilesView) : Type 0 where
  pub held : new.holds ≡ old.holds
  pub faults : Counts Rose Failed old.faults new.faults
  pub misses : Counts Rose Missing old.misses new.misses
