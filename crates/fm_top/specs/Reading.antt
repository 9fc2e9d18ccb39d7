-- What is read for a request, and in which order.
use Rattle.std.specs.Prelude.{◌≡◌, ◌≢◌, ℕ, ◌+◌, List, [], ◌++◌, Option, None, Some}
use Rattle.fm_io.specs.{Files.{Contents}, Reads.{Read, ReadsOn, At, Ended, Follow, next_after}}
use Rattle.fm_top_load.specs.{Limits.{record_file_limit}, Reading.{portion_limit}}
use Rattle.fm_top.specs.{Causes.{IsAsked}, Found.{OfFile}, Outcome.{layout_file_limit, script_file_limit}, Queries.{PlanOf, records_limit}}
use Rattle.fm_top.specs.Words.{Request, Sum, Layout, Ask, Demo, Run, first_file, last_file}

-- A file was read so, if at all; where it was, this holds.
pub record ReadsIf (old new : Option (List Read)) (name : List ℕ) (limit : ℕ) (P : Type 0) : Type 0 where
  pub reads : List Read
  pub noted : ReadsOn old new reads
  pub follow : Follow name portion_limit (limit + 1) (At 0) reads
  pub needed : reads ≢ [] → P

-- the reads are of the file of this name, from its beginning, in pieces, and up to the first byte past the limit; of no name there are none
abbrev pub AreReadsOf : Option (List ℕ) → ℕ → List Read → Type 0
AreReadsOf None limit reads = reads ≡ []
AreReadsOf (Some name) limit reads = Follow name portion_limit (limit + 1) (At 0) reads

-- the most bytes of the file that is read first
abbrev pub first_limit : Request → ℕ
first_limit (Sum size at kind file) = record_file_limit
first_limit (Layout text file) = layout_file_limit
first_limit (Ask wish layout text file) = layout_file_limit
first_limit (Demo threads count) = 0
first_limit (Run file) = script_file_limit

-- the most bytes of the file that is read behind it
abbrev pub last_limit : Request → ℕ
last_limit (Ask wish layout text file) = records_limit wish
last_limit request = record_file_limit

-- for this that was found first, a second file is read: the layout and the text stand
abbrev pub NeedsLast : Request → Option (List ℕ) → Type 0
NeedsLast (Ask wish layout text file) first = (p : PlanOf wish) × IsAsked wish first text p
NeedsLast request first = ⊥

-- What was read for a request: its first file, and behind that its last one, which is read only where the first was read to its end and needs it.
pub record ReadsFor (request : Request) (told : Option Contents) (old new : Option (List Read)) : Type 0 where
  pub first : List Read
  pub last : List Read
  pub noted : ReadsOn old new (first ++ last)
  pub first_is : AreReadsOf (first_file request) (first_limit request) first
  pub last_is : AreReadsOf (last_file request) (last_limit request) last
  pub in_place : last ≢ [] → (next_after (At 0) first ≡ Ended) × OfFile told (first_file request) (NeedsLast request)
