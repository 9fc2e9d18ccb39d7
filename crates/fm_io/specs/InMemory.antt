-- What contracts see of the files and the sinks in memory.
use Rattle.std.specs.Prelude.{◌≡◌, ◌≢◌, ℕ, ◌↔◌, min, List, Bool, None, Some, IsTrue, Result, Ok, Err, IfOk, IsErrOf, is_err}
use Rattle.fm_io.specs.{Count.{Raised}, Files.{Contents, HasBytes, TellsLongest, contents_of}, View.{FilesView}, declared.sure_files.SureFiles.{SureFiles}}
use Rattle.fm_io.specs.declared.{mem_files.MemFiles.{MemFiles}, mem_sink.MemSink.{MemSink}, sure_sink.SureSink.{SureSink}, failing.Failing.{Failing}}
use Rattle.fm_io.specs.declared.{fault.Fault.{Fault, TheVariants.{Failed, Memory}}, files.Piece.{Piece, TheVariants.{Missing}}}
use Rattle.fm_io.specs.Failing.{CountsCall, calls_failed}

abbrev pub sure_contents : SureFiles → Contents
sure_contents f = contents_of f.files.items

abbrev pub sure_misses : SureFiles → ℕ
sure_misses f = f.misses

-- they tell their files, and not their reads
abbrev pub sure_view : SureFiles → FilesView
sure_view f = record { holds = Some (sure_contents f); reads = None; faults = 0; misses = sure_misses f }

abbrev pub mem_contents : MemFiles → Contents
mem_contents f = contents_of f.files.items

abbrev pub mem_misses : MemFiles → ℕ
mem_misses f = f.misses

-- which reads fail, and how many have
abbrev pub mem_reads : MemFiles → Failing
mem_reads f = f.reads

-- the most bytes that a read gives
abbrev pub read_limit : MemFiles → ℕ
read_limit f = f.most

abbrev pub mem_view : MemFiles → FilesView
mem_view f = record { holds = Some (mem_contents f); reads = None; faults = calls_failed (mem_reads f); misses = mem_misses f }

-- A read of files in memory, with so much room, fails exactly where the call is one of those listed, and else gives as many bytes as the file
-- has from the place on, but no more than there is room for and than their limit.
pub record ReadsAsListed (old new : MemFiles) (name : List ℕ) (at room : ℕ) (result : Result Piece Fault) : Type 0 where
  pub fails : CountsCall (mem_reads old) (mem_reads new) (is_err result)
  pub never_memory : result ≢ Err Memory
  pub most : IfOk result (HasBytes (read_limit old))
  pub longest : IfOk result (TellsLongest (mem_contents old) name at (min room (read_limit old)))
  pub limit : read_limit new ≡ read_limit old
  pub missing : result ≡ Ok Missing → Raised (mem_misses old) (mem_misses new)

-- which writes fail, and how many have
abbrev pub mem_writes : MemSink → Failing
mem_writes s = s.writes

abbrev pub sure_written : SureSink → List ℕ
sure_written s = s.written.items

abbrev pub mem_written : MemSink → List ℕ
mem_written s = s.written.items

-- one more call was made, and it failed exactly where it is one of those listed
abbrev pub FailsAsListed : {X : Type 0} → Failing → Failing → Result X Fault → Type 0
FailsAsListed old new result = (b : Bool) × (IsTrue b ↔ IsErrOf result Failed) × CountsCall old new b
