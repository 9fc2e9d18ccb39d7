-- With which status the writing of a text ends.
use Rattle.std.{proofs.Common.{Result, Ok, Err, refl}, specs.Prelude.{⊤, IsErrOf, OnOk}}
use Rattle.fm_io.specs.{Count.{Counts, Raised}, Sink.{Appends, AppendsPrefix, SinkView}, declared.fault.Fault.{Fault, TheVariants.{Failed, Memory}}}
use Rattle.fm_top.specs.{Ending.{status_by}, Outcome.{Outcome}, Run.{Prints, printed, failed, stopped}}

pub prints_by : {before after : SinkView} (o : Outcome) (written : Result ⊤ Fault) → OnOk written (Appends before.written after.written o.text)
    → AppendsPrefix before.written after.written o.text → Counts Raised (IsErrOf written Failed) before.faults after.faults
    → Prints o before after (status_by o.status written)
prints_by o (Ok done) whole prefix counted = printed whole
prints_by o (Err Failed) whole prefix counted = failed (counted.rose refl) prefix
prints_by o (Err Memory) whole prefix counted = stopped prefix
