-- Text on its way to a sink: what was written of it, and what pends behind that.
use Rattle.std.specs.Prelude.{◌≡◌, ℕ, List, ◌++◌, Option, Result, OnOk, OnErr, IsErrOf}
use Rattle.fm_io.specs.{Count.{Counts, Raised}, Sink.{Appends, AppendsPrefix, SinkView}, declared.fault.Fault.{Fault, TheVariants.{Failed}}}

-- What was written and what pends are what they were before, and then these bytes.
pub record Passes (old new : Option (List ℕ)) (before after bytes : List ℕ) : Type 0 where
  pub written : List ℕ
  pub appended : Appends old new written
  pub whole : written ++ after ≡ before ++ bytes

-- How sending bytes behind the pending ones ends: they pend or are written, or after a fault a prefix was written.
pub record Sends (old new : SinkView) (before after bytes : List ℕ) (result : Result (Unit {0}) Fault) : Type 0 where
  pub passes : OnOk result (Passes old.written new.written before after bytes)
  pub prefix : OnErr result (AppendsPrefix old.written new.written (before ++ bytes))
  pub counted : Counts Raised (IsErrOf result Failed) old.faults new.faults
