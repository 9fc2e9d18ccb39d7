-- Which calls of an object in memory fail.
use Rattle.std.specs.Prelude.{◌≡◌, ℕ, ◌+◌, ◌≤◌, List, min, Bool, if◌then◌else◌, Contains, ◌↔◌, IsTrue}
use Rattle.fm_io.specs.{Count.{last_count}, declared.failing.Failing.{Failing}}

-- the numbers, from 0, of the calls that fail
abbrev pub listed_calls : Failing → List ℕ
listed_calls f = f.listed.items

-- how many calls were made
abbrev pub calls_made : Failing → ℕ
calls_made f = f.calls

-- how many of them failed
abbrev pub calls_failed : Failing → ℕ
calls_failed f = f.faults

-- One more call was made; it fails where its number is listed.
pub record CountsCall (old new : Failing) (answer : Bool) : Type 0 where
  pub listed : listed_calls new ≡ listed_calls old
  pub made : calls_made new ≡ min (calls_made old + 1) last_count
  pub fails : IsTrue answer ↔ Contains (listed_calls old) (calls_made old)
  pub failed : calls_failed new ≡ (if answer then min (calls_failed old + 1) last_count else calls_failed old)
  pub stay : calls_failed old ≤ calls_failed new
