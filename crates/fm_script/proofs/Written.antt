-- A script that was read is written.
use Rattle.std.proofs.Common.{List, ℕ}
use Rattle.fm_script_text.specs.Scripts.{IsScript, ScriptOf}
use Rattle.fm_script.specs.Runs.{IsWritten}

pub written : (bytes : List ℕ) (s : ScriptOf) → IsScript bytes s → IsWritten s
written bytes s is = record {
  valid = is.says_pool.is_valid;
  passes = is.passes;
  rules = record { said = is.lines.said; admitted = is.lines.admitted; settled = is.settled };
}
