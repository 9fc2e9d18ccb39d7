use Rattle.std.proofs.Common.{◌≡◌, ◌+◌, ◌≤◌, length}
use Rattle.fm_script_text.specs.Scripts.{lines_of, numbered}
use Rattle.fm_script_text.proofs.sources.Sources.next.Given as goal

abbrev pub invariant-loop-text : goal.invariant-loop-text
invariant-loop-text l = record {
  lines : numbered l.self.number (lines_of l.self.rest.now) ≡ numbered l.initial.self.number (lines_of l.initial.self.rest.now);
  count : l.self.number + length (lines_of l.self.rest.now) ≡ l.initial.self.number + length (lines_of l.initial.self.rest.now);
  within : length l.self.rest.now ≤ length l.initial.self.rest.now;
}

abbrev pub decreases-loop-text : goal.decreases-loop-text
decreases-loop-text l = length l.self.rest.now
