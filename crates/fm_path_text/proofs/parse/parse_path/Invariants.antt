use Rattle.fm_path_text.proofs.Parsing.{IsReading}
use Rattle.fm_path_text.proofs.parse.parse_path.Given as goal

abbrev pub invariant-loop-at : goal.invariant-loop-at
invariant-loop-at l = IsReading l.text l.at l.path.items l.part
