use Rattle.fm_records_query.proofs.Reading.{IsReading}
use Rattle.fm_records_query.proofs.parse.read.Given as goal

abbrev pub invariant-loop-at : goal.invariant-loop-at
invariant-loop-at l = IsReading l.text l.at l.spot
