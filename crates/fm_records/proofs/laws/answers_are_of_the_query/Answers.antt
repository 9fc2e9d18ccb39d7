use Rattle.fm_records.{specs.Records.{records}, proofs.Joining.{found_over_is}}
use Rattle.fm_records.proofs.laws.answers_are_of_the_query.Goals as goal

pub returns : goal.returns
returns c p bytes = found_over_is p (records p.size bytes)
