use Rattle.fm_group_laws.proofs.Reading.{read_stands}
use Rattle.fm_group_laws.proofs.laws.read_as_it_stands.Goals as goal

pub returns : goal.returns
returns c = read_stands
