use Rattle.fm_group_laws.proofs.Reading.{read_alone}
use Rattle.fm_group_laws.proofs.laws.read_by_itself.Goals as goal

pub returns : goal.returns
returns c = read_alone
