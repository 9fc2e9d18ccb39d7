use Rattle.fm_script_laws.proofs.Workers.{workers_find}
use Rattle.fm_script_laws.proofs.laws.finds_are_right.Goals as goal

pub returns : goal.returns
returns c = workers_find
