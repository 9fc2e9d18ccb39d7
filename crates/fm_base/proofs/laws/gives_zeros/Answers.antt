use Rattle.fm_base.proofs.Tidiness.{zeros_given}
use Rattle.fm_base.proofs.laws.gives_zeros.Goals as goal

pub returns : goal.returns
returns c = zeros_given
