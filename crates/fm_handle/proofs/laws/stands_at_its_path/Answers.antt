use Rattle.fm_handle.proofs.Touched.{stands_at_path}
use Rattle.fm_handle.proofs.laws.stands_at_its_path.Goals as goal

pub returns : goal.returns
returns c = stands_at_path
