use Rattle.fm_text.proofs.Rows.{lie_in_rows, lie_apart}
use Rattle.fm_text.proofs.laws.slices_lie_apart.Goals as goal

pub returns-clause-rows : goal.returns-clause-rows
returns-clause-rows c = lie_in_rows

pub returns-clause-apart : goal.returns-clause-apart
returns-clause-apart c = lie_apart
