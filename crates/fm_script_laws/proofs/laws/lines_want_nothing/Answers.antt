use Rattle.fm_script_laws.proofs.Replies.{no_line_wants}
use Rattle.fm_script_laws.proofs.laws.lines_want_nothing.Goals as goal

pub returns : goal.returns
returns c = no_line_wants
