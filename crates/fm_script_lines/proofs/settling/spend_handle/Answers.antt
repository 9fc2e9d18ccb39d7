use Rattle.fm_script_lines.proofs.Going.{went_on_none}
use Rattle.fm_script_lines.proofs.settling.spend_handle.Goals as goal

pub returns-in_default-clause-went : goal.returns-in_default-clause-went
returns-in_default-clause-went g c = went_on_none c.args.m.now c.requires.outside
