use Rattle.fm_script_lines.proofs.Going.{went_on_none}
use Rattle.fm_script_lines.proofs.settling.spend_hold.Goals as goal

pub returns-in_default-clause-went : goal.returns-in_default-clause-went
returns-in_default-clause-went c = went_on_none c.args.m.now c.requires.outside
