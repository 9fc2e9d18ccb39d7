use Rattle.fm_script_lines.proofs.Going.{went_on_none}
use Rattle.fm_script_lines.proofs.settling.spend.Goals as goal

pub returns-in-Nothing-clause-went : goal.returns-in-Nothing-clause-went
returns-in-Nothing-clause-went g c = went_on_none c.args.m.now c.requires.outside

pub returns-in-Arena-clause-went : goal.returns-in-Arena-clause-went
returns-in-Arena-clause-went g c = went_on_none c.args.m.now c.requires.outside

pub returns-in-Segment-clause-went : goal.returns-in-Segment-clause-went
returns-in-Segment-clause-went g c = went_on_none c.args.m.now c.requires.outside
