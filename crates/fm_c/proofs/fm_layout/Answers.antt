use Rattle.fm_c.proofs.fm_layout.Goals as goal

pub returns : goal.returns
returns c = record { came = c.measure.result; did = c.measure.ensures; told = c.tell.ensures.report; answers = c.tell.ensures.number }
