use Rattle.fm_c.proofs.fm_at.Goals as goal

pub returns : goal.returns
returns c = record { came = c.find_at.result; did = c.find_at.ensures; told = c.tell.ensures.report; answers = c.tell.ensures.number }
