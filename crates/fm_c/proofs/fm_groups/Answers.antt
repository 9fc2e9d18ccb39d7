use Rattle.fm_c.proofs.fm_groups.Goals as goal

pub returns : goal.returns
returns c = record { came = c.put_groups.result; did = c.put_groups.ensures; told = c.tell.ensures.report; answers = c.tell.ensures.number }
