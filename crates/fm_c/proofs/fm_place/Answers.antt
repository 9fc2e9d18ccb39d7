use Rattle.fm_c.proofs.fm_place.Goals as goal

pub returns : goal.returns
returns c = record { came = c.put_place.result; did = c.put_place.ensures; told = c.tell.ensures.report; answers = c.tell.ensures.number }
