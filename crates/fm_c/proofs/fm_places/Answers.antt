use Rattle.fm_c.proofs.fm_places.Goals as goal

pub returns : goal.returns
returns c = record { came = c.list.result; did = c.list.ensures; told = c.tell.ensures.report; answers = c.tell.ensures.number }
