use Rattle.fm_c.proofs.fm_texts.Goals as goal

pub returns : goal.returns
returns c = record { came = c.put_texts.result; did = c.put_texts.ensures; told = c.tell.ensures.report; answers = c.tell.ensures.number }
