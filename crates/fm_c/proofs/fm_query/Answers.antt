use Rattle.fm_c.proofs.fm_query.Goals as goal

pub returns : goal.returns
returns c = record { came = c.put_answer.result; did = c.put_answer.ensures; told = c.tell.ensures.report; answers = c.tell.ensures.number }
