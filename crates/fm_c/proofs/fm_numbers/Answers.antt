use Rattle.fm_c.proofs.fm_numbers.Goals as goal

pub returns : goal.returns
returns c = record { came = c.put_numbers.result; did = c.put_numbers.ensures; told = c.tell.ensures.report; answers = c.tell.ensures.number }
