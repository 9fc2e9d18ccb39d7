use Rattle.fm_c.proofs.fm_query_make.Goals as goal

pub returns : goal.returns
returns c = record { came = c.make_query.result; did = c.make_query.ensures; told = c.tell.ensures.report; answers = c.tell.ensures.number }
