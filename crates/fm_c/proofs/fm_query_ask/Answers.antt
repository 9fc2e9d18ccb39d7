use Rattle.fm_c.proofs.fm_query_ask.Goals as goal

pub returns-clause-told : goal.returns-clause-told
returns-clause-told c = record { came = c.ask_query.result; did = c.ask_query.ensures.text; told = c.tell.ensures.report; answers = c.tell.ensures.number }
