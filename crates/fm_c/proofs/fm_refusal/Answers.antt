use Rattle.fm_c.proofs.fm_refusal.Goals as goal

pub returns : goal.returns
returns c = record { came = c.put_report.result; did = c.put_report.ensures; told = c.tell.ensures.report; answers = c.tell.ensures.number }
