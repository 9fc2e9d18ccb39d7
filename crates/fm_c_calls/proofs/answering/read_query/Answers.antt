use Rattle.std.proofs.{Common.{subst, List, ℕ}, lemmas.Result.{IfErr-weaker}}
use Rattle.fm_records_query.specs.Parsed.{IsNoQuery}
use Rattle.fm_c_calls.specs.Held.{no_record, no_text, no_query}
use Rattle.fm_c_calls.proofs.answering.read_query.Goals as goal

pub returns-in-Err-clause-refused : goal.returns-in-Err-clause-refused
returns-in-Err-clause-refused c = no_record c.in_ok-layout.layout c.in_ok-layout.ensures.layout c.in-Err.ensures

pub returns-in-Err-read_text-clause-refused : goal.returns-in-Err-read_text-clause-refused
returns-in-Err-read_text-clause-refused c =
    no_text c.in_ok-layout.layout c.in_ok-layout.ensures.layout c.in-Ok.ensures c.in-Err-read_text.ensures.refused

pub returns-clause-refused : goal.returns-clause-refused
returns-clause-refused c =
    let t = c.in_ok-layout.layout in
    IfErr-weaker c.parse_query.result _ _
    (λ e denied. no_query t c.in_ok-layout.ensures.layout c.in-Ok.ensures
    (subst (λ (bytes : List ℕ). IsNoQuery bytes t e) c.in-Ok-read_text.ensures.text denied)) c.parse_query.ensures.refused
