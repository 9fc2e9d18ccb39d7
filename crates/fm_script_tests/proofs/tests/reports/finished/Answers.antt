use Rattle.std.proofs.lemmas.Result.{IfOk-at_ok}
use Rattle.fm_script_tests.proofs.Finishing.{is_known}
use Rattle.fm_script_tests.proofs.tests.reports.finished.Goals as goal

-- The look leaves the pass with what it knew, and all that it has seen is the history.
pub returns : goal.returns
returns g c a known =
    let stands = c.a_crew_stands.ensures.at_look c.args.pool c.args.pass c.whole.new.pass c.whole.result c.whole.ensures in
    is_known c.args.pool c.whole.new.pass c.expect.result a (stands.of c.requires.of) (IfOk-at_ok _ c.expect.ensures c.finish.ensures.finishes)
    (stands.lasts.known a known)
