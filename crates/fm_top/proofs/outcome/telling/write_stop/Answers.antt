use Rattle.std.{proofs.Common.{List, ℕ, ◌++◌, codes, subst}, specs.Prelude.{OnOk}}
use Rattle.fm_io.specs.Sink.{Appends, AppendsPrefix}
use Rattle.fm_top.specs.Outcome.{line}
use Rattle.fm_top.proofs.outcome.telling.write_stop.Goals as goal

pub returns-in-ScriptRefused-clause-whole : goal.returns-in-ScriptRefused-clause-whole
returns-in-ScriptRefused-clause-whole g c =
    let told = g.O.Sink.view in
    let write = c.write_line-in-ScriptRefused in
    rw c.in-ScriptRefused.is (subst (λ (d : List ℕ). OnOk write.result (Appends (told c.args.out.now).written (told write.new.out).written
    (line (codes "script refused " ++ d))))
    c.format-in-ScriptRefused.ensures.text write.ensures.whole)

pub returns-in-ScriptRefused-clause-prefix : goal.returns-in-ScriptRefused-clause-prefix
returns-in-ScriptRefused-clause-prefix g c =
    let told = g.O.Sink.view in
    let write = c.write_line-in-ScriptRefused in
    rw c.in-ScriptRefused.is (subst (λ (d : List ℕ). AppendsPrefix (told c.args.out.now).written (told write.new.out).written
    (line (codes "script refused " ++ d)))
    c.format-in-ScriptRefused.ensures.text write.ensures.prefix)
