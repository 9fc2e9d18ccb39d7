use Rattle.std.proofs.{Common.{sym, subst, arith}, lemmas.{Result.{err_from_is_err_and}}}
use Rattle.std.specs.Prelude.{List}
use Rattle.fm_group_lists.specs.Groups.{Group}
use Rattle.fm_group.proofs.AllRead.{ReadTo, read_ended, read_more, read_none}
use Rattle.fm_group.proofs.table.CountTable.read_places.Goals as goal

pub loop-run-init : goal.loop-run-init
loop-run-init g c =
    let v = g.M.Memory.view in
    subst (λ (xs : List Group). ReadTo (v c.args.m.now) (v c.args.m.now) c.args.self.now 0 xs) (sym c.new-found.ensures.items) (read_none c.requires)

pub returns-in_err-read_run-clause-did : goal.returns-in_err-read_run-clause-did
returns-in_err-read_run-clause-did g c =
    let p = err_from_is_err_and c.from_residual.result c.from_residual.ensures.1 in
    let runs = c.runs-run-end.ensures in
    rw (p.1, p.2) (read_ended c.loop-run.invariant c.read_run.new.found.items (let t = c.loop-run-test.true in let a = c.loop-run.auto in omega (arith, t, a, runs))
    c.in_err-read_run.field-0.0 c.in_err-read_run.ensures.did)

pub loop-run-preserved : goal.loop-run-preserved
loop-run-preserved g c = read_more c.loop-run.invariant c.read_run.new.found.items c.in_ok-read_run.ensures.did c.in_ok-read_run.ensures.outside
