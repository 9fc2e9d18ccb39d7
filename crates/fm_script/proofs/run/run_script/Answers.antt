use Rattle.std.{proofs.Common.{List, Result, sym, ◌∙◌, subst}, specs.Prelude.{IfOk}}
use Rattle.fm_script_text.specs.declared.line.Line.{Line}
use Rattle.fm_script.specs.{declared.{main_lines.MainLines.{MainLines}, player.Player.{Player}}, Runs.{CanRun, Ran}}
use Rattle.fm_script.proofs.Beginning.{begun, can_run, has_run}
use Rattle.fm_script.proofs.run.run_script.Goals as goal

pub run_over-pass-requires-clause-can : goal.run_over-pass-requires-clause-can
run_over-pass-requires-clause-can g c κs within =
    let b = begun c.args.script.now c.lines-lines.ensures c.shape.ensures c.as_slice-all.ensures.value c.in_ok-order.ensures.lines
    c.as_slice.ensures.value c.in_ok-order.ensures.starts c.in_ok-players.ensures c.shape-2.ensures c.in_ok-pool.ensures.pass in
    subst (λ (ls : List Line). CanRun c.in_ok-names.names ls c.in_ok-pool.pass c.in_ok-players.players.items) (sym c.lines-lines.ensures)
    (can_run c.args.script.now c.requires _ _ _ _ b.in_printing c.in_ok-names.ensures b.are_starts b.are_players _ _ b.first
    c.in_ok-pool.ensures.sound)

pub report_run-requires : goal.report_run-requires
report_run-requires g c =
    let names = c.in_ok-names.names in
    let p = c.in_ok-pool.pass in
    let q = c.run_over-pass.result.0 in
    let players : List Player = c.in_ok-players.players.items in
    let next : List Player = c.run_over-pass.new.players.items in
    let main : MainLines = c.in_ok-main.main in
    let b = begun c.args.script.now c.lines-lines.ensures c.shape.ensures c.as_slice-all.ensures.value c.in_ok-order.ensures.lines
    c.as_slice.ensures.value c.in_ok-order.ensures.starts c.in_ok-players.ensures c.shape-2.ensures c.in_ok-pool.ensures.pass in
    let got : Ran names c.lines-lines.result.now p q players next main =
    subst (λ (r : Result MainLines _). IfOk r (λ m. Ran names c.lines-lines.result.now p q players next m)) c.in_ok-main.was
    c.run_over-pass.ensures.ran in
    let ran : Ran names c.args.script.now.lines p q players c.as_slice-2.result.now main =
    subst (λ (ps : List Player). Ran names c.args.script.now.lines p q players ps main) (sym c.as_slice-2.ensures.value)
    (subst (λ (ls : List Line). Ran names ls p q players next main) c.lines-lines.ensures got) in
    has_run c.args.script.now c.requires _ names _ players b.in_printing c.in_ok-names.ensures b.are_starts b.are_players _ p b.first
    c.in_ok-pool.ensures.sound c.in_ok-pool.pool q c.caller-caller.result c.as_slice-2.result.now main c.in_ok-finished.finished
    (c.in_ok-pool.ensures.pool ∙ c.shape-2.ensures) c.caller-caller.ensures.caller ran c.in_ok-finished.ensures.finishes
