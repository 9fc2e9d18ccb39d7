use Rattle.fm_script_lines.{specs.Standings.{hold_in, unheld}, proofs.Taking.{no_hold, none_taken}}
use Rattle.fm_script_lines.proofs.table.Table.take_hold.Goals as goal

pub returns-in_err-at-clause-took : goal.returns-in_err-at-clause-took
returns-in_err-at-clause-took c =
    none_taken unheld hold_in c.args.self.now c.args.name.now c.from_residual.result
    (no_hold c.args.self.now c.args.name.now c.own_place.result c.own_place.ensures c.in_err-at.was) c.from_residual.ensures
