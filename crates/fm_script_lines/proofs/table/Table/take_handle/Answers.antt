use Rattle.fm_script_lines.{specs.Standings.{handed_back, handle_in}, proofs.Taking.{no_handle, none_taken}}
use Rattle.fm_script_lines.proofs.table.Table.take_handle.Goals as goal

pub returns-in_err-at-clause-took : goal.returns-in_err-at-clause-took
returns-in_err-at-clause-took c =
    none_taken handed_back handle_in c.args.self.now c.args.name.now c.from_residual.result
    (no_handle c.args.self.now c.args.name.now c.own_place.result c.own_place.ensures c.in_err-at.was) c.from_residual.ensures
