use Rattle.std.{proofs.Common.{◌∙◌, ap, sym}, specs.Option.{option_map}}
use Rattle.fm_script_lines.proofs.Taking.{no_handle}
use Rattle.fm_script_lines.proofs.table.Table.handle.Goals as goal

pub returns-in_err-at : goal.returns-in_err-at
returns-in_err-at c =
    ap (option_map (λ h. h.now)) c.from_residual.ensures
    ∙ sym (no_handle c.args.self.now c.args.name.now c.own_place.result c.own_place.ensures c.in_err-at.was)
