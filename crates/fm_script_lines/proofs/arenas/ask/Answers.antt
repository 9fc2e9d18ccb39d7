use Rattle.std.proofs.Common.{sym, ◌∙◌}
use Rattle.fm_script_lines.{specs.Calls.{Asks}, proofs.Lines.{line_none}}
use Rattle.fm_script_lines.proofs.arenas.ask.Goals as goal

pub returns-in_default : goal.returns-in_default
returns-in_default c = line_none c.args.m.now _ (Asks c.args.m.now.caller) c.plain.result
    (sym c.arena.ensures ∙ c.in_default.is) c.requires.outside c.plain.ensures
