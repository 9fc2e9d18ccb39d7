use Rattle.std.proofs.Common.{sym, ◌∙◌}
use Rattle.fm_script_lines.{specs.Calls.{Holds}, proofs.Lines.{line_none, line_held, line_not_held}}
use Rattle.fm_script_lines.proofs.tokens.hold.Goals as goal

pub returns-in_default : goal.returns-in_default
returns-in_default g c = line_none c.args.m.now _ (Holds c.args.m.now.caller) c.plain.result
    (sym c.arena.ensures ∙ c.in_default.is) c.requires.outside c.plain.ensures

pub returns-in-Ok : goal.returns-in-Ok
returns-in-Ok g c = line_held _ c.in-Some.arena c.in-Ok.hold (sym c.arena.ensures ∙ c.in-Some.is) c.in-Ok.ensures

pub returns-in-Err : goal.returns-in-Err
returns-in-Err g c =
    line_not_held _ c.in-Some.arena c.in-Err.refusal c.plain-in-Err.result (sym c.arena.ensures ∙ c.in-Some.is) c.plain-in-Err.ensures c.in-Err.ensures
