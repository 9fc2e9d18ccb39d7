use Rattle.std.{specs.Option.{option_map}, proofs.Common.{ap}}
use Rattle.fm_script_lines.{specs.Calls.{TakesAgain}, proofs.{Handled.{line_again, line_not_again}, Lines.{line_none}}}
use Rattle.fm_script_lines.proofs.tokens.again.Goals as goal

pub returns-in-Ok : goal.returns-in-Ok
returns-in-Ok g c =
    line_again (option_map (λ h. h.now.arena) c.args.handle) c.in-Some.handle.now c.in-Ok.other (ap (option_map (λ h. h.now.arena)) c.in-Some.is)
    c.again.ensures.inside c.requires.outside c.in-Ok.ensures

pub returns-in-Err : goal.returns-in-Err
returns-in-Err g c =
    line_not_again (option_map (λ h. h.now.arena) c.args.handle) c.in-Some.handle.now c.in-Err.refusal c.plain-in-Err.result
    (ap (option_map (λ h. h.now.arena)) c.in-Some.is) c.plain-in-Err.ensures c.again.ensures.inside c.requires.outside c.in-Err.ensures

pub returns-in_default : goal.returns-in_default
returns-in_default g c =
    line_none c.args.m.now (option_map (λ h. h.now.arena) c.args.handle) (TakesAgain c.args.m.now.caller) c.plain.result
    (ap (option_map (λ h. h.now.arena)) c.in_default.is) c.requires.outside c.plain.ensures
