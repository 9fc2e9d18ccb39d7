use Rattle.std.proofs.Common.{ap, sym, ◌∙◌, None, Some}
use Rattle.fm_script_lines.{specs.{Numbers.{number_at}, Standings.{hold_in}}, proofs.{Backing.{can_unhold}, Giving.{unheld_leaves, unheld_none, unheld_ran}}}
use Rattle.fm_script_lines.proofs.Naming.{standing-here}
use Rattle.fm_script_lines.proofs.returns.unhold.Goals as goal

pub returns-in_default-clause-ran : goal.returns-in_default-clause-ran
returns-in_default-clause-ran c =
    let p = c.args.m.now in let t = c.args.table.now in
    unheld_none p p t t c.args.hold.now c.plain.result c.in_default.ensures.took.0 c.requires.outside c.plain.ensures

pub returns-in_default-clause-leaves : goal.returns-in_default-clause-leaves
returns-in_default-clause-leaves c =
    let p = c.args.m.now in
    unheld_leaves p p c.args.table.now c.take_hold.new.self c.args.hold.now None c.in_default.ensures.keeps c.in_default.ensures.took

pub end_hold-requires-clause-can : goal.end_hold-requires-clause-can
end_hold-requires-clause-can c =
    let t = c.args.table.now in
    let took = c.in-Some.ensures.took in
    let here = standing-here t.base.now t.start t.own.items (number_at t.names.now c.args.hold.now) took.1.0 took.1.1.own in
    can_unhold c.args.m.now c.requires.ready.backs took.1.0 c.in-Some.hold took.1.1.own.within (ap hold_in (sym here) ∙ took.0)

pub returns-clause-ran : goal.returns-clause-ran
returns-clause-ran c =
    let t = c.args.table.now in
    unheld_ran c.args.m.now c.end_hold.new.m t t c.args.hold.now c.in-Some.hold c.plain-2.result c.in-Some.ensures.took.0 c.plain-2.ensures
    c.end_hold.ensures

pub returns-clause-leaves : goal.returns-clause-leaves
returns-clause-leaves c =
    let p = c.args.m.now in
    unheld_leaves p p c.args.table.now c.take_hold.new.self c.args.hold.now (Some c.in-Some.hold) c.in-Some.ensures.keeps c.in-Some.ensures.took
