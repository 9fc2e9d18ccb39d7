use Rattle.std.proofs.Common.{ap, sym, ◌∙◌, None, Some}
use Rattle.fm_script_lines.{specs.{Numbers.{number_at}, Standings.{handle_in}}, proofs.{Backing.{has_handle}, Giving.{handed_leaves, handed_none, handed_ran}}}
use Rattle.fm_script_lines.proofs.Naming.{standing-here}
use Rattle.fm_script_lines.proofs.returns.give_back.Goals as goal

pub returns-in_default-clause-ran : goal.returns-in_default-clause-ran
returns-in_default-clause-ran g c =
    let p = c.args.m.now in let t = c.args.table.now in
    handed_none p p t t c.args.handle.now c.plain.result c.in_default.ensures.took.0 c.requires.outside c.plain.ensures

pub returns-in_default-clause-leaves : goal.returns-in_default-clause-leaves
returns-in_default-clause-leaves g c =
    let p = c.args.m.now in
    handed_leaves p p c.args.table.now c.take_handle.new.self c.args.handle.now None c.in_default.ensures.keeps c.in_default.ensures.took

pub end_handle-requires : goal.end_handle-requires
end_handle-requires g c =
    let t = c.args.table.now in
    let took = c.in-Some.ensures.took in
    let here = standing-here t.base.now t.start t.own.items (number_at t.names.now c.args.handle.now) took.1.0 took.1.1.own in
    record {
      outside = c.requires.outside;
      has = has_handle c.args.m.now c.requires.ready.backs took.1.0 c.in-Some.handle took.1.1.own.within (ap handle_in (sym here) ∙ took.0);
    }

pub returns-clause-ran : goal.returns-clause-ran
returns-clause-ran g c =
    let t = c.args.table.now in
    handed_ran c.args.m.now c.end_handle.new.m t t c.args.handle.now c.in-Some.handle c.end_handle.result c.plain-2.result
    c.in-Some.ensures.took.0 c.plain-2.ensures c.end_handle.ensures

pub returns-clause-leaves : goal.returns-clause-leaves
returns-clause-leaves g c =
    let p = c.args.m.now in
    handed_leaves p p c.args.table.now c.take_handle.new.self c.args.handle.now (Some c.in-Some.handle) c.in-Some.ensures.keeps
    c.in-Some.ensures.took
