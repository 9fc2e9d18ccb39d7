use Rattle.std.proofs.{Common.{ℤ, refl, subst, w64, Ok, Err, ◌∙◌, sym}, lemmas.Int.{to_z-of_z}}
use Rattle.fm_script_lines.{specs.{Calls.{IsValue, Sets}, declared.reply.Reply.TheVariants.{Fine, Refused}}, proofs.Lines.{line_none, line_set}}
use Rattle.fm_script_lines.proofs.accesses.set.Goals as goal

pub returns-in_default : goal.returns-in_default
returns-in_default g c =
    line_none c.args.m.now _ (Sets c.args.m.now.caller c.args.cell.now c.args.value) c.plain.result (sym c.segment.ensures ∙ c.in_default.is) c.requires.outside
    c.plain.ensures

pub returns-in-Ok : goal.returns-in-Ok
returns-in-Ok g c =
    let value = subst (λ (z : ℤ). IsValue c.args.cell.now.kind z c.value_of-value.result) (to_z-of_z w64 c.args.value c.ranges.value)
    c.value_of-value.ensures in
    line_set _ c.in-Some.segment c.args.cell.now c.layout_of.result c.args.value c.value_of-value.result (Ok tt) Fine _ (sym c.segment.ensures ∙ c.in-Some.is)
    c.layout_of.ensures.tree value c.plain-in-Ok.ensures refl c.in-Ok.ensures.outside c.in-Ok.ensures.did

pub returns : goal.returns
returns g c =
    let value = subst (λ (z : ℤ). IsValue c.args.cell.now.kind z c.value_of-value.result) (to_z-of_z w64 c.args.value c.ranges.value)
    c.value_of-value.ensures in
    line_set _ c.in-Some.segment c.args.cell.now c.layout_of.result c.args.value c.value_of-value.result (Err c.in-Err.refusal)
    (Refused c.in-Err.refusal) _ (sym c.segment.ensures ∙ c.in-Some.is) c.layout_of.ensures.tree value c.plain-in-Err.ensures refl c.in-Err.ensures.outside
    c.in-Err.ensures.did
