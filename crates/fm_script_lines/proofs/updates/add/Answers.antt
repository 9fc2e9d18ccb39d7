use Rattle.std.proofs.{Common.{◌≡◌, ℤ, refl, ap, subst, w64, Ok, Err, ◌∙◌, sym}, lemmas.Int.{to_z-of_z}}
use Rattle.fm_script_lines.specs.{Calls.{IsValue, Adds}, declared.reply.Reply.TheVariants.{Number, Refused}, Outcomes.{plain}}
use Rattle.fm_script_lines.proofs.Lines.{line_none, line_added}
use Rattle.fm_script_lines.proofs.updates.add.Goals as goal

pub returns-in_default-clause-ran : goal.returns-in_default-clause-ran
returns-in_default-clause-ran g c =
    line_none c.args.m.now _ (Adds c.args.m.now.caller c.args.cell.now c.args.value) c.plain.result (sym c.segment.ensures ∙ c.in_default.is) c.requires.outside
    c.plain.ensures

pub returns-in-Ok-clause-ran : goal.returns-in-Ok-clause-ran
returns-in-Ok-clause-ran g c =
    let value = subst (λ (z : ℤ). IsValue c.args.cell.now.kind z c.value_of-value.result) (to_z-of_z w64 c.args.value c.ranges.value)
    c.value_of-value.ensures in
    let said = subst (λ (z : ℤ). c.plain-in-Ok.result ≡ plain (Number z)) (to_z-of_z w64 c.number.result (record { sfits = c.number.type_inv }))
    c.plain-in-Ok.ensures in
    line_added _ c.in-Some.segment c.args.cell.now c.in_ok-handle.handle c.args.value c.value_of-value.result (Ok c.in-Ok.found)
    (Number c.number.result) _ (sym c.segment.ensures ∙ c.in-Some.is) c.in_ok-handle.ensures value said
    (ap (λ z. plain (Number z)) c.number.ensures) c.in-Ok.ensures.outside c.in-Ok.ensures.did

pub returns-clause-ran : goal.returns-clause-ran
returns-clause-ran g c =
    let value = subst (λ (z : ℤ). IsValue c.args.cell.now.kind z c.value_of-value.result) (to_z-of_z w64 c.args.value c.ranges.value)
    c.value_of-value.ensures in
    line_added _ c.in-Some.segment c.args.cell.now c.in_ok-handle.handle c.args.value c.value_of-value.result
    (Err c.in-Err.refusal) (Refused c.in-Err.refusal) _ (sym c.segment.ensures ∙ c.in-Some.is) c.in_ok-handle.ensures value
    c.plain-in-Err.ensures refl c.in-Err.ensures.outside c.in-Err.ensures.did
