use Rattle.std.proofs.{Common.{◌≡◌, ℤ, refl, ap, subst, w64, Ok, Err, ◌∙◌, sym}, lemmas.Int.{to_z-of_z}}
use Rattle.fm_script_lines.{specs.{declared.reply.Reply.TheVariants.{Number, Refused}, Calls.{Gets}, Outcomes.{plain}}, proofs.Lines.{line_none, line_got}}
use Rattle.fm_script_lines.proofs.accesses.get.Goals as goal

pub returns-in_default : goal.returns-in_default
returns-in_default c =
    line_none c.args.m.now _ (Gets c.args.m.now.caller c.args.cell.now) c.plain.result
    (sym c.segment.ensures ∙ c.in_default.is) c.requires.outside c.plain.ensures

pub returns-in-Ok : goal.returns-in-Ok
returns-in-Ok c =
    let said = subst (λ (z : ℤ). c.plain-in-Ok.result ≡ plain (Number z)) (to_z-of_z w64 c.number.result (record { sfits = c.number.type_inv }))
    c.plain-in-Ok.ensures in
    line_got _ c.in-Some.segment c.args.cell.now c.layout_of.result (Ok c.in-Ok.value) (Number c.number.result) _ (sym c.segment.ensures ∙ c.in-Some.is)
    c.layout_of.ensures.tree said (ap (λ z. plain (Number z)) c.number.ensures) c.in-Ok.ensures.outside c.in-Ok.ensures.did

pub returns : goal.returns
returns c =
    line_got _ c.in-Some.segment c.args.cell.now c.layout_of.result (Err c.in-Err.refusal) (Refused c.in-Err.refusal) _ (sym c.segment.ensures ∙ c.in-Some.is)
    c.layout_of.ensures.tree c.plain-in-Err.ensures refl c.in-Err.ensures.outside c.in-Err.ensures.did
