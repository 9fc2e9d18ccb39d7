use Rattle.std.proofs.Common.{refl, ap}
use Rattle.fm_script_lines.{specs.declared.{outcome.LineOutcome.{LineOutcome}, reply.Reply.TheVariants.{Fine}}, proofs.Handled.{line_opened, line_not_opened}}
use Rattle.fm_script_lines.proofs.Opening.{told_fine, told_by_hand}
use Rattle.fm_script_lines.proofs.arenas.open_by_hand.Goals as goal

pub returns-in-Ok-clause-ran : goal.returns-in-Ok-clause-ran
returns-in-Ok-clause-ran g c = line_opened c.args.kind c.in-Ok.arena c.requires.by_hand c.in-Ok.ensures.opens

pub returns-in-Err-clause-ran : goal.returns-in-Err-clause-ran
returns-in-Err-clause-ran g c = line_not_opened c.args.kind c.in-Err.refusal c.plain.result c.plain.ensures c.in-Err.ensures.opens

pub returns-in-Ok-clause-slots : goal.returns-in-Ok-clause-slots
returns-in-Ok-clause-slots g c = told_fine c.in-Ok.arena Fine refl c.in-Ok.ensures.exact

pub returns-in-Err-clause-slots : goal.returns-in-Err-clause-slots
returns-in-Err-clause-slots g c =
    told_by_hand c.args.kind c.in-Err.refusal c.plain.result.reply (ap (λ (o : LineOutcome). o.reply) c.plain.ensures) c.in-Err.ensures.opens
    c.in-Err.ensures.exact
