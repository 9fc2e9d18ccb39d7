use Rattle.std.proofs.Common.{refl, ap}
use Rattle.fm_script_lines.{specs.declared.{outcome.LineOutcome.{LineOutcome}, reply.Reply.TheVariants.{Fine}}, proofs.Handled.{line_started, line_not_started}}
use Rattle.fm_script_lines.proofs.Opening.{told_fine, told_refused}
use Rattle.fm_script_lines.proofs.arenas.open_automatic.Goals as goal

pub returns-in-Ok-clause-ran : goal.returns-in-Ok-clause-ran
returns-in-Ok-clause-ran g c = rw c.arena.ensures (line_started c.in-Ok.handle c.in-Ok.ensures)

pub returns-in-Err-clause-ran : goal.returns-in-Err-clause-ran
returns-in-Err-clause-ran g c = line_not_started c.in-Err.refusal c.plain.result c.plain.ensures c.in-Err.ensures

pub returns-in-Ok-clause-slots : goal.returns-in-Ok-clause-slots
returns-in-Ok-clause-slots g c = told_fine c.in-Ok.handle Fine refl c.in-Ok.ensures.exact

pub returns-in-Err-clause-slots : goal.returns-in-Err-clause-slots
returns-in-Err-clause-slots g c =
    told_refused c.in-Err.refusal c.plain.result.reply (ap (λ (o : LineOutcome). o.reply) c.plain.ensures) c.in-Err.ensures.no_slot c.in-Err.ensures.exact
