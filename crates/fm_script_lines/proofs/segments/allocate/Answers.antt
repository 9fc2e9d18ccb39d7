use Rattle.std.proofs.Common.{ap, Ok, Err, refl, ◌∙◌, sym}
use Rattle.fm_script_lines.specs.declared.reply.Reply.TheVariants.{Refused}
use Rattle.fm_script_lines.{specs.{declared.outcome.LineOutcome.{LineOutcome}, Calls.{Allocates}}, proofs.Allocating.{pages_told, pages_untold}}
use Rattle.fm_script_lines.proofs.{Going.{ran_by_memory}, Lines.{line_none, line_some, plain_line, ran_as}}
use Rattle.fm_script_lines.proofs.segments.allocate.Goals as goal

pub returns-in_default-clause-ran : goal.returns-in_default-clause-ran
returns-in_default-clause-ran g c = line_none c.args.m.now _
    (Allocates c.args.m.now.caller c.args.size c.args.align) c.plain.result (sym c.arena.ensures ∙ c.in_default.is) c.requires.outside c.plain.ensures

pub returns-in_default-clause-pages : goal.returns-in_default-clause-pages
returns-in_default-clause-pages g c =
    pages_untold c.args.m.now c.args.m.now _ c.args.size c.args.align c.plain.result.reply (sym c.arena.ensures ∙ c.in_default.is)

pub returns-in-Err-clause-ran : goal.returns-in-Err-clause-ran
returns-in-Err-clause-ran g c =
    let a = c.in-Err.ensures.allocates in
    line_some _ c.in-Some.arena (Allocates c.args.m.now.caller c.args.size c.args.align) c.plain-in-Err.result (sym c.arena.ensures ∙ c.in-Some.is)
    (plain_line (Refused c.in-Err.refusal) c.plain-in-Err.result c.plain-in-Err.ensures
    (ran_as (ran_by_memory a.did a.outside) (λ own d. (Err c.in-Err.refusal, (a.comes, d), refl))))

pub returns-in-Ok-clause-pages : goal.returns-in-Ok-clause-pages
returns-in-Ok-clause-pages g c =
    pages_told _ c.in-Some.arena c.args.size c.args.align (Ok c.in-Ok.place) _ (sym c.arena.ensures ∙ c.in-Some.is) refl c.in-Ok.ensures.exact

pub returns-in-Err-clause-pages : goal.returns-in-Err-clause-pages
returns-in-Err-clause-pages g c =
    pages_told _ c.in-Some.arena c.args.size c.args.align (Err c.in-Err.refusal) c.plain-in-Err.result.reply (sym c.arena.ensures ∙ c.in-Some.is)
    (ap (λ (o : LineOutcome). o.reply) c.plain-in-Err.ensures) c.in-Err.ensures.exact
