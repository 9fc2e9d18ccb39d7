use Rattle.std.proofs.Common.{◌∙◌, ap}
use Rattle.clap.specs.Words.{app_of, is_simple_and_free}
use Rattle.fm_top_options.{specs.Options.{texts}, proofs.{Built.{is_free-command}, Taken.{all_text, matched_words, refused_words}}}
use Rattle.fm_top_options.proofs.matched.matched.Goals as goal

pub returns-in-Ok-clause-found : goal.returns-in-Ok-clause-found
returns-in-Ok-clause-found c =
    matched_words (app_of c.in_ok-command.field-0) (texts c.args.words.now) c.in-Ok.matches c.in_ok-command.ensures (all_text c.args.words.now)
    c.in-Ok.ensures.matches (c.in-Ok.ensures.kinds (ap is_simple_and_free c.in_ok-command.ensures ∙ is_free-command))

pub returns-clause-none : goal.returns-clause-none
returns-clause-none c =
    refused_words (app_of c.in_ok-command.field-0) (texts c.args.words.now) c.in-Err.error c.in_ok-command.ensures (all_text c.args.words.now)
    (c.in-Err.ensures.kinds (ap is_simple_and_free c.in_ok-command.ensures ∙ is_free-command))
    (λ out. c.in_default.not-OutOfMemory (c.kind.ensures ∙ out))
