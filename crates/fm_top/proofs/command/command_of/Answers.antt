use Rattle.std.proofs.Common.{rules}
use Rattle.fm_top_options.specs.Options.{texts}
use Rattle.fm_top.proofs.Requests.{no_command, no_question}
use Rattle.fm_top.proofs.command.command_of.Goals as goal

pub returns-in-None-clause-none : goal.returns-in-None-clause-none
returns-in-None-clause-none c =
    no_command (texts c.args.words.now) (search rules) (search rules) (search rules) (search rules) (search rules)
    (no_question (texts c.args.words.now) (search rules) (search rules) (search rules)) (search rules) (search rules)
