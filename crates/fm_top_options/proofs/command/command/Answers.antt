use Rattle.std.proofs.{Common.{◌≡◌}, lemmas.Result.{IfOk-weaker}}
use Rattle.clap.specs.Words.{AddsArg, app_of}
use Rattle.fm_top_options.{specs.Command.{command_app}, proofs.Built.{is_command}}
use Rattle.fm_top_options.proofs.command.command.Goals as goal

pub returns : goal.returns
returns c =
    IfOk-weaker c.arg-2.result (λ it. AddsArg c.in_ok-arg.field-0 c.words.result it) (λ it. app_of it ≡ command_app)
    (λ it added. is_command c.bare.ensures (c.in_ok-arg.ensures.shape c.threads.ensures.local) c.threads.ensures.rule
    (added.shape c.words.ensures.local) c.words.ensures.rule)
    c.arg-2.ensures
