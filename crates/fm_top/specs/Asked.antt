-- What a command of the code asks for.
use Rattle.fm_top.specs.{Words.{Request, Sum, Layout, Ask, Demo, Run}, declared.command.Subcommand.{Subcommand}}
use Rattle.fm_top.specs.declared.command.Subcommand.TheVariants as command

abbrev pub request_of : Subcommand → Request
request_of (command.Sum words) = Sum words.size words.at words.kind words.file.now
request_of (command.Layout words) = Layout words.text words.file.now
request_of (command.Ask words) = Ask words.wish words.layout.now words.text.now words.file.now
request_of (command.Demo words) = Demo words.threads words.count
request_of (command.Run words) = Run words.file.now
