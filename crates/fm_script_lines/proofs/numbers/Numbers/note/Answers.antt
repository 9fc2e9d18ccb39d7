use Rattle.std.proofs.Common.{◌∙◌}
use Rattle.fm_script_text.specs.Rules.{made}
use Rattle.fm_script_lines.proofs.Numbering.{number_more}
use Rattle.fm_script_lines.proofs.numbers.Numbers.note.Goals as goal

pub returns : goal.returns
returns c =
    number_more c.args.self.now.makers c.insert.new.self c.in_ok-key.key c.args.number c.in-Some.field-0-1 c.in-Some.name.now (made c.args.line.now.command)
    c.in_ok-insert.ensures.updates (c.in_ok-key.ensures.ok ∙ c.text_of.ensures) c.in-Some.ensures
