use Rattle.std.proofs.Common.{◌∙◌}
use Rattle.fm_script_text.{specs.Rules.{made}, proofs.Keeping.{made_more}}
use Rattle.fm_script_text.proofs.names.Names.make.Goals as goal

pub returns-clause-made : goal.returns-clause-made
returns-clause-made c =
    made_more c.args.self.now.makers c.insert.new.self c.in_ok-key.key c.args.who c.in-Some.thing c.in-Some.name.now (made c.args.command.now)
    c.in_ok-insert.ensures.updates (c.in_ok-key.ensures.ok ∙ c.text_of.ensures) c.in-Some.ensures
