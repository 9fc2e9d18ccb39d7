use Rattle.std.proofs.Common.{◌∙◌}
use Rattle.fm_script_text.{specs.Rules.{given_back}, proofs.Keeping.{given_more}}
use Rattle.fm_script_text.proofs.names.Names.give_back.Goals as goal

pub returns-clause-given_back : goal.returns-clause-given_back
returns-clause-given_back c =
    given_more c.args.self.now.given_back c.insert.new.self c.in_ok-key.key c.in-Some.name.now (given_back c.args.command.now) c.in_ok-insert.ensures.updates
    (c.in_ok-key.ensures.ok ∙ c.text_of.ensures) c.in-Some.ensures
