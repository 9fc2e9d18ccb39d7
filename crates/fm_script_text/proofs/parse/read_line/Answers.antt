use Rattle.std.proofs.{Common.{refl}, lemmas.Bool.{MatchBool-at_false}}
use Rattle.fm_script_text.proofs.Commands.{not_admitted}
use Rattle.fm_script_text.proofs.parse.read_line.Goals as goal

pub returns-then-not-admits-clause-refused : goal.returns-then-not-admits-clause-refused
returns-then-not-admits-clause-refused c = (
  refl,
  λ before knows.
      not_admitted c.args.source.text.now c.in-Some.who c.in-Some.command before c.in-Some.ensures.says
      (MatchBool-at_false _ _ c.if-not-admits.true (c.admits.ensures before knows)),
)
