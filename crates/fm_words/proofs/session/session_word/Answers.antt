use Rattle.std.proofs.Common.{ap, ◌∙◌}
use Rattle.fm_words.{specs.Sessions.{session_of}, proofs.{Sessions.{session_of-session_word}, Shifts.{joined_is}}}
use Rattle.fm_words.proofs.session.session_word.Goals as goal

pub returns-clause-word : goal.returns-clause-word
returns-clause-word c = joined_is c.args.s c.joined.result c.bits.result c.requires c.bits.ensures c.joined.ensures

pub returns-clause-back : goal.returns-clause-back
returns-clause-back c = ap session_of (joined_is c.args.s c.joined.result c.bits.result c.requires c.bits.ensures c.joined.ensures) ∙ session_of-session_word c.args.s c.requires
