use Rattle.std.proofs.Common.{ap, ◌∙◌}
use Rattle.fm_words.{specs.Sessions.{session_word}, proofs.{Sessions.{session_word-session_of}, Shifts.{masked_is}}}
use Rattle.fm_words.proofs.session.session_of.Goals as goal

pub returns-clause-session : goal.returns-clause-session
returns-clause-session c =
    let is = c.halves-generation.ensures in
    masked_is c.args.word c.halves-generation.result.0 c.halves-generation.result.1 c.of_bits.result is.high is.low c.of_bits.ensures

pub returns-clause-back : goal.returns-clause-back
returns-clause-back c =
    let is = c.halves-generation.ensures in
    ap session_word (masked_is c.args.word c.halves-generation.result.0 c.halves-generation.result.1 c.of_bits.result is.high is.low c.of_bits.ensures)
    ∙ session_word-session_of c.args.word
