use Rattle.std.proofs.Common.{refl}
use Rattle.fm_io.proofs.Sent.{front_sent}
use Rattle.fm_top_texts.proofs.writing.write_texts.Goals as goal

pub returns-clause-prefix : goal.returns-clause-prefix
returns-clause-prefix g c = front_sent c.in_ok-send_lines.ensures.sends c.send_rest.ensures.sends c.new-pending.ensures.bytes refl
