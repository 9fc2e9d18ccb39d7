use Rattle.std.proofs.Common.{ap, ◌∙◌}
use Rattle.fm_io.proofs.Sent.{front_sent}
use Rattle.fm_records.specs.Texts.{lines_text}
use Rattle.fm_records.proofs.writing.write_answer.Goals as goal

pub returns-clause-prefix : goal.returns-clause-prefix
returns-clause-prefix g c =
    front_sent c.in_ok-send_lines.ensures.sends c.send_rest.ensures.sends c.new-text.ensures.bytes
    (ap (λ items. lines_text items c.found.result.now) c.items.ensures.items ∙ ap (λ found. lines_text c.args.q.now.items found) c.found.ensures)
