use Rattle.std.proofs.Common.{ap}
use Rattle.fm_segment.proofs.Exits.{gave}
use Rattle.fm_text.{specs.Texts.{text_bytes}, proofs.Getting.{text_past, text_got}}
use Rattle.fm_text.proofs.texts.get_text.Goals as goal

pub returns-in_err-rest : goal.returns-in_err-rest
returns-in_err-rest g c =
    text_past c.args.offset c.requires c.as_slice_from.ensures c.in_err-rest.was (ap text_bytes (gave c.from_residual.ensures.1))

pub returns : goal.returns
returns g c =
    text_got c.args.offset c.requires c.as_slice_from.ensures c.in_ok-rest.was
    (rw (c.arena.ensures, c.first.ensures.first, c.size.ensures.size) at c.get_text_at.ensures)
