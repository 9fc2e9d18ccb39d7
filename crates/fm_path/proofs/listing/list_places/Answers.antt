-- The head, and then the lines.
use Rattle.std.proofs.Common.{[]}
use Rattle.fm_path.proofs.Lines.{lines_listed}
use Rattle.fm_path.proofs.listing.list_places.Goals as goal

pub returns-clause-text : goal.returns-clause-text
returns-clause-text c =
    simp (
      c.in_ok-list.ensures,
      c.in_ok-text.ensures.ok,
      c.size-size.ensures.size,
      c.alignment-alignment.ensures.alignment,
      lines_listed c.args.layout.now [] 0 [],
    )
