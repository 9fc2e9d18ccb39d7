use Rattle.fm_pages.proofs.Finding.{placed_known}
use Rattle.fm_pages.proofs.placing.place_of.Goals as goal

pub returns-in-Some : goal.returns-in-Some
returns-in-Some c = placed_known c.number-number.ensures.sound c.in-Some.ensures
