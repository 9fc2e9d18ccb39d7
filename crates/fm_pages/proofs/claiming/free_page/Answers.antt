use Rattle.fm_pages.proofs.Bids.{page_freed}
use Rattle.fm_pages.proofs.claiming.free_page.Goals as goal

pub returns : goal.returns
returns c = page_freed c.step_give_page.ensures
