use Rattle.fm_pages.proofs.{Bids.{bids_begin, bids_go_on, bid_claimed, page_claimed}, Looking.{bid_none}}
use Rattle.fm_pages.proofs.claiming.claim.Goals as goal

pub loop-init : goal.loop-init
loop-init g c = bids_begin c.requires.of c.requires.none

pub try_page-requires-clause-of : goal.try_page-requires-clause-of
try_page-requires-clause-of g c = c.loop.invariant.of

pub try_page-requires-clause-none : goal.try_page-requires-clause-none
try_page-requires-clause-none g c = c.loop.invariant.none

pub finds_none-requires-clause-of : goal.finds_none-requires-clause-of
finds_none-requires-clause-of g c = c.loop.invariant.of

pub finds_none-requires-clause-none : goal.finds_none-requires-clause-none
finds_none-requires-clause-none g c = c.loop.invariant.none

pub returns-then-try_page : goal.returns-then-try_page
returns-then-try_page g c = page_claimed (bid_claimed c.loop.invariant _ c.if-try_page.ensures) c.of.ensures.same c.of.ensures.maker

pub loop-preserved-else-try_page : goal.loop-preserved-else-try_page
loop-preserved-else-try_page g c = bids_go_on c.loop.invariant c.if-try_page.ensures

pub returns-then-finds_none : goal.returns-then-finds_none
returns-then-finds_none g c = bid_none c.loop.invariant c.if-finds_none.ensures

pub loop-preserved : goal.loop-preserved
loop-preserved g c = bids_go_on c.loop.invariant c.if-finds_none.ensures
