use Rattle.fm_words.specs.Places.{page_bits}
use Rattle.fm_rule.proofs.Knowing.{place_below}
use Rattle.fm_rule.proofs.pool.Pool.guess_pages.Goals as goal

pub peek-requires : goal.peek-requires
peek-requires c = place_below _ (page_bits _) c.requires c.page_bits_place.ensures
