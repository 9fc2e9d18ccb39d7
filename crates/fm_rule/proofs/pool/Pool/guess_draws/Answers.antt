use Rattle.fm_words.specs.Places.{draw}
use Rattle.fm_rule.proofs.Knowing.{place_below}
use Rattle.fm_rule.proofs.pool.Pool.guess_draws.Goals as goal

pub peek-draws-requires : goal.peek-draws-requires
peek-draws-requires c = place_below _ draw tt c.draw_place.ensures
