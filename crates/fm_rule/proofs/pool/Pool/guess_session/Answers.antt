use Rattle.fm_words.specs.Places.{session}
use Rattle.fm_rule.proofs.Knowing.{place_below}
use Rattle.fm_rule.proofs.pool.Pool.guess_session.Goals as goal

pub peek-requires : goal.peek-requires
peek-requires c = place_below _ (session _) c.if-slot-self.true c.session_place.ensures
