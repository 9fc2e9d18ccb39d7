use Rattle.fm_words.specs.Places.{slot_bits}
use Rattle.fm_rule.proofs.Knowing.{place_below}
use Rattle.fm_rule.proofs.pool.Pool.guess_slots.Goals as goal

pub peek-requires : goal.peek-requires
peek-requires c = place_below _ slot_bits tt c.slot_bits_place.ensures
