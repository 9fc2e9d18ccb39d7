use Rattle.std.proofs.Common.{◌/◌, ◌%◌}
use Rattle.fm_words.specs.Places.{number_bits}
use Rattle.fm_rule.proofs.{Knowing.{at_number, group_low, place_below}, Seeking.{found_other, tried}}
use Rattle.fm_rule.proofs.pool.Pool.try_number.Goals as goal

pub peek-word-requires : goal.peek-word-requires
peek-word-requires c = place_below c.args.self.now.shape (number_bits _) (group_low c.args.self.now.shape _ c.requires.low) c.number_bits_place.ensures

pub returns-then-found-word : goal.returns-then-found-word
returns-then-found-word c =
    tried c.args.self.now c.args.giver.now c.step_take_number-found.new.pass c.args.number (c.args.number / 64) c.peek-word.result (c.args.number % 64)
    c.step_take_number-found.result c.without_bit.result (at_number c.args.number) c.without_bit.ensures _
    (found_other c.step_take_number-found.result c.peek-word.result c.without_bit.result c.if-found-word.true) c.requires.none c.requires.of
    c.step_take_number-found.ensures
