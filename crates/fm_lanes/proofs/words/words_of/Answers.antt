use Rattle.std.proofs.{Common.{◌≡◌, ◌/◌, ◌∙◌, length, arith}, lemmas.List.{length-take}}
use Rattle.fm_lanes.proofs.Reading.{whole_words, words_even, words_odd, little_tail}
use Rattle.fm_lanes.proofs.words.words_of.Goals as goal

pub returns-then-rest-gt0 : goal.returns-then-rest-gt0
returns-then-rest-gt0 c =
    let len : length c.read_u64_into.new.dst ≡ length c.args.bytes.now / 8 =
    omega (arith, c.read_u64_into.auto.dst, length-take (length c.args.bytes.now / 8) c.args.into.now) in
    words_odd c.read_u64_into.new.dst c.args.bytes.now c.args.into.now c.read_uint.result len
    (whole_words c.read_u64_into.new.dst c.args.bytes.now (length c.args.bytes.now / 8) len (omega arith) c.read_u64_into.ensures)
    c.requires c.if-rest-gt0.true (c.read_uint.ensures ∙ little_tail c.args.bytes.now)

pub returns-else-rest-gt0 : goal.returns-else-rest-gt0
returns-else-rest-gt0 c =
    let len : length c.read_u64_into.new.dst ≡ length c.args.bytes.now / 8 =
    omega (arith, c.read_u64_into.auto.dst, length-take (length c.args.bytes.now / 8) c.args.into.now) in
    words_even c.read_u64_into.new.dst c.args.bytes.now c.args.into.now
    (whole_words c.read_u64_into.new.dst c.args.bytes.now (length c.args.bytes.now / 8) len (omega arith) c.read_u64_into.ensures)
    c.requires c.if-rest-gt0.false
