-- The parts of a value in two words are put side by side.
use Rattle.std.proofs.{Common.{◌∙◌, ap, refl, w64, rules, arith}, lemmas.Int.{to_z-of_z}}
use Rattle.fm_lanes.{specs.Kind.{width_of}, proofs.Meaning.{width_of-bounds}}
use Rattle.fm_records.{specs.Words.{number_of}, proofs.ByWords.{placed}}
use Rattle.fm_records.proofs.values.number_between.Goals as goal

pub overflow_add-number : goal.overflow_add-number
overflow_add-number c =
    let p = placed c.args.low c.args.high c.args.at (width_of c.args.value.now.kind) c.requires.at c.requires.across (width_of-bounds c.args.value.now.kind).1 in
    rw (c.read.ensures, c.read-2.ensures, c.width.ensures, p.whole) (let f = p.fits in omega arith)

pub returns : goal.returns
returns c =
    let p = placed c.args.low c.args.high c.args.at (width_of c.args.value.now.kind) c.requires.at c.requires.across (width_of-bounds c.args.value.now.kind).1 in
    to_z-of_z w64 c.meant.result (search rules) ∙ c.meant.ensures
    ∙ ap (number_of c.args.value.now) (rw (c.read.ensures, c.read-2.ensures, c.width.ensures, p.whole) refl)
