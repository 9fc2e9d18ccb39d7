use Rattle.std.proofs.Common.{◌≤◌, ◌<◌, ◌∙◌, ap, length, drop, arith, subst}
use Rattle.std.proofs.lemmas.List.{take_rest}
use Rattle.byteorder.specs.Endian.{little_number}
use Rattle.fm_text.proofs.Ending.{part_before, part_ended}
use Rattle.fm_text.proofs.zero_ended.part_at.Goals as goal

pub returns-then-width-left : goal.returns-then-width-left
returns-then-width-left c =
    let bs = c.args.bytes.now in
    let rest = take_rest bs c.args.at in
    let w = c.requires.within in
    let s = c.requires.some in
    let h : c.args.at ≤ length c.args.bytes.now = omega arith in
    part_before bs c.args.at c.args.width c.read_uint.result h (subst (λ xs. c.args.width ≤ length xs) rest c.if-width-left.true)
    (c.read_uint.ensures ∙ ap (little_number c.args.width) rest)

pub returns-else-is_empty : goal.returns-else-is_empty
returns-else-is_empty c =
    let bs = c.args.bytes.now in
    let rest = take_rest bs c.args.at in
    let w = c.requires.within in
    let s = c.requires.some in
    let h : c.args.at ≤ length c.args.bytes.now = omega arith in
    let f = c.if-width-left.false in
    let more : length (drop c.args.at c.args.bytes.now) < c.args.width = subst (λ xs. length xs < c.args.width) rest (omega arith) in
    part_ended bs c.args.at c.args.width c.read_uint-else-is_empty.result h more w
    (c.read_uint-else-is_empty.ensures ∙ (λ j. little_number (length (rest j)) (rest j)))
