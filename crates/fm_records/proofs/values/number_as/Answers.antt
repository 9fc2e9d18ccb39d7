-- A value in one word, kept or read; or one in two.
use Rattle.std.proofs.{Common.{◌≡◌, ◌≤◌, ◌+◌, ◌%◌, ◌∙◌, ap, refl, w64, rules, arith}, lemmas.Int.{to_z-of_z}}
use mir.Val.{to_z, of_z}
use Rattle.fm_base.specs.declared.refusal.Refusal.TheVariants.{Closed}
use Rattle.fm_lanes.specs.Kind.{width_of}
use Rattle.fm_records.{specs.Words.{number_of}, proofs.Getting.{closed_inside, got_inside}}
use Rattle.fm_records.proofs.values.number_as.Goals as goal

pub returns-in-None : goal.returns-in-None
returns-in-None g c =
    let fits : c.args.place % 8 + width_of c.args.value.now.kind ≤ 8 =
    omega (arith, c.if-at-from-gt8.false, c.from.ensures, c.width.ensures, ap width_of c.requires.kind) in
    closed_inside g.K.Keep.keeps (g.K.Keep.kept c.args.kept.now) _ fits c.find-known.ensures Closed c.in-None.ensures

pub returns : goal.returns
returns g c =
    let fits : c.args.place % 8 + width_of c.args.value.now.kind ≤ 8 =
    omega (arith, c.if-at-from-gt8.false, c.from.ensures, c.width.ensures, ap width_of c.requires.kind) in
    let z = c.meant.result in
    let read : to_z w64 (of_z w64 z) ≡ z = to_z-of_z w64 z (search (rules, c.meant.type_inv)) in
    got_inside g.K.Keep.keeps (g.K.Keep.kept c.args.kept.now) _ fits c.find-known.ensures c.in-Some.found _ c.learn.ensures
    (read ∙ c.meant.ensures ∙ ap (number_of c.args.value.now) (rw (c.read-number.ensures, c.width-2.ensures, c.requires.kind) refl)) c.in-Some.ensures
