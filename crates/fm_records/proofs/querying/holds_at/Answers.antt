-- A condition's value is read and compared.
use Rattle.std.proofs.{Common.{◌≡◌, refl, ap, ◌∙◌, arith, w64, rules}, lemmas.Int.{to_z-of_z}}
use mir.Val.{to_z, of_z}
use Rattle.fm_base.specs.declared.refusal.Refusal.TheVariants.{Closed}
use Rattle.fm_records.{specs.Answers.{compares}, proofs.Testing.{test_closed, test_done, testable_lies}}
use Rattle.fm_records.proofs.querying.holds_at.Goals as goal

pub overflow_add-at : goal.overflow_add-at
overflow_add-at g c =
    let within = (testable_lies c.args.condition.now.path.value c.requires.testable refl c.offset.ensures).within in
    let ends = c.requires.can.ends in
    omega (arith, within, ends)

pub number_at-requires-clause-lies : goal.number_at-requires-clause-lies
number_at-requires-clause-lies g c = testable_lies c.value.result.now c.requires.testable c.value.ensures c.offset.ensures

pub returns-in-Some : goal.returns-in-Some
returns-in-Some g c =
    let x = c.args.condition.now in
    let n : to_z w64 (of_z w64 c.in-Some.number) ≡ c.in-Some.number = to_z-of_z w64 c.in-Some.number (search rules) in
    let l : to_z w64 (of_z w64 c.args.condition.now.literal) ≡ c.args.condition.now.literal = to_z-of_z w64 c.args.condition.now.literal (search rules) in
    test_done c.args.s.now c.args.place x c.args.kept.now c.number_at.new.kept c.value.result.now c.offset.result c.value.ensures c.offset.ensures c.in-Some.number c.compares.result
    (c.compares.ensures ∙ ap (λ z. compares x.operator z (to_z w64 (of_z w64 x.literal))) n ∙ ap (compares x.operator c.in-Some.number) l) c.in-Some.ensures

pub returns-in-None : goal.returns-in-None
returns-in-None g c =
    test_closed c.args.s.now c.args.place c.args.condition.now c.args.kept.now c.number_at.new.kept c.value.result.now c.offset.result c.value.ensures c.offset.ensures Closed
    c.in-None.ensures
