use Rattle.std.{proofs.{Common.{rules, ◌≡◌, ◌+◌, ◌%◌, ap, sym, ◌∙◌, subst, arith, Ok, Err}, lemmas.{Int.{to_z-of_z}, Result.{err_from_is_err_and}}}, specs.Int.{w64, cast_unsigned, cast_signed}}
use Rattle.fm_base_bytes.proofs.Powers.{IsPowerOfTwo-from_test}
use Rattle.fm_base.specs.{View.{Did}, declared.refusal.Refusal.TheVariants.{TableFull}}
use Rattle.fm_group.{specs.{Counting.{DoesTries, DoesTry}, Order.{first_of}, Table.{Counter, places_in}}, proofs.InTheirOrder.{counted_now, first_tried, has_places, passed_all, passed_more, passed_none, place_behind, stopped_now}}
use Rattle.fm_group.proofs.table.CountTable.try_places.Goals as goal

pub first_place-place-requires-clause-power : goal.first_place-place-requires-clause-power
first_place-place-requires-clause-power g c = λ yes. IsPowerOfTwo-from_test _ (sym c.self.invariant.2 ∙ yes)

pub loop-init : goal.loop-init
loop-init g c =
    let w = c.args.self.now in
    let z = cast_signed w64 (cast_unsigned w64 c.args.number) in
    let places = c.self.invariant.1 ∙ ap (λ (u : Counter). places_in u.table) c.self.view_is in
    record {
      passed = passed_none w c.args.ordinal (cast_signed w64 (cast_unsigned w64 c.args.number)) c.requires;
      place = first_tried w (cast_signed w64 (cast_unsigned w64 c.args.number)) c.first_place-place.result
          (c.first_place-place.ensures ∙ ap (λ k. first_of c.self.inside.order k (cast_signed w64 (cast_unsigned w64 c.args.number))) places
          ∙ ap (λ (u : Counter). first_of u.order (places_in w.table) (cast_signed w64 (cast_unsigned w64 c.args.number))) c.self.view_is)
          (has_places c.requires.table);
    }

pub returns-then-counted-clause-did : goal.returns-then-counted-clause-did
returns-then-counted-clause-did g c =
    let v = g.M.Memory.view in
    let z = c.args.number in
    let w = c.args.self.now in
    let read : cast_signed w64 (cast_unsigned w64 z) ≡ z = to_z-of_z w64 z (search rules) in
    let places = c.self.invariant.1 ∙ ap (λ (u : Counter). places_in u.table) c.self.view_is in
    let did = subst (λ b. Did (v c.loop.m) (v c.try_place.new.m) (DoesTry (v c.loop.m).caller w c.args.ordinal (cast_signed w64 (cast_unsigned w64 z)) c.loop.place (Ok b)))
    c.if-counted.true c.in_ok-counted.ensures.did in
    subst (λ y. Did (v c.args.m.now) (v c.try_place.new.m) (DoesTries (v c.args.m.now).caller w c.args.ordinal y (Ok c.loop.place))) read
    (counted_now c.loop.invariant.passed c.loop.invariant.place (let t = c.loop-test.true in omega (arith, t, places)) did)

pub returns-in_err-counted-clause-did : goal.returns-in_err-counted-clause-did
returns-in_err-counted-clause-did g c =
    let p = err_from_is_err_and c.from_residual.result c.from_residual.ensures.1 in
    let v = g.M.Memory.view in
    let z = c.args.number in
    let w = c.args.self.now in
    let read : cast_signed w64 (cast_unsigned w64 z) ≡ z = to_z-of_z w64 z (search rules) in
    let places = c.self.invariant.1 ∙ ap (λ (u : Counter). places_in u.table) c.self.view_is in
    rw (p.1, p.2) (subst (λ y. Did (v c.args.m.now) (v c.try_place.new.m) (DoesTries (v c.args.m.now).caller w c.args.ordinal y (Err c.in_err-counted.field-0.0))) read
    (stopped_now c.loop.invariant.passed c.loop.invariant.place (let t = c.loop-test.true in omega (arith, t, places)) c.in_err-counted.field-0.0
    c.in_err-counted.ensures.did))

pub loop-preserved : goal.loop-preserved
loop-preserved g c =
    let v = g.M.Memory.view in
    let z = c.args.number in
    let w = c.args.self.now in
    let places = c.self.invariant.1 ∙ ap (λ (u : Counter). places_in u.table) c.self.view_is in
    let did = subst (λ b. Did (v c.loop.m) (v c.try_place.new.m) (DoesTry (v c.loop.m).caller w c.args.ordinal (cast_signed w64 (cast_unsigned w64 z)) c.loop.place (Ok b)))
    c.if-counted.false c.in_ok-counted.ensures.did in
    record {
      passed = passed_more c.loop.invariant.passed c.loop.invariant.place did c.in_ok-counted.ensures.outside;
      place = place_behind c.args.self.now (cast_signed w64 (cast_unsigned w64 z)) c.loop.counter c.loop.place c.following-place.result c.loop.invariant.place
          (c.following-place.ensures ∙ ap (λ k. (c.loop.place + 1) % k) places);
    }

pub returns-clause-did : goal.returns-clause-did
returns-clause-did g c =
    let v = g.M.Memory.view in
    let z = c.args.number in
    let w = c.args.self.now in
    let read : cast_signed w64 (cast_unsigned w64 z) ≡ z = to_z-of_z w64 z (search rules) in
    let places = c.self.invariant.1 ∙ ap (λ (u : Counter). places_in u.table) c.self.view_is in
    subst (λ y. Did (v c.args.m.now) (v c.loop.m) (DoesTries (v c.args.m.now).caller w c.args.ordinal y (Err TableFull))) read
    (passed_all w c.args.ordinal (cast_signed w64 (cast_unsigned w64 z)) c.loop.counter c.loop.invariant.passed
    (let t = c.loop-test.false in let a = c.loop.auto in omega (arith, t, places, a)))
