use Rattle.std.{proofs.{Common.{rules, w64, ◌≡◌, true, not, is_ok, Vec, Global, [], ◌∷◌, ◌++◌, Some, Err, Ok, ap, sym, ◌∙◌, arith}, lemmas.{Int.{to_z-of_z}, Result.{err_from_is_err_and}}}, specs.Prelude.{ℤ}}
use Rattle.fm_group_lists.specs.Groups.{Group}
use Rattle.fm_group.{specs.{Reading.{claim_of, count_of}, Table.{Counter, named_by}}, proofs.{OneRead.{named_free, named_no_memory, named_none, named_shut, named_taken}, ReadingOne.{read_as}}}
use Rattle.fm_group.proofs.table.CountTable.read_named.Goals.{in-Some+in_ok-number-in-Some+else-is_err, in-None}
use Rattle.fm_group.proofs.table.CountTable.read_named.Goals as goal

pub loop-place-init : goal.loop-place-init
loop-place-init g c = named_none c.args.words.now c.args.found.now.items c.requires

pub returns-in_err-number-in-Some-clause-did : goal.returns-in_err-number-in-Some-clause-did
returns-in_err-number-in-Some-clause-did g c =
    let p = err_from_is_err_and c.from_residual.result c.from_residual.ensures.1 in
    let values = ap (λ (w : Counter). w.values) c.self.view_is in
    let names : named_by c.args.self.now.values (claim_of c.args.words.now c.loop-place.place) ≡ Some c.in-Some.value =
    ap (λ v. named_by v (claim_of c.args.words.now c.loop-place.place)) (sym values) ∙ sym c.named.ensures ∙ c.in-Some.is in
    rw (p.1, p.2) (named_shut c.loop-place.invariant c.in-Some.value names (let t = c.loop-place-test.true in let a = c.loop-place.auto in omega (arith, t, a))
    c.in_err-number-in-Some.field-0.0 (read_as c.in-Some.value (Err c.in_err-number-in-Some.field-0.0) values c.in_err-number-in-Some.ensures.did)
    c.loop-place.found.items)

pub returns-then-is_err-clause-did : goal.returns-then-is_err-clause-did
returns-then-is_err-clause-did g c =
    let values = ap (λ (w : Counter). w.values) c.self.view_is in
    let names : named_by c.args.self.now.values (claim_of c.args.words.now c.loop-place.place) ≡ Some c.in-Some.value =
    ap (λ v. named_by v (claim_of c.args.words.now c.loop-place.place)) (sym values) ∙ sym c.named.ensures ∙ c.in-Some.is in
    named_no_memory c.loop-place.invariant c.in-Some.value names (let t = c.loop-place-test.true in let a = c.loop-place.auto in omega (arith, t, a))
    c.in_ok-number-in-Some.number (read_as c.in-Some.value (Ok c.in_ok-number-in-Some.number) values c.in_ok-number-in-Some.ensures.did) c.push.new.self.items

pub loop-place-preserved : goal.loop-place-preserved
loop-place-preserved g c =
    let values = ap (λ (w : Counter). w.values) c.self.view_is in
    let same : named_by c.args.self.now.values (claim_of c.args.words.now c.loop-place.place) ≡ c.named.result =
    ap (λ v. named_by v (claim_of c.args.words.now c.loop-place.place)) (sym values) ∙ sym c.named.ensures in
    elim c.match-named.branch [
      | in-Some+in_ok-number-in-Some+else-is_err w ↦ (
          let ok : is_ok w.push.result ≡ true = w.is_err.ensures.negation ∙ ap not w.if-is_err.false in
          let number = to_z-of_z w64 w.in_ok-number-in-Some.number (search (rules, w.number.type_inv)) in
          rw (
            w.m-is,
            ap (λ (f : Vec Group Global). f.items) w.found-is ∙ (rw ok at w.push.ensures.items)
                ∙ ap (λ (z : ℤ). c.loop-place.found.items ++ (z, count_of c.args.words.now c.loop-place.place) ∷ []) number,
          )
          (named_taken c.loop-place.invariant w.in-Some.value (same ∙ w.in-Some.is) w.in_ok-number-in-Some.number
          (read_as w.in-Some.value (Ok w.in_ok-number-in-Some.number) values w.in_ok-number-in-Some.ensures.did) w.in_ok-number-in-Some.ensures.outside))
      | in-None w ↦ rw (w.m-is, ap (λ (f : Vec Group Global). f.items) w.found-is) (named_free c.loop-place.invariant (same ∙ w.in-None.is))
    ]
