-- The numbers are taken one by one.
use Rattle.std.proofs.{Common.{◌≡◌, ◌++◌, ◌∷◌, [], ◌∙◌, ap, sym, take, pos, of_z, to_z, w64, arith, rules}, lemmas.Int.{to_z-of_z}}
use Rattle.std.proofs.lemmas.{List.{take_all, take_more}, Result.{IfOk-from_err}}
use Rattle.fm_records.specs.Stored.{numbers_of}
use Rattle.fm_records.proofs.stored.Stored.longs.Goals as goal

pub loop-k-preserved : goal.loop-k-preserved
loop-k-preserved c =
    let n = to_z w64 (of_z w64 c.at.result) in
    let read : n ≡ c.at.result = to_z-of_z w64 c.at.result (search (rules, c.at.type_inv)) in
    c.in_ok-push.ensures.items ∙ ap (λ xs. xs ++ n ∷ []) c.loop-k.invariant ∙ ap (λ x. take c.loop-k.k (numbers_of c.args.self.now) ++ x ∷ []) (read ∙ c.at.ensures)
    ∙ sym (take_more (numbers_of c.args.self.now) c.loop-k.k (pos 0) (omega (arith, c.loop-k-test.true, c.len-k-end.ensures)))

pub returns-in_err-push : goal.returns-in_err-push
returns-in_err-push c = IfOk-from_err c.from_residual.result (λ longs. longs.items ≡ (numbers_of c.args.self.now)) c.from_residual.ensures.0

pub returns : goal.returns
returns c = c.loop-k.invariant ∙ take_all c.loop-k.k (numbers_of c.args.self.now) (omega (arith, c.loop-k-test.false, c.len-k-end.ensures))
