use Rattle.std.proofs.{Common.{ℕ, refl, subst}, lemmas.Result.{err_from_is_err_and}}
use Rattle.fm_c_calls.specs.{Grouped.{no_grouping, not_whole}, Whole.{AreNotWhole}}
use Rattle.fm_c_calls.proofs.groups.put_groups.Goals as goal

pub returns-in_err-path : goal.returns-in_err-path
returns-in_err-path c =
    let p = err_from_is_err_and c.from_residual.result c.from_residual.ensures.1 in
    rw (p.1, p.2) (refl, no_grouping c.in_err-path.ensures.refused)

pub returns-in-Err : goal.returns-in-Err
returns-in-Err c = (
  refl,
  not_whole c.in_ok-path.path c.in_ok-path.ensures.grouping
      (subst (λ (size : ℕ). AreNotWhole c.args.records.now size c.in-Err.refusal) c.root_size.ensures c.in-Err.ensures),
)
