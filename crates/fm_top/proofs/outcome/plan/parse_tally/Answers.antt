use Rattle.std.proofs.Common.{◌≡◌, Err, rules}
use Rattle.std.proofs.lemmas.Bool.{MatchBool-at_false}
use Rattle.fm_top.specs.Tallies.{no_bytes, no_list}
use Rattle.fm_top.proofs.outcome.plan.parse_tally.Goals as goal

pub returns-in_err-list-clause-refused : goal.returns-in_err-list-clause-refused
returns-in_err-list-clause-refused c =
    let is : c.from_residual.result ≡ Err c.in_err-list.field-0.0 = search rules in
    rw is (λ other. no_list c.in_err-list.field-0.0 c.in_err-list.ensures.refused other)

pub returns-else-is_tally-clause-refused : goal.returns-else-is_tally-clause-refused
returns-else-is_tally-clause-refused c =
    λ other. no_bytes _ c.in_ok-list.ensures.list (MatchBool-at_false _ _ c.if-is_tally.false c.is_tally.ensures)
