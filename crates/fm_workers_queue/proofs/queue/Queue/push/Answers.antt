use Rattle.std.proofs.Common.{◌+◌, ap, ◌∙◌, sym, subst}
use Rattle.fm_workers_queue.specs.{declared.account.Account.{Account}, Rule.{owns, uses}, Turns.{account_of}}
use Rattle.fm_workers_queue.proofs.Moves.{pushes}
use Rattle.fm_workers_queue.proofs.queue.Queue.push.Goals as goal

pub push_as-requires-clause-rule : goal.push_as-requires-clause-rule
push_as-requires-clause-rule g c = (
  pushes {Promises = g.P.Promise.promises} _ _ (account_of c.loop.turn) c.loop.left
      (ap (λ (v : Account g.row.T.Denot). owns v.role + uses v.role) c.loop.invariant.0.is ∙ c.requires.turn.role)
      (subst g.P.Promise.promises (sym c.loop.invariant.1) c.requires.promise),
  λ items views fair at. tt,
)
