use Rattle.std.proofs.Common.{ap, ◌∙◌}
use Rattle.fm_workers_jobs.proofs.Moves.{pops}
use Rattle.fm_workers_jobs.proofs.jobs.Jobs.take.Goals as goal

pub pop_as-requires-clause-rule : goal.pop_as-requires-clause-rule
pop_as-requires-clause-rule g c = (pops _ _ (ap (λ v. v.role) c.loop.invariant.is ∙ c.requires.taker.role), λ items views fair at. tt)
