use Rattle.std.proofs.Common.{◌≡◌, vec_capacity}
use Rattle.fm_async.proofs.Rounds.{Sweeping}
use Rattle.fm_async.proofs.waiting.sweep_all.Given as goal

abbrev pub invariant-loop-waiting : goal.invariant-loop-waiting
invariant-loop-waiting l =
    Sweeping l.pool l.initial.pass l.pass l.initial.closes.items l.closes.items × (vec_capacity l.closes ≡ vec_capacity l.initial.closes)

abbrev pub decreases-loop-waiting : goal.decreases-loop-waiting
decreases-loop-waiting l = goal.left-loop-waiting l
