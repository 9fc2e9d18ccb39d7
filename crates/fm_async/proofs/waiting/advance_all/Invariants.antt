use Rattle.std.proofs.Common.{◌≡◌, length, vec_capacity}
use Rattle.fm_async.proofs.Rounds.{Round}
use Rattle.fm_async.proofs.waiting.advance_all.Given as goal

abbrev pub invariant-loop-i : goal.invariant-loop-i
invariant-loop-i l =
    Round l.pool l.initial.pass l.pass l.initial.closes.items l.closes.items l.i × (length l.closes.items ≡ length l.initial.closes.items)
    × (vec_capacity l.closes ≡ vec_capacity l.initial.closes)
