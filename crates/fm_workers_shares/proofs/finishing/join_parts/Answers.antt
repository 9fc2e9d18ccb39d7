use Rattle.std.proofs.Common.{refl}
use Rattle.fm_workers_jobs.specs.Turns.{IsTaker}
use Rattle.fm_workers_shares.specs.Placing.{turns_of}
use Rattle.fm_workers_shares.proofs.{Absorbing.{absorbed_none, absorbed_one, still_giver}, Popping.{middle, none_gone, one_gone}}
use Rattle.fm_workers_shares.proofs.finishing.join_parts.Goals as goal

pub loop-taker-init : goal.loop-taker-init
loop-taker-init g c = none_gone c.args.takers.items _ (absorbed_none c.requires.giver, refl)

pub absorb-requires-clause-giver : goal.absorb-requires-clause-giver
absorb-requires-clause-giver g c = still_giver (turns_of c.loop-taker.invariant.gone) c.requires.giver c.loop-taker.invariant.holds.0

pub absorb-requires-clause-taker : goal.absorb-requires-clause-taker
absorb-requires-clause-taker g c =
    middle (λ t. IsTaker c.args.jobs.now t.turn) _ _ _ _ c.in-Some.taker c.loop-taker.invariant.split c.in-Some.ensures.items c.requires.takers

pub loop-taker-preserved : goal.loop-taker-preserved
loop-taker-preserved g c = one_gone _ _ _ c.in-Some.taker _ _ c.loop-taker.invariant c.in-Some.ensures.items (λ gone h. (
  absorbed_one _ (turns_of gone) c.in-Some.taker.turn h.0 c.absorb.ensures,
  (c.loop-taker.whole, h.1, c.join.ensures),
))
