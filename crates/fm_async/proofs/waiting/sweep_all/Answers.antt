use Rattle.std.proofs.Common.{◌≡◌, length, refl, ◌∙◌, arith}
use Rattle.fm_async.proofs.Rounds.{sweeping_starts, sweeping_can, sweeping_ends, sweeping_on}
use Rattle.fm_async.proofs.waiting.sweep_all.Goals as goal

pub loop-waiting-init : goal.loop-waiting-init
loop-waiting-init c = (sweeping_starts _ c.requires.is c.requires.ended, refl)

pub sweep-requires : goal.sweep-requires
sweep-requires c = sweeping_can c.pop.new.self.items c.loop-waiting.invariant.0 c.in-Some.waiting c.in-Some.ensures.items

pub loop-waiting-preserved : goal.loop-waiting-preserved
loop-waiting-preserved c =
    (sweeping_on c.pop.new.self.items c.loop-waiting.invariant.0 c.in-Some.waiting c.in-Some.ensures.items c.sweep.ensures, c.in-Some.ensures.capacity ∙ c.loop-waiting.invariant.1)

pub returns-clause-sweeps : goal.returns-clause-sweeps
returns-clause-sweeps c =
    let none : length c.loop-waiting.closes.items ≡ 0 = (let n : c.loop-waiting.closes.len ≡ 0 = c.in_default.ensures.cases.0 in let l = c.loop-waiting.closes.ok.0 in omega arith) in
    sweeping_ends c.loop-waiting.invariant.0 none
