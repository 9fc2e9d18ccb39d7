use Rattle.std.proofs.{lemmas.Grind.{common_steps}, Common.{arith}}
use Rattle.fm_bench.{specs.Ready.{IsOpen}, proofs.{Pushing.{all_pushed}, Working.{all_open_on}}}
use Rattle.fm_bench.proofs.gates.hops.Goals as goal

pub loop-slot-preserved : goal.loop-slot-preserved
loop-slot-preserved g c =
    let made = c.in_ok-arena.ensures in (
      record {
        free = made.free.free;
        each = all_pushed (IsOpen c.filled.new.pass 1024) _ _ _ c.push.ensures.items
            (all_open_on c.loop-slot.arenas.items made.free.lasts c.loop-slot.invariant.0.each) made.open;
      },
      grind (arith, common_steps),
    )
