use Rattle.std.proofs.Common.{arith}
use Rattle.fm_io.proofs.{Appended.{Appends-rest}, Counting.{counts_quiet, counts_then}}
use Rattle.fm_io.proofs.writing.write_text.Goals as goal

pub loop-taken-preserved : goal.loop-taken-preserved
loop-taken-preserved g c =
    let out = g.O.Sink.view in
    record {
      within = omega (arith, c.in_ok-taken.ensures.bytes);
      written = Appends-rest (out c.args.out.now).written (out c.loop-taken.out).written (out c.write.new.self).written c.args.text.now c.loop-taken.taken c.in_ok-taken.field-0
          c.loop-taken.invariant.written c.in_ok-taken.ensures.took;
      counted = counts_then c.loop-taken.invariant.counted (λ e. e) (counts_quiet c.in_ok-taken.ensures.counted (λ e. absurd {A = ⊥} (cc)));
    }
