-- What calls on files leave, one after another.
use Rattle.std.proofs.Common.{refl, ◌∙◌}
use Rattle.fm_io.{specs.View.{FilesView, Leaves}, proofs.Counting.{counts_none, counts_quiet, counts_then}}

-- no call
pub leaves_none : {Failed Missing : Type 0} (v : FilesView) → ¬ Failed → ¬ Missing → Leaves Failed Missing v v
leaves_none v fine there = record { held = refl; faults = counts_none v.faults fine; misses = counts_none v.misses there }

-- a call that neither failed nor missed
pub leaves_quiet : {Failed Missing : Type 0} {old new : FilesView} → Leaves Failed Missing old new → ¬ Failed → ¬ Missing → Leaves ⊥ ⊥ old new
leaves_quiet left fine there = record { held = left.held; faults = counts_quiet left.faults fine; misses = counts_quiet left.misses there }

-- quiet calls, and then one more
pub leaves_then : {Failed Missing : Type 0} {old mid new : FilesView} → Leaves ⊥ ⊥ old mid → Leaves Failed Missing mid new → Leaves Failed Missing old new
leaves_then first then = record {
  held = then.held ∙ first.held;
  faults = counts_then first.faults (λ e. e) then.faults;
  misses = counts_then first.misses (λ e. e) then.misses;
}
