use Rattle.std.proofs.Common.{◌+◌, ◌-◌, ◌<◌, ◌≤◌, length}
use Rattle.fm_base.specs.View.{Did}
use Rattle.fm_io.specs.View.{Leaves}
use Rattle.fm_top_load.{specs.{Putting.{CanHoldAll}, Reading.{GoesBy, ReadsFurther}, Whole.{CanRead, IsPortion}}, proofs.Puts.{AreWords, PutSoFar}}
use Rattle.fm_top_load.proofs.putting.put_stretch.Given as goal

-- so many bytes of the stretch were put, and the next portion was read
abbrev pub invariant-portions : goal.invariant-portions
invariant-portions g l =
    let old = g.F.Files.view l.fn.files in
    let new = g.F.Files.view l.files in
    let v = g.M.Memory.view in
    record {
      can : CanRead l.stretch.limit (l.stretch.at + l.size);
      below : l.size < l.stretch.most;
      more : length l.fn.portion.bytes ≤ l.size + length l.portion.bytes;
      next : IsPortion l.stretch.limit (l.stretch.most - l.size) old.holds l.stretch.name.now (l.stretch.at + l.size) l.portion;
      hold : CanHoldAll (v l.m) l.room l.stretch.most;
      words : AreWords l.room l.size;
      put : Did (v l.fn.m) (v l.m) (PutSoFar old.holds l.stretch.name.now l.stretch.at (v l.fn.m).caller l.room l.size);
      reads : ReadsFurther old.reads new.reads l.stretch.name.now l.stretch.limit
          (GoesBy l.fn.portion.ended (l.stretch.at + length l.fn.portion.bytes)) (GoesBy l.portion.ended (l.stretch.at + l.size + length l.portion.bytes));
      left : Leaves ⊥ ⊥ old new;
    }

abbrev pub decreases-portions : goal.decreases-portions
decreases-portions g l = l.stretch.most - l.size
