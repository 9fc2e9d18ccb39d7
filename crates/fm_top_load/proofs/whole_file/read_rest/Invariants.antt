use Rattle.std.proofs.Common.{◌≡◌, ◌+◌, ◌-◌, ◌<◌, length}
use Rattle.fm_io.specs.{Files.{AreBytesFrom}, View.{Leaves}}
use Rattle.fm_top_load.specs.{Reading.{GoesBy, ReadsFurther}, Whole.{CanRead, IsPortion}}
use Rattle.fm_top_load.proofs.whole_file.read_rest.Given as goal

-- the bytes so far are the file's first ones, and the next portion was read
abbrev pub invariant-portions : goal.invariant-portions
invariant-portions g l =
    let old = g.F.Files.view l.fn.files in
    let new = g.F.Files.view l.files in
    record {
      can : CanRead l.stretch.limit (l.stretch.at + l.size);
      below : l.size < l.stretch.most;
      next : IsPortion l.stretch.limit (l.stretch.most - l.size) old.holds l.stretch.name.now (l.stretch.at + l.size) l.portion;
      first : AreBytesFrom old.holds l.stretch.name.now 0 l.bytes.items;
      count : length l.bytes.items ≡ l.stretch.at + l.size;
      reads : ReadsFurther old.reads new.reads l.stretch.name.now l.stretch.limit
          (GoesBy l.fn.portion.ended (l.stretch.at + length l.fn.portion.bytes)) (GoesBy l.portion.ended (l.stretch.at + l.size + length l.portion.bytes));
      left : Leaves ⊥ ⊥ old new;
    }

abbrev pub decreases-portions : goal.decreases-portions
decreases-portions g l = l.stretch.most - l.size
