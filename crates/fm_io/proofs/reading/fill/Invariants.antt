use Rattle.std.proofs.Common.{◌≡◌, ◌+◌, ◌≤◌, ◌-◌, length, take}
use Rattle.fm_io.specs.{Files.{AreBytesFrom}, Reads.{At, ReadsFile}, View.{Leaves}}
use Rattle.fm_io.proofs.reading.fill.Given as goal

-- the buffer's first n bytes are those of the file, and nothing else has changed
abbrev pub invariant-loop-n : goal.invariant-loop-n
invariant-loop-n g l =
    let old = g.F.Files.view l.fn.files in
    let new = g.F.Files.view l.files in
    record {
      within : l.n ≤ length l.buf;
      bytes : AreBytesFrom old.holds l.name l.at (take l.n l.buf);
      reads : ReadsFile old.reads new.reads l.name (length l.fn.buf) (l.at + length l.fn.buf) l.at (λ next. next ≡ At (l.at + l.n));
      left : Leaves ⊥ ⊥ old new;
    }

abbrev pub decreases-loop-n : goal.decreases-loop-n
decreases-loop-n g l = length l.initial.buf - l.n
