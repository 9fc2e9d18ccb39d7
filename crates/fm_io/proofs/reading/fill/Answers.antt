use Rattle.std.proofs.{Common.{ℕ, ◌+◌, ◌≤◌, List, length, take, IfSome, Option, Ok, Err, refl, sym, ap, arith, subst}, lemmas.List.{length-take-le}}
use Rattle.fm_io.specs.{Files.{Contents, AreBytesFrom, TellsPiece}, Reads.{At}, declared.fault.Fault.TheVariants.{Failed, Memory}}
use Rattle.fm_io.{specs.declared.files.Piece.TheVariants.{Got, End, Missing}, proofs.Filled.{take-filled, filled-le, AreBytesFrom-more}}
use Rattle.fm_io.proofs.{Followed.{ReadsFile-more}, Left.{leaves_quiet, leaves_then}}
use Rattle.fm_io.proofs.reading.fill.Goals as goal

pub loop-n-preserved : goal.loop-n-preserved
loop-n-preserved g c =
    let n = c.loop-n.n in
    let more = c.in-Ok-Got.more in
    let buffer = c.loop-n.buf in
    let rest = c.read_at.new.buf in
    let told = (g.F.Files.view c.args.files.now).holds in
    let name = c.args.name.now in
    let read = rw c.in-Ok-Got.field-0-is at c.in-Ok-Got.ensures.bytes in
    let room : more ≤ length rest = omega (arith, read, c.read_at.auto.buf) in
    let piece : IfSome told (λ contents. TellsPiece contents name (c.args.at + n) rest (Got more)) =
    subst (λ (t : Option Contents). IfSome t (λ contents. TellsPiece contents name (c.args.at + n) rest (Got more)))
    c.loop-n.invariant.left.held (rw c.in-Ok-Got.field-0-is at c.in-Ok-Got.ensures.content) in
    record {
      within = filled-le n more buffer rest c.loop-n.invariant.within room;
      bytes = subst (λ (bytes : List ℕ). AreBytesFrom told name c.args.at bytes)
          (sym (take-filled n more buffer rest c.loop-n.invariant.within room))
          (AreBytesFrom-more told name (take n buffer) rest c.args.at n more (length-take-le n buffer c.loop-n.invariant.within) room c.loop-n.invariant.bytes
          piece);
      reads = ReadsFile-more buffer (Ok (Got more)) _ c.loop-n.invariant.reads c.loop-n.invariant.within c.loop-n.auto.buf
          (rw c.in-Ok-Got.field-0-is at c.in-Ok-Got.ensures.noted) (ap At (omega arith));
      left = leaves_then c.loop-n.invariant.left (leaves_quiet c.in-Ok-Got.ensures.left (λ e. absurd {A = ⊥} (cc))
          (λ e. absurd {A = ⊥} (let got = c.in-Ok-Got.field-0-is in cc)));
    }

pub returns-in-Ok-End-clause-reads : goal.returns-in-Ok-End-clause-reads
returns-in-Ok-End-clause-reads g c =
    ReadsFile-more c.loop-n.buf (Ok End) _ c.loop-n.invariant.reads c.loop-n.invariant.within c.loop-n.auto.buf
    (rw c.in-Ok-End.field-0-is at c.in-Ok-End.ensures.noted) (λ full. absurd (omega (arith, full, c.loop-n-test.true, c.loop-n.auto.buf)), λ short. refl)

pub returns-in-Ok-Missing-clause-reads : goal.returns-in-Ok-Missing-clause-reads
returns-in-Ok-Missing-clause-reads g c =
    ReadsFile-more c.loop-n.buf (Ok Missing) _ c.loop-n.invariant.reads c.loop-n.invariant.within c.loop-n.auto.buf
    (rw c.in-Ok-Missing.field-0-is at c.in-Ok-Missing.ensures.noted) tt

pub returns-in-Err-Failed-clause-reads : goal.returns-in-Err-Failed-clause-reads
returns-in-Err-Failed-clause-reads g c =
    ReadsFile-more c.loop-n.buf (Err Failed) _ c.loop-n.invariant.reads c.loop-n.invariant.within c.loop-n.auto.buf
    (rw c.in-Err-Failed.field-0-is at c.in-Err-Failed.ensures.noted) tt

pub returns-in-Err-Memory-clause-reads : goal.returns-in-Err-Memory-clause-reads
returns-in-Err-Memory-clause-reads g c =
    ReadsFile-more c.loop-n.buf (Err Memory) _ c.loop-n.invariant.reads c.loop-n.invariant.within c.loop-n.auto.buf
    (rw c.in-Err-Memory.field-0-is at c.in-Err-Memory.ensures.noted) tt

pub returns-clause-reads : goal.returns-clause-reads
returns-clause-reads g c =
    let told = c.loop-n.invariant.reads in
    record {
      reads = told.reads;
      noted = told.noted;
      follow = told.follow;
      goes = (λ full. told.goes, λ short. absurd (short (omega (arith, c.loop-n-test.false, c.loop-n.auto.buf, c.loop-n.invariant.within))));
    }
