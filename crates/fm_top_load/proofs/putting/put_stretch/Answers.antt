use Rattle.std.proofs.Common.{◌≡◌, ◌+◌, ◌-◌, ℕ, Bool, List, Option, Ok, Err, true, refl, ap, sym, subst, ◌∙◌, arith}
use Rattle.fm_io.{specs.{Files.{Contents}, Reads.{ReadsFile}}, proofs.Left.{leaves_none, leaves_then}}
use Rattle.fm_top_load.specs.{Filled.{AfterPutPortion}, Reading.{GoesBy, portion_limit}, Whole.{IsPortion}}
use Rattle.fm_top_load.proofs.{Alone.{fills, fills_refused, fills_some}, Portions.{further_failed, further_here, further_none, further_on, further_says, next_first, portion_fits, portion_short}}
use Rattle.fm_top_load.proofs.Puts.{can_put, hold_still, holds_outside, no_words, portion_put, portion_refused, put_before, put_nothing, stretch_put, words_on}
use Rattle.fm_top_load.proofs.Telling.{read_quietly, tells_none, tells_refused}
use Rattle.fm_top_load.proofs.putting.put_stretch.Goals.{then-ended-via-then-ended, then-ended-via-else-ended+then-size-stretch}
use Rattle.fm_top_load.proofs.putting.put_stretch.Goals as goal

pub portions-init : goal.portions-init
portions-init g c =
    let files = g.F.Files.view c.args.files.now in
    let short = c.requires.read.short in
    record {
      can = record { small = c.requires.read.small; short = omega (arith, short) };
      below = c.requires.some;
      more = omega arith;
      next = next_first c.requires.next;
      hold = c.requires.hold;
      words = no_words c.args.room;
      put = put_nothing (g.M.Memory.view c.args.m.now);
      reads = further_none c.args.stretch.now.limit c.args.stretch.now.at c.args.portion.now;
      left = leaves_none files (λ e. e) (λ e. e);
    }

pub put_portion-requires : goal.put_portion-requires
put_portion-requires g c =
    let old = c.portions.invariant in
    can_put c.args.stretch.now.at old.below old.next (g.M.Memory.view c.portions.m) c.args.room old.hold old.words c.bytes.result.now c.bytes.ensures

-- ---- a refusal

pub returns-in-Err-clause-did : goal.returns-in-Err-clause-did
returns-in-Err-clause-did g c =
    let old = c.portions.invariant in
    let v = g.M.Memory.view in
    let after = subst (λ (bs : List ℕ). AfterPutPortion g.M.Memory.nature (v c.portions.m) (v c.put_portion.new.m) c.args.room c.portions.size bs (Err c.in-Err.refusal))
    c.bytes.ensures c.in-Err.ensures in
    portion_refused c.args.stretch.now.at old.below old.next old.put c.in-Err.refusal after.did

pub returns-in-Err-clause-alone : goal.returns-in-Err-clause-alone
returns-in-Err-clause-alone g c h =
    let old = c.portions.invariant in
    let v = g.M.Memory.view in
    let at = c.args.stretch.now.at in
    let after = subst (λ (bs : List ℕ). AfterPutPortion g.M.Memory.nature (v c.portions.m) (v c.put_portion.new.m) c.args.room c.portions.size bs (Err c.in-Err.refusal))
    c.bytes.ensures c.in-Err.ensures in
    fills_refused c.args.stretch.now g.M.Memory.nature c.portions.size c.portions.portion c.in-Err.refusal c.args.room h (holds_outside (v c.portions.m) _ c.args.room old.hold)
    old.put (portion_fits at old.below old.next) (portion_short at old.below old.next) old.words after

pub returns-in-Err-clause-reads : goal.returns-in-Err-clause-reads
returns-in-Err-clause-reads g c = further_says c.args.stretch.now.limit c.portions.invariant.reads (λ next by. tt)

pub returns-in-Err-clause-tells : goal.returns-in-Err-clause-tells
returns-in-Err-clause-tells g c = tells_refused c.in-Err.refusal tt c.portions.invariant.left

-- ---- the last portion

pub returns-then-ended-clause-did : goal.returns-then-ended-clause-did
returns-then-ended-clause-did g c =
    let old = c.portions.invariant in
    let v = g.M.Memory.view in
    let p = c.portions.portion in
    let len = c.len-size.ensures in
    let more = old.more in
    let after = subst (λ (bs : List ℕ). AfterPutPortion g.M.Memory.nature (v c.portions.m) (v c.put_portion.new.m) c.args.room c.portions.size bs (Ok tt))
    c.bytes.ensures c.in_default.ensures in
    stretch_put c.args.stretch.now.at old.below old.next old.put c.args.stretch.now c.args.portion.now refl refl refl refl after.are after.did
    (elim c.then-ended.branch [
      | then-ended-via-then-ended w ↦ (λ goes. let is : p.ended ≡ true = sym c.ended.ensures ∙ w.if-ended.true in absurd (cc))
      | then-ended-via-else-ended+then-size-stretch w ↦ (λ goes. let all = w.if-size-stretch.true in omega (arith, all, len))
    ])
    more _ (ap (λ n. c.portions.size + n) len) c.ended-then-ended.ensures

pub returns-then-ended-clause-alone : goal.returns-then-ended-clause-alone
returns-then-ended-clause-alone g c h = fills c.args.stretch.now h c.put_portion.ensures.outside (returns-then-ended-clause-did g c)

pub returns-then-ended-clause-reads : goal.returns-then-ended-clause-reads
returns-then-ended-clause-reads g c before from h =
    let at = c.args.stretch.now in
    let p = c.portions.portion in
    subst (λ (b : Bool). ReadsFile before (g.F.Files.view c.portions.files).reads at.name.now portion_limit (at.limit + 1) from
    (GoesBy b (at.at + (c.portions.size + c.len-size.result)))) (sym c.ended-then-ended.ensures)
    (further_here at.limit at.at c.portions.size p c.len-size.result c.len-size.ensures c.portions.invariant.reads before from h)

pub returns-then-ended-clause-tells : goal.returns-then-ended-clause-tells
returns-then-ended-clause-tells g c = tells_none c.portions.invariant.left

-- ---- a portion that wasn't read

pub returns-in-Err-read-clause-did : goal.returns-in-Err-read-clause-did
returns-in-Err-read-clause-did g c =
    let old = c.portions.invariant in
    let v = g.M.Memory.view in
    let after = subst (λ (bs : List ℕ). AfterPutPortion g.M.Memory.nature (v c.portions.m) (v c.put_portion.new.m) c.args.room c.portions.size bs (Ok tt))
    c.bytes.ensures c.in_default.ensures in
    put_before c.args.stretch.now c.args.portion.now c.in-Err-read.fault c.in-Err-read.ensures.tells.other
    (portion_put c.args.stretch.now.at old.below old.next old.put after.are after.did c.len-size.result c.len-size.ensures)

pub returns-in-Err-read-clause-alone : goal.returns-in-Err-read-clause-alone
returns-in-Err-read-clause-alone g c h =
    let old = c.portions.invariant in
    let v = g.M.Memory.view in
    let at = c.args.stretch.now.at in
    let len = c.len-size.ensures in
    let after = subst (λ (bs : List ℕ). AfterPutPortion g.M.Memory.nature (v c.portions.m) (v c.put_portion.new.m) c.args.room c.portions.size bs (Ok tt))
    c.bytes.ensures c.in_default.ensures in
    fills_some c.args.stretch.now h c.put_portion.ensures.outside (portion_put at old.below old.next old.put after.are after.did c.len-size.result len)
    (omega (arith, portion_fits at old.below old.next, len)) (omega (arith, portion_short at old.below old.next, len)) c.in-Err-read.ensures.tells.other

pub returns-in-Err-read-clause-reads : goal.returns-in-Err-read-clause-reads
returns-in-Err-read-clause-reads g c =
    let at = c.args.stretch.now in
    further_failed at.limit at.at c.portions.size c.portions.portion c.len-size.result c.len-size.ensures c.portions.invariant.reads
    (sym c.ended.ensures ∙ c.if-ended.false) c.in-Err-read.ensures.reads

-- ---- and one that was

pub portions-preserved : goal.portions-preserved
portions-preserved g c =
    let old = c.portions.invariant in
    let step = c.in_default-read.ensures in
    let v = g.M.Memory.view in
    let at = c.args.stretch.now in
    let n = c.len-size.result in
    let len = c.len-size.ensures in
    let goes = sym c.ended.ensures ∙ c.if-ended.false in
    let after = subst (λ (bs : List ℕ). AfterPutPortion g.M.Memory.nature (v c.portions.m) (v c.put_portion.new.m) c.args.room c.portions.size bs (Ok tt))
    c.bytes.ensures c.in_default.ensures in
    let fits = portion_fits at.at old.below old.next in
    let short = portion_short at.at old.below old.next in
    let other = c.if-size-stretch.false in
    let more = old.more in
    record {
      can = record { small = old.can.small; short = omega (arith, short, len) };
      below = omega (arith, fits, len, other);
      more = omega (arith, more, len);
      next = subst (λ (told : Option Contents). IsPortion at.limit (at.most - (c.portions.size + n)) told at.name.now (at.at + (c.portions.size + n)) c.read.new.self)
          old.left.held step.took;
      hold = hold_still (v c.portions.m) (v c.put_portion.new.m) at.most c.args.room old.hold c.put_portion.ensures.lasts c.put_portion.ensures.outside;
      words = words_on at.at old.below old.next (v c.portions.m) c.args.room old.hold old.words goes n len;
      put = portion_put at.at old.below old.next old.put after.are after.did n len;
      reads = further_on at.limit at.at c.portions.size c.portions.portion n len old.reads c.read.new.self goes step.reads;
      left = leaves_then old.left (read_quietly step.tells);
    }
