use Rattle.std.proofs.Common.{◌+◌, ◌-◌, ℕ, List, ◌++◌, Option, ap, sym, subst, ◌∙◌, arith}
use Rattle.fm_io.{specs.Files.{Contents}, proofs.{Left.{leaves_then}}}
use Rattle.fm_top_load.{specs.Whole.{IsPortion}, proofs.{Portions.{further_failed, further_on, portion_short}}}
use Rattle.fm_top_load.proofs.{Rest.{rest_more, rest_whole}, Telling.{read_quietly}}
use Rattle.fm_top_load.proofs.whole_file.read_rest.Goals as goal

pub portions-preserved : goal.portions-preserved
portions-preserved g c =
    let old = c.portions.invariant in
    let step = c.in_default-read.ensures in
    let at = c.args.stretch.now in
    let n = c.len-size.result in
    let len = c.len-size.ensures in
    let goes = sym c.ended.ensures ∙ c.if-ended.false in
    let past = c.requires.past in
    let short = portion_short at.at old.below old.next in
    let items = c.in-Ok.ensures.items ∙ ap (λ (bs : List ℕ). c.portions.bytes.items ++ bs) c.bytes.ensures in
    let more = rest_more at.at c.portions.bytes.items old.below old.next items old.first old.count in
    let count = more.1 in
    record {
      can = record { small = old.can.small; short = omega (arith, short, len) };
      below = omega (arith, short, len, past);
      next = subst (λ (told : Option Contents). IsPortion at.limit (at.most - (c.portions.size + n)) told at.name.now (at.at + (c.portions.size + n)) c.read.new.self)
          old.left.held step.took;
      first = more.0;
      count = omega (arith, count, len);
      reads = further_on at.limit at.at c.portions.size c.portions.portion n len old.reads c.read.new.self goes step.reads;
      left = leaves_then old.left (read_quietly step.tells);
    }

pub returns-in-Err-clause-reads : goal.returns-in-Err-clause-reads
returns-in-Err-clause-reads g c =
    let at = c.args.stretch.now in
    further_failed at.limit at.at c.portions.size c.portions.portion c.len-size.result c.len-size.ensures c.portions.invariant.reads
    (sym c.ended.ensures ∙ c.if-ended.false) c.in-Err.ensures.reads

pub returns-then-ended-clause-whole : goal.returns-then-ended-clause-whole
returns-then-ended-clause-whole g c =
    let old = c.portions.invariant in
    let items = c.in-Ok.ensures.items ∙ ap (λ (bs : List ℕ). c.portions.bytes.items ++ bs) c.bytes.ensures in
    rest_whole c.args.stretch.now.at c.portions.bytes.items old.below old.next items old.first old.count (sym c.ended.ensures ∙ c.if-ended.true)
