use Rattle.std.proofs.Common.{◌≡◌, ◌*◌, ◌/◌, ◌<◌, ◌≤◌, ℕ, ap, sym, ◌∙◌, subst, arith}
use Rattle.fm_words.specs.declared.shape.Shape.{Shape}
use Rattle.fm_rule_facts.specs.Views.{limit_of}
use Rattle.fm_pages.{specs.Covers.{Covering, page_bytes}, proofs.Parts.{of_way}}
use Rattle.fm_pages.proofs.Ranges.{covering_begins, covering_more, covering_all, covering_lacks, past_reach}
use Rattle.fm_pages.proofs.covering.cover.Goals as goal

pub loop-part-init : goal.loop-part-init
loop-part-init g c =
    let size : page_bytes c.args.pass.now ≡ c.from-bytes.result * 8 =
    ap (λ (z : Shape). z.page_words * 8) (c.requires.of.1 ∙ sym c.shape-shape.ensures.shape) ∙ ap (λ (n : ℕ). n * 8) (sym c.from-bytes.ensures) in (
      c.requires.of,
      subst (λ (n : ℕ). Covering c.args.pass.now c.args.pass.now c.args.id c.args.from c.args.to (c.args.from / n)) size
          (covering_begins c.args.id c.args.from c.args.to c.number-number.ensures.sound c.requires.none),
    )

pub returns-then-from-bytes : goal.returns-then-from-bytes
returns-then-from-bytes g c =
    let size : page_bytes c.args.pass.now ≡ c.from-bytes.result * 8 =
    ap (λ (z : Shape). z.page_words * 8) (c.requires.of.1 ∙ sym c.shape-shape.ensures.shape) ∙ ap (λ (n : ℕ). n * 8) (sym c.from-bytes.ensures) in
    covering_all c.loop-part.invariant.1 c.number-number.ensures.sound
    (subst (λ (n : ℕ). c.args.to ≤ n) ((λ j. c.from.ensures j * sym size j)) c.if-from-bytes.true)

pub returns-then-not-provide : goal.returns-then-not-provide
returns-then-not-provide g c =
    let size : page_bytes c.args.pass.now ≡ c.from-bytes.result * 8 =
    ap (λ (z : Shape). z.page_words * 8) (c.requires.of.1 ∙ sym c.shape-shape.ensures.shape) ∙ ap (λ (n : ℕ). n * 8) (sym c.from-bytes.ensures) in
    covering_lacks c.loop-part.invariant.1 (subst (λ (n : ℕ). c.args.from / n ≤ c.loop-part.part) (sym size) c.loop-part.auto.part)
    (subst (λ (n : ℕ). n < c.args.to) ((λ j. c.from.ensures j * sym size j)) c.if-from-bytes.false) c.if-not-provide.ensures

pub loop-part-preserved : goal.loop-part-preserved
loop-part-preserved g c =
    let size : page_bytes c.args.pass.now ≡ c.from-bytes.result * 8 =
    ap (λ (z : Shape). z.page_words * 8) (c.requires.of.1 ∙ sym c.shape-shape.ensures.shape) ∙ ap (λ (n : ℕ). n * 8) (sym c.from-bytes.ensures) in
    let t = c.if-not-provide.ensures in (
      of_way c.args.pool.now t.way c.loop-part.invariant.0,
      covering_more c.loop-part.invariant.1
          (subst (λ (n : ℕ). c.args.from / n ≤ c.loop-part.part) (sym size) c.loop-part.auto.part)
          (subst (λ (n : ℕ). n < c.args.to) ((λ j. c.from.ensures j * sym size j)) c.if-from-bytes.false) t,
    )

pub returns : goal.returns
returns g c =
    let shape : c.args.pool.now.shape ≡ c.args.pass.now.shape = sym c.requires.of.1 in
    let reach : c.shape-shape.result.reach ≡ c.args.pass.now.shape.reach = ap (λ (z : Shape). z.reach) (c.shape-shape.ensures.shape ∙ shape) in
    let past = c.loop-part-test.false in
    covering_all c.loop-part.invariant.1 c.number-number.ensures.sound
    (past_reach c.args.pass.now.shape c.loop-part.part c.args.to (omega arith) (subst (λ (z : Shape). c.args.to ≤ limit_of z) shape c.requires.within))
