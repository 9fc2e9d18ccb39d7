use Rattle.std.proofs.Common.{◌≡◌, ◌*◌, ◌/◌, ◌≤◌, ℕ, ap, sym, ◌∙◌, subst, arith}
use Rattle.fm_words.specs.declared.shape.Shape.{Shape}
use Rattle.fm_rule_facts.specs.Views.{View, limit_of}
use Rattle.fm_pages.{specs.Covers.{page_bytes}, proofs.{Parts.{of_way, way_read, pages_way}, Ranges.{past_reach}}}
use Rattle.fm_gate.proofs.Readings.{Reading, reading_begins, reading_more, reading_all, reading_ends}
use Rattle.fm_gate.proofs.allocating.has_parts.Goals as goal

-- the bytes of a page
size_is : (z w : Shape) (v : View) (n : ℕ) → v.shape ≡ z → w ≡ z → n ≡ w.page_words → page_bytes v ≡ n * 8
size_is z w v n shape same words = ap (λ (x : Shape). x.page_words * 8) (shape ∙ sym same) ∙ ap (λ (x : ℕ). x * 8) (sym words)

pub loop-part-init : goal.loop-part-init
loop-part-init c =
    let v : View = c.args.pass.now in
    let of = c.requires.inside.of in
    let size = size_is c.args.pool.now.shape _ v c.from-bytes.result of.1 c.shape-shape.ensures.shape c.from-bytes.ensures in (
      of,
      subst (λ (n : ℕ). Reading v v c.args.from c.args.to (c.args.from / n)) size (reading_begins c.args.from c.args.to c.requires.sound c.requires.none),
    )

pub returns-then-from-bytes : goal.returns-then-from-bytes
returns-then-from-bytes c =
    let size = size_is c.args.pool.now.shape _ c.args.pass.now c.from-bytes.result c.requires.inside.of.1 c.shape-shape.ensures.shape c.from-bytes.ensures in
    reading_all c.args.id c.loop-part.invariant.1 c.requires.sound
    (subst (λ (n : ℕ). c.args.to ≤ n) ((λ j. c.from.ensures j * sym size j)) c.if-from-bytes.true)

pub returns-then-step_read_map-eq0 : goal.returns-then-step_read_map-eq0
returns-then-step_read_map-eq0 c = reading_ends c.step_read_map.result c.loop-part.invariant.1 c.step_read_map.ensures.stepped

pub loop-part-preserved : goal.loop-part-preserved
loop-part-preserved c =
    let i = c.loop-part.invariant in
    let s = c.step_read_map.ensures.stepped in (
      of_way c.args.pool.now (way_read c.loop-part.part c.step_read_map.result (pages_way i.1.way) s) i.0,
      reading_more c.step_read_map.result i.1 c.if-step_read_map-eq0.false s,
    )

pub returns : goal.returns
returns c =
    let shape : c.args.pool.now.shape ≡ c.args.pass.now.shape = sym c.requires.inside.of.1 in
    let reach : c.shape-shape.result.reach ≡ c.args.pass.now.shape.reach = ap (λ (z : Shape). z.reach) (c.shape-shape.ensures.shape ∙ shape) in
    let past = c.loop-part-test.false in
    reading_all c.args.id c.loop-part.invariant.1 c.requires.sound
    (past_reach c.args.pass.now.shape c.loop-part.part c.args.to (omega arith) (subst (λ (z : Shape). c.args.to ≤ limit_of z) shape c.requires.within))
