use Rattle.std.proofs.Common.{sym, ap, ◌∙◌, arith}
use Rattle.fm_layout.{specs.{Depth.{deepest}, Parts.{children_of}, Views.{trees}}, proofs.{Deep.{deep_at}, Whole.{children_less_deep, whole}}}
use Rattle.fm_layout.proofs.layout.equality.+same.Goals as goal

pub same-same_all-requires : goal.same-same_all-requires
same-same_all-requires t c = (omega (arith, ap (λ ts. deepest (trees ts)) c.children.ensures, children_less_deep c.args.a.now, c.decreases), tt)

pub same-returns-then-same_head : goal.same-returns-then-same_head
same-returns-then-same_head t c = (
  (λ is. whole c.args.a.now c.args.b.now (c.same_head.ensures.0 c.if-same_head.true) (sym c.children.ensures ∙ c.same_all.ensures.0 is
      ∙ c.children-then-same_head.ensures)),
  (λ e. c.same_all.ensures.1 (c.children.ensures ∙ ap children_of e ∙ sym c.children-then-same_head.ensures)),
)

pub same_all-same-requires : goal.same_all-same-requires
same_all-same-requires t c = (omega (arith, deep_at c.args.a.now c.loop-i.i _ c.index-a-i.result c.loop-i-test.true c.index-a-i.is, c.decreases), tt)
