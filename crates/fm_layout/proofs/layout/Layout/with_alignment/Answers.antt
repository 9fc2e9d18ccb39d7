use Rattle.std.proofs.Common.{refl, sym, ap, subst, ◌∙◌, arith}
use Rattle.fm_layout.{specs.{Tree.{Tree}, Size.{least_of}, Sound.{IsSound}, Parts.{IsPadding}, Views.{label, tree_of}}, proofs.Nodes.{realigned_node}}
use Rattle.fm_layout.proofs.layout.Layout.with_alignment.Goals as goal

-- The layout with the new alignment is sound.
sound : (c : goal.Else-n-least) → IsSound c.self.inside.size (tree_of c.self.inside.size (label c.args.n c.self.inside.name) c.self.inside.node)
sound c =
    let Other : Tree → Type 0 = λ t. ¬ (IsPadding t) in
    realigned_node c.self.inside.size c.args.n (label c.args.n c.self.inside.name) (label c.self.inside.alignment c.self.inside.name) c.self.inside.node
    c.self.invariant
    (subst Other (sym c.self.view_is) c.requires) refl refl (sym c.is_power_of_two.ensures ∙ c.if-not-is_power_of_two.false) c.if-n-gt-LIMIT.false
    (omega (arith, ap least_of c.self.view_is, c.least-least.ensures, c.if-n-least.false))

pub invariant_of-result : goal.invariant_of-result
invariant_of-result c = sound c

pub returns-clause-well_formed : goal.returns-clause-well_formed
returns-clause-well_formed c = (sound c).well_formed
