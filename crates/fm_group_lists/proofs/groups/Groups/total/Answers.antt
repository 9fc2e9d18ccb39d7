use Rattle.std.{proofs.Common.{rules, ◌+◌, ◌%◌, ◌^◌, ◌<◌, length, get_or, ap, subst, ◌∙◌}, specs.Prelude.{List}}
use Rattle.fm_group_lists.{specs.Groups.{Group}, proofs.Totals.{total_more}}
use Rattle.fm_group_lists.proofs.groups.Groups.total.Goals as goal

pub loop-k-preserved : goal.loop-k-preserved
loop-k-preserved c =
    let x = c.index.result.now in
    let below : c.loop-k.k < length c.self.inside.pairs.items = search rules in
    let is = c.index.ensures ∙ ap (λ (gs : List Group). get_or gs c.loop-k.k c.index.result.now) c.self.view_is in
    ap (λ (g : Group). (c.loop-k.total + g.1) % 2 ^ 64) is
    ∙ total_more c.args.self.now c.loop-k.k c.index.result.now c.loop-k.total (subst (λ (gs : List Group). c.loop-k.k < length gs) c.self.view_is below) c.loop-k.invariant
