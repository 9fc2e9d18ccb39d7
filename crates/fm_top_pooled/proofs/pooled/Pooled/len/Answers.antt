use Rattle.std.proofs.Common.{ap, sym, length, ◌∙◌}
use Rattle.fm_top_pooled.specs.Views.{PooledView}
use Rattle.fm_top_pooled.proofs.Shows.{length-pooled}
use Rattle.fm_top_pooled.proofs.pooled.Pooled.len.Goals as goal

pub returns : goal.returns
returns c =
    let p = c.self.inside in
    c.size.ensures.size ∙ sym (length-pooled p.stock.pass p.stock.segment) ∙ ap (λ (v : PooledView). length v.bytes) c.self.view_is
