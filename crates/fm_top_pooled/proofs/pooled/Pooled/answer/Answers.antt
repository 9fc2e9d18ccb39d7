use Rattle.std.proofs.Common.{◌≡◌, ◌%◌, ℕ, length, ap, sym, subst, ◌∙◌}
use Rattle.fm_top_pooled.specs.Views.{PooledView}
use Rattle.fm_top_pooled.proofs.Shows.{length-pooled, shows_query}
use Rattle.fm_top_pooled.proofs.pooled.Pooled.answer.Goals as goal

pub ask-requires-clause-even : goal.ask-requires-clause-even
ask-requires-clause-even g c κs within =
    let p = c.self.inside in
    let count : p.stock.segment.size ≡ length c.args.self.bytes = sym (length-pooled p.stock.pass p.stock.segment) ∙ ap (λ (v : PooledView). length v.bytes) c.self.view_is in
    subst (λ (n : ℕ). n % c.args.q.now.size ≡ 0) (sym count) c.requires.even

pub returns-clause-shows : goal.returns-clause-shows
returns-clause-shows g c = shows_query c.args.self.bytes c.in_ok-found.ensures.asked c.finish-finished.ensures (ap (λ (v : PooledView). v.bytes) c.self.view_is)
