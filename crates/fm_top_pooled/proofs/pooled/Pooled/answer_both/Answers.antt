use Rattle.std.proofs.Common.{◌≡◌, ◌%◌, ℕ, length, ap, sym, subst, ◌∙◌}
use Rattle.fm_top_pooled.specs.Views.{PooledView}
use Rattle.fm_top_pooled.proofs.Shows.{length-pooled, shows_both}
use Rattle.fm_top_pooled.proofs.pooled.Pooled.answer_both.Goals as goal

pub ask-requires-clause-even : goal.ask-requires-clause-even
ask-requires-clause-even g c κs within =
    let p = c.self.inside in
    let count : p.stock.segment.size ≡ length c.args.self.bytes = sym (length-pooled p.stock.pass p.stock.segment) ∙ ap (λ (v : PooledView). length v.bytes) c.self.view_is in
    subst (λ (n : ℕ). n % c.args.p.now.size ≡ 0) (sym count) c.requires.first_even

pub ask-requires-2-clause-even : goal.ask-requires-2-clause-even
ask-requires-2-clause-even g c κs within =
    let p = c.self.inside in
    let count : p.stock.segment.size ≡ length c.args.self.bytes = sym (length-pooled p.stock.pass p.stock.segment) ∙ ap (λ (v : PooledView). length v.bytes) c.self.view_is in
    subst (λ (n : ℕ). n % c.args.q.now.size ≡ 0) (sym count) c.requires.second_even

pub returns-clause-shows : goal.returns-clause-shows
returns-clause-shows g c = shows_both c.args.self.bytes c.in_ok-first.ensures.asked c.in_ok-second.ensures.asked c.finish-finished.ensures (ap (λ (v : PooledView). v.bytes) c.self.view_is)
