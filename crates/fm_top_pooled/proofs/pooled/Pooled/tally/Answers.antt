use Rattle.std.proofs.Common.{◌≡◌, ◌%◌, ◌≤◌, ℕ, length, ap, sym, subst, ◌∙◌, arith}
use Rattle.fm_top_pooled.specs.{Tallied.{counts_size}, Views.{PooledView}}
use Rattle.fm_top_pooled.proofs.{Beside.{can_open}, Shows.{length-pooled, shows_query}}
use Rattle.fm_top_pooled.proofs.pooled.Pooled.tally.Goals as goal

pub open_beside-counts-requires-clause-can : goal.open_beside-counts-requires-clause-can
open_beside-counts-requires-clause-can g c =
    let p = c.self.inside in
    can_open p.stock.segment counts_size c.self.invariant (omega arith)
    (subst (λ (v : PooledView). counts_size ≤ v.beside) (sym c.self.view_is) c.requires.beside)

pub count-requires-clause-can : goal.count-requires-clause-can
count-requires-clause-can g c κs within =
    let p = c.self.inside in
    let count : p.stock.segment.size ≡ length c.args.self.bytes =
    sym (length-pooled p.stock.pass p.stock.segment) ∙ ap (λ (v : PooledView). length v.bytes) c.self.view_is in
    record {
      stocked = c.open_beside-counts.ensures.stocked;
      beside = c.open_beside-counts.ensures.beside;
      tally = c.requires.tally;
      even = subst (λ (n : ℕ). n % c.args.q.now.size ≡ 0) (sym count) c.requires.even;
    }

pub returns-clause-shows : goal.returns-clause-shows
returns-clause-shows g c =
    shows_query c.args.self.bytes c.in_ok-found.ensures.asked c.finish-finished.ensures
    (c.open_beside-counts.ensures.bytes ∙ ap (λ (v : PooledView). v.bytes) c.self.view_is)
