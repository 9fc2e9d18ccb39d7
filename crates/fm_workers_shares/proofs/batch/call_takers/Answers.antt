use Rattle.std.{proofs.Common.{rules, ◌∷◌, [], List, map, refl, sym, ap, ◌∙◌, subst}, specs.List.{AllByRecursion}}
use Rattle.fm_base_lists.proofs.Each.{all_both}
use Rattle.fm_workers_shares.{specs.{declared.taker.Taker.{Taker}, Taking.{IsReady}}, proofs.Numbers.{numbered_more}}
use Rattle.fm_workers_shares.proofs.batch.call_takers.Goals as goal

pub loop-k-preserved : goal.loop-k-preserved
loop-k-preserved g c =
    let ready = IsReady (g.J.Job.making c.args.job.now) c.args.jobs.now in
    let one : ready _ = record { turn = c.another.ensures.taker; none = c.none.ensures } in
    record {
      ready = subst (AllByRecursion ready) (sym c.push_reserved.ensures.items)
          (all_both ready c.loop-k.takers.items (_ ∷ []) c.loop-k.invariant.ready (one, tt));
      count = search rules;
      numbers = ap (λ (ts : List (Taker _)). map (λ t. t.number) ts) c.push_reserved.ensures.items
          ∙ numbered_more (λ (t : Taker _). t.number) c.loop-k.takers.items _ c.loop-k.k c.loop-k.invariant.numbers refl;
      giver = search rules;
      room = search rules;
    }
