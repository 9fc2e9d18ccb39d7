use Rattle.std.proofs.Common.{refl}
use Rattle.fm_top.proofs.Demos.{demo_ends, records_whole}
use Rattle.fm_top.proofs.outcome.demo.demo_reply.Goals as goal

pub answer_both-requires-clause-first_even : goal.answer_both-requires-clause-first_even
answer_both-requires-clause-first_even g c κs within = records_whole c.args.demo.now.count _ _ _ c.in_ok-pooled.ensures c.in_ok-first.ensures.first

pub answer_both-requires-clause-second_even : goal.answer_both-requires-clause-second_even
answer_both-requires-clause-second_even g c κs within = records_whole c.args.demo.now.count _ _ _ c.in_ok-pooled.ensures c.in_ok-first.ensures.second

pub returns : goal.returns
returns g c =
    demo_ends _ _ _ _ _ _ _ _ _ c.in_ok-first.ensures c.in_ok-pooled.ensures c.in_ok-one.ensures.first c.in_ok-one.ensures.second c.in_ok-one.ensures.shows
    refl refl
