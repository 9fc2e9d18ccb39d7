use Rattle.std.proofs.{Common.{subst}, lemmas.Result.{IfOk-weaker}}
use Rattle.fm_workers.specs.Query.{QueriedWith}
use Rattle.fm_top_pooled.proofs.Shows.{answers, can_ask, only_wants, was_asked}
use Rattle.fm_top_pooled.proofs.asking.ask.Goals as goal

pub query_with-found-requires-after_bounds : goal.query_with-found-requires-after_bounds
query_with-found-requires-after_bounds g c κs within =
    can_ask c.args.q.now c.args.threads c.requires.stocked c.requires.passes.crew.some c.requires.passes.crew.few

pub unless_wanting-requires : goal.unless_wanting-requires
unless_wanting-requires g c =
    only_wants c.requires.stocked (c.query_with-found.ensures.queried.still_sound c.requires.stocked.sound)
    c.query_with-found.result c.query_with-found.ensures.queried c.requires.even c.requires.passes

pub returns-clause-value : goal.returns-clause-value
returns-clause-value g c =
    let old = c.args.pass.now in
    IfOk-weaker c.unless_wanting.result _ _
    (λ a is. answers c.requires.stocked (c.query_with-found.ensures.queried.still_sound c.requires.stocked.sound) a
    (subst (λ r. QueriedWith c.args.threads old c.query_with-found.new.pass c.args.q.now c.args.s.now r) is c.query_with-found.ensures.queried))
    c.unless_wanting.ensures

pub returns-clause-asked : goal.returns-clause-asked
returns-clause-asked g c =
    let old = c.args.pass.now in
    IfOk-weaker c.unless_wanting.result _ _
    (λ a is. was_asked c.requires.stocked (c.query_with-found.ensures.queried.still_sound c.requires.stocked.sound) a
    (subst (λ r. QueriedWith c.args.threads old c.query_with-found.new.pass c.args.q.now c.args.s.now r) is c.query_with-found.ensures.queried)
    c.query_with-found.ensures.outside)
    c.unless_wanting.ensures
