use Rattle.std.proofs.Common.{arith}
use Rattle.fm_workers_shares.proofs.Serving.{is_cut}
use Rattle.fm_workers_shares.proofs.shares.Shares.of.Goals as goal

pub invariant_of-result : goal.invariant_of-result
invariant_of-result c =
    is_cut c.args.query.now c.args.segment.now c.args.threads c.size.result c.record_size.result c.records_each-each.result c.record_size.ensures.plan
    c.requires.even (let ends = c.size.ensures.ends in omega (arith, ends)) c.requires.some c.requires.few c.size.ensures.size c.record_size.ensures.size
    c.records_each-each.ensures.each c.records_each-each.ensures.some

pub returns-clause-whole : goal.returns-clause-whole
returns-clause-whole c =
    is_cut c.args.query.now c.args.segment.now c.args.threads c.size.result c.record_size.result c.records_each-each.result c.record_size.ensures.plan
    c.requires.even (let ends = c.size.ensures.ends in omega (arith, ends)) c.requires.some c.requires.few c.size.ensures.size c.record_size.ensures.size
    c.records_each-each.ensures.each c.records_each-each.ensures.some
