use Rattle.std.proofs.Common.{rules}
use Rattle.fm_group_crew.proofs.Dealt.{bounds_more}
use Rattle.fm_group_crew.proofs.dealing.deal.Goals as goal

pub loop-k-preserved : goal.loop-k-preserved
loop-k-preserved c = record {
  dealt = bounds_more c.args.len c.args.threads c.loop-k.k c.loop-k.shares.items c.push_reserved.new.self.items _ c.loop-k.invariant.dealt
      c.start_of.ensures c.start_of-in-loop-k.ensures c.push_reserved.ensures.items;
  count = search rules;
  room = search rules;
}
